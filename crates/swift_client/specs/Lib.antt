pub mod Client
pub mod Silent
