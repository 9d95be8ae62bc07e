pub mod Bodies
pub mod Forms
pub mod Openings
pub mod Readers
pub mod Runs
