pub mod Maps
pub mod Named
