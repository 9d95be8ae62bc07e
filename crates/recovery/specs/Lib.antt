pub mod Rolls
pub mod Settling
