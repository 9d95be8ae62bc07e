pub mod Announced
pub mod Fields
pub mod Framing
pub mod Head
