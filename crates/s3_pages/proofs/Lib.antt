pub mod Dates
pub mod Escapes
pub mod Headers
pub mod Iso
pub mod Overlaid
pub mod Pieces
