pub mod Crc
pub mod Kinds
pub mod Laws
pub mod Rows
