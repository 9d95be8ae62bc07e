pub mod Checked
pub mod Chunks
pub mod Opened
pub mod Refused
pub mod Trailers
