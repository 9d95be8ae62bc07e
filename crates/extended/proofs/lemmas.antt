pub mod Checked
pub mod Opened
pub mod Refused
