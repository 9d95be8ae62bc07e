pub mod Appends
pub mod Points
pub mod Times
