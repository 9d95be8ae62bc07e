pub mod Fault
pub mod Jumps
pub mod Listing
pub mod Rolling
pub mod Rolls
