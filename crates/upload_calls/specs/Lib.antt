pub mod Found
pub mod Interpret
pub mod Listing
pub mod Records
pub mod Taken
