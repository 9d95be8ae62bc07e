pub mod Entries
pub mod Numbers
pub mod Ranging
pub mod Sources
pub mod Tags
pub mod Tokens
