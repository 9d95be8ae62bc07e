pub mod Deletions
pub mod Listings
