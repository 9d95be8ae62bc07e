pub mod Buckets
pub mod Deletions
pub mod Listing
pub mod Objects
pub mod Reading
