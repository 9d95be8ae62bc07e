pub mod Completing
pub mod Listing
pub mod Plans
pub mod Replies
