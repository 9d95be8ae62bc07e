pub mod Coded
pub mod Kept
pub mod Listed
pub mod Listing
pub mod Made
pub mod MadeLaws
pub mod Serving
pub mod Shelf
