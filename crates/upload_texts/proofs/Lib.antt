pub mod Answering
pub mod Json
pub mod Levels
pub mod Limits
pub mod Lists
pub mod Utf8
pub mod lemmas
