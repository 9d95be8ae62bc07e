pub mod Forgetting
pub mod Made
pub mod Native
pub mod NewIds
pub mod Numbered
pub mod Reads
