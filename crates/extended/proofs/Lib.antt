pub mod Checking
pub mod Opening
pub mod lemmas
