pub mod Looping
pub mod Runs
pub mod Stepping
pub mod lemmas
