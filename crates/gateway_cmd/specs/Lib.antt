pub mod Facts
pub mod Laws
pub mod Lives
pub mod Report
pub mod Run
pub mod Session
pub mod Sweeps
pub mod Tasks
