pub mod Causes
pub mod Keys
pub mod Lines
pub mod Moments
pub mod Outputs
pub mod Replying
