pub mod Alone
pub mod Fresh
pub mod Handed
pub mod Logged
