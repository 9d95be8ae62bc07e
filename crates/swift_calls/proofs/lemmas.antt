pub mod Files
pub mod Histories
