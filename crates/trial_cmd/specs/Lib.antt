pub mod Replied
pub mod Served
