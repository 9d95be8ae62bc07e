pub mod Laws
pub mod Limits
pub mod Number
pub mod Pack
pub mod Tag
