pub mod Bounded
pub mod Consistent
pub mod Laws
pub mod Layout
pub mod Native
