pub mod CallText
pub mod Calls
pub mod Counted
pub mod Link
pub mod Paths
pub mod Place
