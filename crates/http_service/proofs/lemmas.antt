pub mod Counting
pub mod Faulty
pub mod Lines
pub mod NoneFaulty
pub mod Within
