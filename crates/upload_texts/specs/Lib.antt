pub mod Laws
pub mod Places
pub mod Records
pub mod Sealed
