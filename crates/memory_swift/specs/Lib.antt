pub mod Handing
pub mod Log
