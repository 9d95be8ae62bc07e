pub mod Counted
pub mod Ending
pub mod Map
pub mod Order
pub mod Passing
pub mod Standing
pub mod Worlds
