pub mod Aging
pub mod Containers
pub mod Forgetting
pub mod Laws
pub mod Surveying
pub mod Swept
pub mod Walk
