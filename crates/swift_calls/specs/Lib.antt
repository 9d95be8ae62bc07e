pub mod Account
pub mod Bodies
pub mod Files
pub mod History
pub mod Laws
pub mod Limits
pub mod Outcomes
pub mod Step
