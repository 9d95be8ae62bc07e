pub mod Claim
pub mod Laws
pub mod Parameters
pub mod Url
pub mod Verdict
