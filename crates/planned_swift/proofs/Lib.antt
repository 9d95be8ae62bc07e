pub mod ByName
pub mod Joining
pub mod Manifests
pub mod Paging
pub mod Replaying
pub mod Serving
pub mod Telling
pub mod lemmas
