pub mod Asking
pub mod Digits
pub mod Finding
pub mod Free
pub mod Opened
pub mod PartWalk
pub mod RecordIds
pub mod Taking
