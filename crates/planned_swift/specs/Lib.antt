pub mod Accounts
pub mod Lists
pub mod MemSwift
pub mod Replay
