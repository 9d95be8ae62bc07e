pub mod Budget
pub mod Counts
pub mod Digests
pub mod Holding
pub mod Locks
pub mod Rereads
pub mod lemmas
