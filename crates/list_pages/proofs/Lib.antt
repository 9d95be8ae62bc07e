pub mod Asking
pub mod Ends
pub mod Follows
pub mod Marked
pub mod Paging
pub mod Taking
pub mod lemmas
