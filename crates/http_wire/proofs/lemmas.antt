pub mod HeadersLemmas
pub mod MessageLemmas
pub mod OwedLemmas
pub mod UniqueLemmas
