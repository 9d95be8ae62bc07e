pub mod QueryLemmas
pub mod TargetLemmas
pub mod lemmas
