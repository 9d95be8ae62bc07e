pub mod ListedLemmas
pub mod lemmas
