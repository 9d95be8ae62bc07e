pub mod Cuts
pub mod IdLemmas
pub mod NumberLemmas
pub mod PackLemmas
pub mod lemmas
