pub mod DescriptionLemmas
pub mod NumberLemmas
pub mod WordsLemmas
