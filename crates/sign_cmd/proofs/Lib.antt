pub mod AnswerLemmas
pub mod NamesLemmas
pub mod OnceLemmas
pub mod SigningLemmas
