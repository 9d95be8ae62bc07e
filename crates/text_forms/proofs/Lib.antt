pub mod DigitLemmas
pub mod Texts
pub mod lemmas
