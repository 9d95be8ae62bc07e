pub mod AnswerLaws
pub mod AnswerText
pub mod Answers
pub mod Fields
pub mod Parted
