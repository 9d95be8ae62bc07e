pub mod FieldLemmas
pub mod FramingLemmas
pub mod HeadLemmas
pub mod NumberLemmas
