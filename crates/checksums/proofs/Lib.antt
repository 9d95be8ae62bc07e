pub mod BurstLemmas
pub mod CheckValues
pub mod RowLemmas
pub mod ShiftLemmas
pub mod SizeLemmas
pub mod ValueLemmas
