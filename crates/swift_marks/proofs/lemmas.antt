pub mod FieldLaws
pub mod PackLaws
pub mod Stamps
pub mod TagLaws
