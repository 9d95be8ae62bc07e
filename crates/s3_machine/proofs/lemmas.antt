pub mod Reading
pub mod StepLemmas
pub mod CopyConditions
pub mod Starts
pub mod WriteConditions
pub mod Buckets
