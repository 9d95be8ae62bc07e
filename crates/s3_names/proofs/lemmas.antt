pub mod BucketLemmas
pub mod Dots
pub mod EscapeLemmas
pub mod Ids
pub mod KeyLemmas
pub mod MetaLemmas
