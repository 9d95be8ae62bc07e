pub mod CopiedLists
pub mod CopiedPart
pub mod Copies
pub mod ObjectCopy
pub mod OwnSegments
pub mod Replies
