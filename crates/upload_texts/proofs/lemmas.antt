pub mod Back
pub mod ReadBack
pub mod RecordVersions
pub mod SealedVersions
