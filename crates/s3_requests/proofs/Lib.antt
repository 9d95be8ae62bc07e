pub mod Left
pub mod ProperCopies
pub mod ProperReads
pub mod Reasons
pub mod Strict
pub mod Texts
pub mod lemmas
