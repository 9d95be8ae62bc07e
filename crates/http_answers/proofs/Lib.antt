pub mod AnnouncedLemmas
pub mod lemmas
