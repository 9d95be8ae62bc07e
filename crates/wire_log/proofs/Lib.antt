pub mod PlainLemmas
