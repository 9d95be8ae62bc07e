pub mod PresigningLemmas
