-- Texts that are cut at a byte, for the proofs of other crates.
pub use Rattle.sigv4.proofs.CutLemmas.{is_free, before_of, after_of, all_joined, all_weaker, all_in_join, split_joined}
