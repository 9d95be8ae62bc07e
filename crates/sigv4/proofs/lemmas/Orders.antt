-- Pairs in order, for the proofs of other crates.
pub use Rattle.sigv4.proofs.OrderLemmas.{stands_ordered, stands_permuted}
pub use Rattle.sigv4.proofs.SortLemmas.{only_order}
