use Rattle.std.proofs.Common.{map, ◌∙◌, rules}
use Rattle.std.proofs.lemmas.List.Sorted.{answers_always}
use Rattle.sigv4.specs.Canonical.{escaped_pair}
use Rattle.sigv4.proofs.SortLemmas.{before, strict, only_order, from_places}
use Rattle.sigv4.proofs.request.ordered_canonical_pairs.Goals as goal

pub returns : goal.returns
returns c =
    let same_pairs = rw (c.into_vec-escaped.ensures, c.in_ok-escaped_pairs.ensures) at c.sort_unstable_by.ensures.permutation in
    let in_order = c.sort_unstable_by.ensures.sorted before strict (answers_always _ _ _ (λ f a r g h. search rules)) in
    c.from_vec.ensures ∙ only_order (map escaped_pair c.args.pairs.now) _ (from_places _ in_order) same_pairs
