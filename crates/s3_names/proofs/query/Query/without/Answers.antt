use Rattle.std.proofs.Common.{ap, ◌∙◌}
use Rattle.std.specs.List.{list_all}
use Rattle.s3_names.specs.Query.{is_text_pair}
use Rattle.s3_names.proofs.QueryLemmas.{kept_are_texts}
use Rattle.s3_names.proofs.query.Query.without.Goals as goal

pub invariant_of-result : goal.invariant_of-result
invariant_of-result c = ap (λ pairs. list_all is_text_pair pairs) c.in_ok-query_pairs_without.ensures ∙ kept_are_texts _ _ (ap (λ pairs. list_all is_text_pair pairs) c.as_slice.ensures ∙ c.self.invariant)
