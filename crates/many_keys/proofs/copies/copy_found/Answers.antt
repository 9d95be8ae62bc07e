use Rattle.std.proofs.Common.{sym, ◌∙◌, rules}
use Rattle.account_calls.proofs.lemmas.Ends.{needs_none}
use Rattle.many_keys.proofs.CopySteps.{copy_itself}
use Rattle.many_keys.proofs.copies.copy_found.Goals as goal

pub returns-then-is_onto_itself-clause-plans : goal.returns-then-is_onto_itself-clause-plans
returns-then-is_onto_itself-clause-plans g c =
    needs_none _ (search rules) (λ tree found. copy_itself _ _ _ _ _ _ _ _ _ _ c.requires.acl _ found (sym c.is_onto_itself.ensures ∙ c.if-is_onto_itself.true))

pub copy_if-requires-clause-other : goal.copy_if-requires-clause-other
copy_if-requires-clause-other g c = sym c.is_onto_itself.ensures ∙ c.if-is_onto_itself.false
