use Rattle.std.proofs.Common.{sym, ◌∙◌, rules}
use Rattle.account_calls.proofs.lemmas.Ends.{needs_none}
use Rattle.many_keys.proofs.CopySteps.{copy_other}
use Rattle.many_keys.proofs.copies.copy_within.Goals as goal

pub returns-then-is_other_acl-clause-plans : goal.returns-then-is_other_acl-clause-plans
returns-then-is_other_acl-clause-plans g c = needs_none _ (search rules) (λ tree there. copy_other _ _ _ _ _ _ _ _ _ _ _ _ there (sym c.is_other_acl.ensures ∙ c.if-is_other_acl.true))

pub returns-clause-plans : goal.returns-clause-plans
returns-clause-plans g c = c.copy_with_acl.ensures.plans
