use Rattle.std.proofs.Common.{refl, sym, ◌∙◌, rules}
use Rattle.account_calls.proofs.lemmas.Ends.{needs_none}
use Rattle.account_calls.proofs.lemmas.Alike.{plans_as}
use Rattle.many_keys.proofs.CopySteps.{copied_under, copy_refused}
use Rattle.many_keys.proofs.copies.copy_under_conditions.Goals as goal

pub returns-then-not-may_be_copied-clause-plans : goal.returns-then-not-may_be_copied-clause-plans
returns-then-not-may_be_copied-clause-plans g c =
    needs_none _ (search rules) (λ tree found. copy_refused _ _ _ _ _ _ _ _ _ _ _ _ c.requires.acl found (sym c.may_be_copied.ensures ∙ c.if-not-may_be_copied.true))

pub returns-clause-plans : goal.returns-clause-plans
returns-clause-plans g c =
    plans_as (record { parts = refl; failed = refl; out_of_memory = refl; commit = λ reply. refl }) (λ tree found. copied_under found.is (sym c.may_be_copied.ensures ∙ c.if-not-may_be_copied.false)) c.copy_found.ensures.plans
