use Rattle.std.proofs.Common.{refl, sym, ◌∙◌, rules}
use Rattle.account_calls.proofs.lemmas.Ends.{needs_none}
use Rattle.account_calls.proofs.lemmas.Alike.{plans_as}
use Rattle.many_keys.proofs.CopiedPart.{copied_under, copy_refused}
use Rattle.many_keys.proofs.copied_part.plan_part_copy_under_conditions.Goals as goal

pub returns-then-not-may_be_copied-clause-plans : goal.returns-then-not-may_be_copied-clause-plans
returns-then-not-may_be_copied-clause-plans g c = λ key text.
    needs_none _ (search rules) (λ tree may. copy_refused _ _ _ _ _ _ _ _ _ _ tree c.fits.ensures c.args.copy.into.id c.args.head may (sym c.may_be_copied.ensures ∙ c.if-not-may_be_copied.true))

pub returns-clause-plans : goal.returns-clause-plans
returns-clause-plans g c = λ key text.
    plans_as (record { parts = refl; failed = refl; out_of_memory = refl; commit = λ reply. refl })
    (λ tree may. copied_under _ _ _ _ _ _ _ _ _ _ tree c.fits.ensures c.args.copy.into.id c.args.head may.is (sym c.may_be_copied.ensures ∙ c.if-not-may_be_copied.false)) (c.plan_part_copy_of_source.ensures.plans key text)
