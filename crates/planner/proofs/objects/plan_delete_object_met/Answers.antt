use Rattle.std.proofs.Common.{sym, subst, lit≤, rules, refl}
use Rattle.account_calls.specs.Plan.{Plans}
use Rattle.account_calls.proofs.lemmas.Ends.{commits, becomes}
use Rattle.planner.proofs.Steps.{deletes}
use Rattle.account_calls.proofs.lemmas.Refusals.{unrefused_ended}
use Rattle.account_calls.specs.Refusals.{Unrefused}
use Rattle.planner.proofs.Bodiless.{bodiless_by}
use Rattle.planner.proofs.objects.plan_delete_object_met.Goals as goal

pub returns-clause-plans : goal.returns-clause-plans
returns-clause-plans g c = λ list only_if label.
    subst (Plans _ _ _ _ _ _ _ _) (sym c.end_delete_object_plan.ensures)
    (commits _ (lit≤ tt) c.delete_object.ensures.changes (λ done. search rules) (λ tree there. tt) (λ _ done new there is. becomes (deletes _ _ _ _ _ list there.in_bucket only_if there.told) is))

pub returns-clause-unrefused : goal.returns-clause-unrefused
returns-clause-unrefused g c = subst Unrefused (sym c.end_delete_object_plan.ensures) (unrefused_ended _ (λ told. refl) _)

pub returns-clause-bodiless : goal.returns-clause-bodiless
returns-clause-bodiless g c = bodiless_by _ _ _ _ c.end_delete_object_plan.ensures (λ told. tt)
