use Rattle.std.proofs.Common.{sym, subst, lit≤, rules, refl}
use Rattle.account_calls.specs.Plan.{Plans}
use Rattle.account_calls.proofs.lemmas.Ends.{out_of_memory, commits, becomes}
use Rattle.planner.proofs.CreateBucket.{steps_made}
use Rattle.account_calls.proofs.lemmas.Refusals.{unrefused_ended}
use Rattle.account_calls.specs.Refusals.{Unrefused}
use Rattle.planner.proofs.Bodiless.{bodiless_by}
use Rattle.planner.proofs.buckets.plan_create_bare_bucket.Goals as goal

pub returns-clause-plans : goal.returns-clause-plans
returns-clause-plans g c =
    subst (Plans _ _ _ _ _ _ _ _) (sym c.end_create_bucket_plan.ensures)
    (commits _ (lit≤ tt) c.put_bucket_container.ensures.changes (λ done. search rules) (λ tree may. may)
    (λ tree done new may is. becomes (steps_made _ _ _ _ _ _ c.in_ok-name.ensures.value may.lacks) is))

pub returns-in_err-name-clause-plans : goal.returns-in_err-name-clause-plans
returns-in_err-name-clause-plans g c = out_of_memory _ _ c.from_residual.ensures.1

pub returns-clause-unrefused : goal.returns-clause-unrefused
returns-clause-unrefused g c = subst Unrefused (sym c.end_create_bucket_plan.ensures) (unrefused_ended _ (λ told. refl) _)

pub returns-clause-bodiless : goal.returns-clause-bodiless
returns-clause-bodiless g c = bodiless_by _ _ _ _ c.end_create_bucket_plan.ensures (λ told. tt)
