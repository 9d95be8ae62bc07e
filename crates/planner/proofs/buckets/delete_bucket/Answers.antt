use Rattle.std.proofs.Common.{sym, subst, lit≤}
use Rattle.account_calls.specs.Plan.{Plans}
use Rattle.account_calls.proofs.lemmas.Ends.{commits}
use Rattle.planner.proofs.Replies.{dropped_is_own}
use Rattle.planner.proofs.BucketSteps.{dropped}
use Rattle.planner.proofs.Bodiless.{dropped_bodiless, bodiless_by}
use Rattle.planner.proofs.buckets.delete_bucket.Goals as goal

pub returns-clause-plans : goal.returns-clause-plans
returns-clause-plans g c = λ label.
    subst (Plans _ _ _ _ _ _ _ _) (sym c.end_delete_bucket_plan.ensures)
    (commits _ (lit≤ tt) c.delete_bucket_container.ensures.changes dropped_is_own (λ tree any. tt) (λ _ told new any does. dropped _ _ _ _ told new does))

pub returns-clause-bodiless : goal.returns-clause-bodiless
returns-clause-bodiless g c = bodiless_by _ _ _ _ c.end_delete_bucket_plan.ensures dropped_bodiless
