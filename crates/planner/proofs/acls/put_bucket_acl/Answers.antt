use Rattle.std.proofs.Common.{sym, subst, lit≤}
use Rattle.account_calls.specs.Plan.{Plans}
use Rattle.account_calls.proofs.lemmas.Ends.{commits}
use Rattle.planner.proofs.Replies.{set_is_own}
use Rattle.planner.proofs.BucketSteps.{set}
use Rattle.planner.proofs.Bodiless.{bodiless_by, set_bodiless}
use Rattle.planner.proofs.acls.put_bucket_acl.Goals as goal

pub returns-clause-plans : goal.returns-clause-plans
returns-clause-plans g c = λ label.
    subst (Plans _ _ _ _ _ _ _ _) (sym c.end_put_bucket_acl_plan.ensures)
    (commits _ (lit≤ tt) c.post_bucket_container.ensures.changes set_is_own (λ tree any. tt) (λ _ told new any does. set _ _ _ _ _ told new does))

pub returns-clause-bodiless : goal.returns-clause-bodiless
returns-clause-bodiless g c = bodiless_by _ _ _ _ c.end_put_bucket_acl_plan.ensures set_bodiless
