use Rattle.std.specs.Prelude.{None, Some}
use Rattle.std.proofs.Common.{sym, ◌∙◌, lit≤, rules}
use Rattle.account_calls.proofs.lemmas.Ends.{told_nothing, answers}
use Rattle.planner.proofs.BucketSteps.{show_missing, show_refused, shown}
use Rattle.planner.proofs.buckets.plan_head_bucket.Goals as goal

pub returns-in_err-list-clause-plans : goal.returns-in_err-list-clause-plans
returns-in_err-list-clause-plans g c = told_nothing (lit≤ tt) c.in_err-list.ensures.asks _ c.from_residual.ensures.1

pub returns-in_default-clause-plans : goal.returns-in_default-clause-plans
returns-in_default-clause-plans g c = answers (lit≤ tt) None c.in_default.is _ c.in_ok-list.ensures.asks (search rules) (λ tree any told. show_missing _ _ _ _ told)

pub returns-then-not-may_read-clause-plans : goal.returns-then-not-may_read-clause-plans
returns-then-not-may_read-clause-plans g c =
    answers (lit≤ tt) (Some c.in-Some.list) c.in-Some.is _ c.in_ok-list.ensures.asks (search rules)
    (λ tree any told. show_refused _ _ _ _ _ told (sym c.may_read.ensures ∙ c.if-not-may_read.true))

pub returns-clause-plans : goal.returns-clause-plans
returns-clause-plans g c =
    answers (lit≤ tt) (Some c.in-Some.list) c.in-Some.is _ c.in_ok-list.ensures.asks (search rules)
    (λ tree any told. shown _ _ _ _ _ told (sym c.may_read.ensures ∙ c.if-not-may_read.false))
