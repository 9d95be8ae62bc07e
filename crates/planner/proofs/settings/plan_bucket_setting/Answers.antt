use Rattle.std.specs.Prelude.{None, Some, Ok}
use Rattle.std.proofs.Common.{ap, lit≤, rules}
use Rattle.account_calls.proofs.lemmas.Ends.{told_nothing, answers, ends_by}
use Rattle.planner.proofs.BucketSteps.{setting_missing, setting_told}
use Rattle.planner.proofs.settings.plan_bucket_setting.Goals as goal

pub returns-in_err-list-clause-plans : goal.returns-in_err-list-clause-plans
returns-in_err-list-clause-plans g c = λ label. told_nothing (lit≤ tt) c.in_err-list.ensures.asks _ c.from_residual.ensures.1

pub returns-in_default-clause-plans : goal.returns-in_default-clause-plans
returns-in_default-clause-plans g c = λ label.
    answers (lit≤ tt) None c.in_default.is _ c.in_ok-list.ensures.asks (search rules) (λ tree any told. setting_missing _ _ _ _ told _ _)

pub returns-clause-plans : goal.returns-clause-plans
returns-clause-plans g c = λ label.
    ends_by (lit≤ tt) (Some c.in-Some.list) c.in-Some.is _ c.in_ok-list.ensures.asks c.plan_unset_reply.ensures.own (search rules)
    (λ tree any told. (_, ap Ok c.plan_unset_reply.ensures.reply, setting_told _ _ _ _ _ told _))
