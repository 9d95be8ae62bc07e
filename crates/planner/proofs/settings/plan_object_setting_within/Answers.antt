use Rattle.std.specs.Prelude.{None, Some}
use Rattle.std.proofs.Common.{ap, lit≤, rules}
use Rattle.std.specs.Prelude.{Ok}
use Rattle.account_calls.proofs.lemmas.Ends.{told_nothing, answers, ends_by}
use Rattle.planner.proofs.BucketSteps.{object_setting_none, object_setting_told}
use Rattle.planner.proofs.settings.plan_object_setting_within.Goals as goal

pub returns-in_err-head_object-clause-plans : goal.returns-in_err-head_object-clause-plans
returns-in_err-head_object-clause-plans g c = λ list label. told_nothing (lit≤ tt) c.in_err-head_object.ensures.asks _ c.from_residual.ensures.1

pub returns-in_default-clause-plans : goal.returns-in_default-clause-plans
returns-in_default-clause-plans g c = λ list label.
    answers (lit≤ tt) None c.in_default.is _ c.in_ok-head_object.ensures.asks (search rules) (λ tree there none. object_setting_none _ _ _ _ _ there _ _ none)

pub returns-clause-plans : goal.returns-clause-plans
returns-clause-plans g c = λ list label.
    ends_by (lit≤ tt) (Some c.in-Some.field-0) c.in-Some.is _ c.in_ok-head_object.ensures.asks c.plan_unset_reply.ensures.own (search rules)
    (λ tree there object. (_, ap Ok c.plan_unset_reply.ensures.reply, object_setting_told _ _ _ _ _ there _ _ _ object))
