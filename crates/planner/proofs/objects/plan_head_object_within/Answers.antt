use Rattle.std.specs.Prelude.{None, Some, Ok}
use Rattle.std.proofs.Common.{sym, ap, ◌∙◌, lit≤, rules}
use Rattle.account_calls.proofs.lemmas.Ends.{needs_none, told_nothing, answers, ends_by}
use Rattle.planner.specs.Objects.{headed_reply}
use Rattle.planner.proofs.Readings.{head_refused, head_none, head_there}
use Rattle.planner.proofs.Stopping.{headed_stops}
use Rattle.planner.proofs.objects.plan_head_object_within.Goals as goal

pub returns-then-not-may_read-clause-plans : goal.returns-then-not-may_read-clause-plans
returns-then-not-may_read-clause-plans g c = needs_none _ (search rules) (λ tree there. head_refused _ _ _ _ _ _ _ _ c.requires.planned _ _ there (sym c.may_read.ensures ∙ c.if-not-may_read.true))

pub returns-in_err-head-clause-plans : goal.returns-in_err-head-clause-plans
returns-in_err-head-clause-plans g c = told_nothing (lit≤ tt) c.in_err-head.ensures.asks _ c.from_residual.ensures.1

pub returns-in_default-clause-plans : goal.returns-in_default-clause-plans
returns-in_default-clause-plans g c = answers (lit≤ tt) None c.in_default.is _ c.in_ok-head.ensures.asks (search rules) (λ tree there none. head_none _ _ _ _ _ _ _ _ c.requires.planned _ _ there (sym c.may_read.ensures ∙ c.if-not-may_read.false) none)

pub returns-clause-plans : goal.returns-clause-plans
returns-clause-plans g c =
    ends_by (lit≤ tt) (Some c.in-Some.head) c.in-Some.is _ c.in_ok-head.ensures.asks c.end_head_object_plan.ensures.own (search rules)
    (λ tree there object. (headed_reply c.args.read.range c.args.read.conditions c.args.read.shown c.in-Some.head, ap Ok c.end_head_object_plan.ensures.reply, head_there _ _ _ _ _ _ _ _ c.requires.planned _ _ there (sym c.may_read.ensures ∙ c.if-not-may_read.false) _ object))

pub returns-clause-stops : goal.returns-clause-stops
returns-clause-stops g c = rw c.end_head_object_plan.ensures.reply (headed_stops c.in_ok-head.ensures.asks c.args.read.range c.args.read.conditions c.args.read.shown c.in-Some.head)
