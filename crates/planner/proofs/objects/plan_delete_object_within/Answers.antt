use Rattle.std.specs.Prelude.{IfSome}
use Rattle.std.proofs.Common.{subst}
use Rattle.account_calls.specs.Condition.{IsOfCondition}
use Rattle.planner.proofs.Conditions.{allows, refused_stops, refuses, unasked}
use Rattle.planner.proofs.Steps.{delete_refused}
use Rattle.account_calls.proofs.lemmas.Refusals.{stops_unrefused}
use Rattle.planner.proofs.objects.plan_delete_object_within.Goals as goal

pub returns-in_err-refused-clause-plans : goal.returns-in_err-refused-clause-plans
returns-in_err-refused-clause-plans g c = λ list label. unasked c.args.deletion.bucket c.args.deletion.key c.args.deletion.only_if list c.in_err-refused.ensures.asks _ c.from_residual.ensures.1

pub returns-in_default-clause-plans : goal.returns-in_default-clause-plans
returns-in_default-clause-plans g c = λ list label.
    allows c.args.deletion.bucket c.args.deletion.key c.args.deletion.only_if list c.in_default.is c.condition_refusal.ensures.stays.settings c.in_ok-refused.ensures.asks (c.plan_delete_object_met.ensures.plans list c.args.deletion.only_if label)

pub returns-clause-plans : goal.returns-clause-plans
returns-clause-plans g c = λ list label.
    refuses c.args.deletion.bucket c.args.deletion.key c.args.deletion.only_if list c.in-Some.code c.in-Some.is (subst (λ r. IfSome r IsOfCondition) c.in-Some.is c.in_ok-refused.ensures.codes) c.in_ok-refused.ensures.asks
    (λ state there told. delete_refused c.args.state.now.settings.now state c.args.deletion.bucket c.args.deletion.key label list there c.args.deletion.only_if c.in-Some.code told)

pub returns-in_default-clause-stops : goal.returns-in_default-clause-stops
returns-in_default-clause-stops g c = stops_unrefused _ c.plan_delete_object_met.ensures.unrefused

pub returns-clause-stops : goal.returns-clause-stops
returns-clause-stops g c = refused_stops c.args.deletion.only_if c.in_ok-refused.ensures.asks c.in-Some.code (subst (λ r. IfSome r IsOfCondition) c.in-Some.is c.in_ok-refused.ensures.codes)
