use Rattle.std.specs.Prelude.{IfSome}
use Rattle.std.proofs.Common.{subst}
use Rattle.account_calls.specs.Condition.{IsOfCondition}
use Rattle.planner.proofs.Conditions.{allows, refused_stops, refuses, unasked}
use Rattle.planner.proofs.Steps.{put_refused}
use Rattle.account_calls.proofs.lemmas.Refusals.{stops_unrefused}
use Rattle.planner.proofs.objects.plan_put_object_if.Goals as goal

pub returns-in_err-refused-clause-plans : goal.returns-in_err-refused-clause-plans
returns-in_err-refused-clause-plans g c = λ list same. unasked c.args.put.bucket c.args.put.key c.args.put.only_if list c.in_err-refused.ensures.asks _ c.from_residual.ensures.1

pub returns-in_default-clause-plans : goal.returns-in_default-clause-plans
returns-in_default-clause-plans g c = λ list same.
    allows c.args.put.bucket c.args.put.key c.args.put.only_if list c.in_default.is c.condition_refusal.ensures.stays.settings c.in_ok-refused.ensures.asks (c.plan_put_object_met.ensures.plans list same)

pub returns-clause-plans : goal.returns-clause-plans
returns-clause-plans g c = λ list same.
    refuses c.args.put.bucket c.args.put.key c.args.put.only_if list c.in-Some.code c.in-Some.is (subst (λ r. IfSome r IsOfCondition) c.in-Some.is c.in_ok-refused.ensures.codes) c.in_ok-refused.ensures.asks
    (λ state there told. put_refused c.args.state.now.settings.now state c.args.put.bucket c.args.put.key c.args.label.now list there c.args.put.acl c.args.put.content.content_type c.args.put.content.meta c.args.put.content.body c.args.put.only_if c.args.put.checksum c.in-Some.code same told)

pub returns-in_default-clause-stops : goal.returns-in_default-clause-stops
returns-in_default-clause-stops g c = stops_unrefused _ c.plan_put_object_met.ensures.unrefused

pub returns-clause-stops : goal.returns-clause-stops
returns-clause-stops g c = refused_stops c.args.put.only_if c.in_ok-refused.ensures.asks c.in-Some.code (subst (λ r. IfSome r IsOfCondition) c.in-Some.is c.in_ok-refused.ensures.codes)
