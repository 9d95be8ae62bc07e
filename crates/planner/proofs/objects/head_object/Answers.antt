use Rattle.std.specs.Prelude.{None, Some}
use Rattle.std.proofs.Common.{lit≤, rules}
use Rattle.account_calls.proofs.lemmas.Ends.{told_nothing, answers, goes_on}
use Rattle.planner.proofs.Readings.{head_missing}
use Rattle.account_calls.proofs.lemmas.Refusals.{stops_behind}
use Rattle.planner.proofs.objects.head_object.Goals as goal

pub returns-in_err-list-clause-plans : goal.returns-in_err-list-clause-plans
returns-in_err-list-clause-plans g c = told_nothing (lit≤ tt) c.in_err-list.ensures.asks _ c.from_residual.ensures.1

pub returns-in_default-clause-plans : goal.returns-in_default-clause-plans
returns-in_default-clause-plans g c = answers (lit≤ tt) None c.in_default.is _ c.in_ok-list.ensures.asks (search rules) (λ tree any told. head_missing _ _ _ _ _ _ _ _ c.requires.planned _ told)

pub returns-clause-plans : goal.returns-clause-plans
returns-clause-plans g c = goes_on (lit≤ tt) (Some c.in-Some.list) c.in-Some.is c.head_bucket.ensures.stays.settings c.in_ok-list.ensures.asks c.plan_head_object_within.ensures.plans (λ tree any told. told)

pub returns-clause-stops : goal.returns-clause-stops
returns-clause-stops g c = stops_behind c.in_ok-list.ensures.asks _ c.plan_head_object_within.ensures.stops
