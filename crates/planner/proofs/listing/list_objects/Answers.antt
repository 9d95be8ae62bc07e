use Rattle.std.specs.Prelude.{None, Some}
use Rattle.std.proofs.Common.{arith, rules}
use Rattle.account_calls.specs.Answers.{pages_listed}
use Rattle.account_calls.proofs.lemmas.Ends.{told_nothing, answers}
use Rattle.planner.proofs.Listings.{counted_on, list_missing}
use Rattle.account_calls.proofs.lemmas.Refusals.{stops_behind}
use Rattle.planner.proofs.listing.list_objects.Goals as goal

pub returns-in_err-list-clause-plans : goal.returns-in_err-list-clause-plans
returns-in_err-list-clause-plans g c = told_nothing (omega arith) c.in_err-list.ensures.asks _ c.from_residual.ensures.1

pub returns-in_default-clause-plans : goal.returns-in_default-clause-plans
returns-in_default-clause-plans g c = answers (omega arith) None c.in_default.is _ c.in_ok-list.ensures.asks (search rules) (λ tree any told. list_missing _ _ _ _ _ told)

pub returns-clause-plans : goal.returns-clause-plans
returns-clause-plans g c = counted_on (pages_listed c.args.wanted.bucket c.args.wanted.asked) (Some c.in-Some.list) c.in-Some.is c.head_bucket.ensures.stays.settings c.in_ok-list.ensures.asks c.plan_list_objects_within.ensures.plans (λ tree any told. told)

pub returns-clause-stops : goal.returns-clause-stops
returns-clause-stops g c = stops_behind c.in_ok-list.ensures.asks _ c.plan_list_objects_within.ensures.stops
