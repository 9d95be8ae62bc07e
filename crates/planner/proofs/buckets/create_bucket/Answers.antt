use Rattle.std.specs.Prelude.{Some}
use Rattle.std.proofs.Common.{rules, arith}
use Rattle.account_calls.proofs.lemmas.Ends.{told_nothing, answers}
use Rattle.planner.proofs.CreateBucket.{steps_owned}
use Rattle.planner.proofs.MakeBucket.{missing_goes_on}
use Rattle.account_calls.proofs.lemmas.Refusals.{stops_unrefused}
use Rattle.planner.proofs.buckets.create_bucket.Goals as goal

pub returns-in_err-head_bucket-clause-plans : goal.returns-in_err-head_bucket-clause-plans
returns-in_err-head_bucket-clause-plans g c = told_nothing (omega arith) c.in_err-head_bucket.ensures.asks _ c.from_residual.ensures.1

pub returns-in-None-clause-plans : goal.returns-in-None-clause-plans
returns-in-None-clause-plans g c = missing_goes_on c.args.made.bucket c.fits.ensures c.head_bucket.ensures.stays.settings c.args.made.acl c.in-None.is c.in_ok-head_bucket.ensures.asks c.plan_create_missing_bucket.ensures.plans

pub returns-in-Some-clause-plans : goal.returns-in-Some-clause-plans
returns-in-Some-clause-plans g c = answers (omega arith) (Some c.in-Some.field-0) c.in-Some.is _ c.in_ok-head_bucket.ensures.asks (search rules) (λ tree any told. steps_owned _ _ _ _ _ _ told)

pub returns-in-None-clause-stops : goal.returns-in-None-clause-stops
returns-in-None-clause-stops g c = stops_unrefused _ c.plan_create_missing_bucket.ensures.unrefused
