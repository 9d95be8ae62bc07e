use Rattle.std.specs.Prelude.{None, Some}
use Rattle.std.proofs.Common.{◌∙◌, lit≤, rules}
use Rattle.account_calls.proofs.lemmas.Ends.{told_nothing, out_of_memory, answers}
use Rattle.planner.proofs.BucketSteps.{locate_missing, located}
use Rattle.planner.proofs.buckets.get_location.Goals as goal

pub returns-in_err-region-clause-plans : goal.returns-in_err-region-clause-plans
returns-in_err-region-clause-plans g c = λ label. out_of_memory _ _ c.from_residual.ensures.1

pub returns-in_err-head_bucket-clause-plans : goal.returns-in_err-head_bucket-clause-plans
returns-in_err-head_bucket-clause-plans g c = λ label. told_nothing (lit≤ tt) c.in_err-head_bucket.ensures.asks _ c.from_residual-in_err-head_bucket.ensures.1

pub returns-in-Some-clause-plans : goal.returns-in-Some-clause-plans
returns-in-Some-clause-plans g c = λ label.
    answers (lit≤ tt) (Some c.in-Some.field-0) c.in-Some.is _ c.in_ok-head_bucket.ensures.asks (search rules)
    (λ tree any told. located _ _ _ _ _ told _ (c.in_ok-region.ensures ∙ search rules))

pub returns-in-None-clause-plans : goal.returns-in-None-clause-plans
returns-in-None-clause-plans g c = λ label.
    answers (lit≤ tt) None c.in-None.is _ c.in_ok-head_bucket.ensures.asks (search rules) (λ tree any told. locate_missing _ _ _ _ told)
