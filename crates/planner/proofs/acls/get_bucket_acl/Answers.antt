use Rattle.std.specs.Prelude.{None, Some}
use Rattle.std.proofs.Common.{lit≤, rules}
use Rattle.account_calls.proofs.lemmas.Ends.{told_nothing, answers}
use Rattle.planner.proofs.BucketSteps.{acl_missing, acl_told}
use Rattle.planner.proofs.acls.get_bucket_acl.Goals as goal

pub returns-in_err-list-clause-plans : goal.returns-in_err-list-clause-plans
returns-in_err-list-clause-plans g c = λ label. told_nothing (lit≤ tt) c.in_err-list.ensures.asks _ c.from_residual.ensures.1

pub returns-in-Some-clause-plans : goal.returns-in-Some-clause-plans
returns-in-Some-clause-plans g c = λ label.
    answers (lit≤ tt) (Some c.in-Some.list) c.in-Some.is _ c.in_ok-list.ensures.asks (search rules) (λ tree any told. acl_told _ _ _ _ _ told)

pub returns-in-None-clause-plans : goal.returns-in-None-clause-plans
returns-in-None-clause-plans g c = λ label.
    answers (lit≤ tt) None c.in-None.is _ c.in_ok-list.ensures.asks (search rules) (λ tree any told. acl_missing _ _ _ _ told)
