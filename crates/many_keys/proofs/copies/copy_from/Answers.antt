use Rattle.account_calls.specs.Answers.{condition_calls}
use Rattle.std.specs.Prelude.{◌+◌, None, Some}
use Rattle.std.proofs.Common.{arith, rules}
use Rattle.upload_records.specs.Native.{s3_state}
use Rattle.account_calls.proofs.lemmas.Ends.{told_nothing, answers, met_settled, after_told, goes_on_from}
use Rattle.many_keys.specs.Copies.{IsFoundBucket, IsFoundSource}
use Rattle.many_keys.proofs.CopySteps.{as_few, more_calls, copy_source_missing}
use Rattle.account_calls.proofs.lemmas.Refusals.{stops_behind}
use Rattle.many_keys.proofs.CopiedFrom.{copied_behind}
use Rattle.many_keys.proofs.copies.copy_from.Goals as goal

pub returns-in_err-head-clause-plans : goal.returns-in_err-head-clause-plans
returns-in_err-head-clause-plans g c = told_nothing (as_few c.args.copy.to.bucket c.args.copy.from_bucket c.args.copy.from_key 1 (3 + condition_calls c.args.only_if.now) _ (omega arith)) c.in_err-head.ensures.asks _ c.from_residual.ensures.1

pub returns-in_default-clause-plans : goal.returns-in_default-clause-plans
returns-in_default-clause-plans g c =
    answers (as_few c.args.copy.to.bucket c.args.copy.from_bucket c.args.copy.from_key 1 (3 + condition_calls c.args.only_if.now) _ (omega arith)) None c.in_default.is _ c.in_ok-head.ensures.asks (search rules) (λ tree found told. copy_source_missing _ _ _ _ _ _ _ _ _ _ _ _ c.requires.acl found told)

pub returns-clause-plans : goal.returns-clause-plans
returns-clause-plans g c =
    goes_on_from met_settled c.head_source.ensures.stays.settings c.in_ok-head.ensures.asks c.copy_under_conditions.ensures.plans
    (after_told (λ tree. IsFoundBucket c.args.copy.to.bucket c.args.copy.list c.args.copy.from_bucket (s3_state tree)) (λ tree. IsFoundSource c.args.copy.to.bucket c.args.copy.list c.args.copy.from_bucket c.args.copy.from_key c.in-Some.head (s3_state tree))
    (Some c.in-Some.head) c.in-Some.is (λ tree found told. record { listed = found.listed; source = told }))
    (λ x. more_calls c.args.copy.to.bucket c.args.copy.from_bucket c.args.copy.from_key 1 (2 + condition_calls c.args.only_if.now) (3 + condition_calls c.args.only_if.now) (omega arith) x.1.same)

pub returns-clause-stops : goal.returns-clause-stops
returns-clause-stops g c = stops_behind c.in_ok-head.ensures.asks _ c.copy_under_conditions.ensures.stops

pub returns-clause-source : goal.returns-clause-source
returns-clause-source g c = copied_behind c.in_ok-head.ensures.leaves c.in_ok-head.ensures.asks.grows.on.observable _ c.copy_under_conditions.ensures.source
