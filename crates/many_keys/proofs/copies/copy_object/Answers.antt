use Rattle.account_calls.specs.Answers.{condition_calls}
use Rattle.std.specs.Prelude.{◌+◌, None, Some}
use Rattle.std.proofs.Common.{arith, rules}
use Rattle.upload_records.specs.Native.{s3_state}
use Rattle.account_calls.specs.Calls.{Any, TellsBucket}
use Rattle.account_calls.proofs.lemmas.Ends.{told_nothing, answers, met_settled, after_told, goes_on_from}
use Rattle.many_keys.proofs.CopySteps.{as_few, more_calls, copy_missing}
use Rattle.account_calls.proofs.lemmas.Refusals.{stops_behind}
use Rattle.many_keys.proofs.CopiedFrom.{copied_behind}
use Rattle.many_keys.proofs.copies.copy_object.Goals as goal

pub returns-in_err-list-clause-plans : goal.returns-in_err-list-clause-plans
returns-in_err-list-clause-plans g c = told_nothing (as_few c.args.copy.bucket c.args.copy.from_bucket c.args.copy.from_key 1 (5 + condition_calls c.args.copy.only_if) _ (omega arith)) c.in_err-list.ensures.asks _ c.from_residual.ensures.1

pub returns-in_default-clause-plans : goal.returns-in_default-clause-plans
returns-in_default-clause-plans g c =
    answers (as_few c.args.copy.bucket c.args.copy.from_bucket c.args.copy.from_key 1 (5 + condition_calls c.args.copy.only_if) _ (omega arith)) None c.in_default.is _ c.in_ok-list.ensures.asks (search rules) (λ tree any told. copy_missing _ _ _ _ _ _ _ _ _ _ _ told)

pub returns-clause-plans : goal.returns-clause-plans
returns-clause-plans g c =
    goes_on_from met_settled c.head_bucket.ensures.stays.settings c.in_ok-list.ensures.asks c.copy_within.ensures.plans
    (after_told (λ tree. Any (s3_state tree)) (λ tree. TellsBucket c.args.copy.bucket (s3_state tree) (Some c.in-Some.list)) (Some c.in-Some.list) c.in-Some.is (λ tree any told. told))
    (λ x. more_calls c.args.copy.bucket c.args.copy.from_bucket c.args.copy.from_key 1 (4 + condition_calls c.args.copy.only_if) (5 + condition_calls c.args.copy.only_if) (omega arith) x.1.same)

pub returns-clause-stops : goal.returns-clause-stops
returns-clause-stops g c = stops_behind c.in_ok-list.ensures.asks _ c.copy_within.ensures.stops

pub returns-clause-source : goal.returns-clause-source
returns-clause-source g c = copied_behind c.in_ok-list.ensures.leaves c.in_ok-list.ensures.asks.grows.on.observable _ c.copy_within.ensures.source
