use Rattle.std.specs.Prelude.{◌+◌, None, Some}
use Rattle.std.proofs.Common.{ap, arith, rules}
use Rattle.upload_records.specs.Native.{s3_state}
use Rattle.account_calls.specs.Answers.{pages, records_of}
use Rattle.account_calls.specs.Calls.{Any, TellsBucket}
use Rattle.account_calls.proofs.lemmas.Ends.{told_nothing, answers, met_settled, after_told, goes_on_from}
use Rattle.upload_calls.proofs.lemmas.Opened.{lacks_of}
use Rattle.plan_uploads.proofs.Steps.{uploads_missing}
use Rattle.account_calls.proofs.lemmas.Refusals.{stops_unrefused}
use Rattle.plan_uploads.proofs.uploads.plan_list_uploads.Goals as goal

pub returns-in_err-head_bucket-clause-plans : goal.returns-in_err-head_bucket-clause-plans
returns-in_err-head_bucket-clause-plans g c = λ label. told_nothing (omega arith) c.in_err-head_bucket.ensures.asks _ c.from_residual.ensures.1

pub returns-in_default-clause-plans : goal.returns-in_default-clause-plans
returns-in_default-clause-plans g c = λ label.
    answers (omega arith) None c.in_default.is _ c.in_ok-head_bucket.ensures.asks (search rules) (λ tree any told. uploads_missing _ _ _ _ (lacks_of _ _ told) _ _ _ _ _)

pub returns-clause-plans : goal.returns-clause-plans
returns-clause-plans g c = λ label.
    goes_on_from met_settled c.head_bucket.ensures.stays.settings c.in_ok-head_bucket.ensures.asks (c.plan_list_uploads_within.ensures.plans c.in-Some.field-0 label)
    (after_told (λ tree. Any (s3_state tree)) (λ tree. TellsBucket c.args.list.bucket (s3_state tree) (Some c.in-Some.field-0)) (Some c.in-Some.field-0) c.in-Some.is (λ tree any told. told))
    (λ x. let same = ap (λ tree. pages (records_of tree c.args.list.bucket) + records_of tree c.args.list.bucket) x.1.same in omega (arith, same))

pub returns-clause-stops : goal.returns-clause-stops
returns-clause-stops g c = stops_unrefused _ c.plan_list_uploads_within.ensures.unrefused
