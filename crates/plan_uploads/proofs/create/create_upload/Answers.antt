use Rattle.std.specs.Prelude.{◌+◌, ◌*◌, None, Some}
use Rattle.std.proofs.Common.{ap, arith, rules}
use Rattle.upload_records.specs.Native.{s3_state}
use Rattle.account_calls.specs.Answers.{records_of, segments_of}
use Rattle.account_calls.specs.Calls.{Any, TellsBucket}
use Rattle.account_calls.proofs.lemmas.Ends.{told_nothing, answers, met_settled, after_told, goes_on_from}
use Rattle.upload_calls.proofs.lemmas.Opened.{lacks_of}
use Rattle.plan_uploads.proofs.Beside.{opens_none, opens_on}
use Rattle.plan_uploads.proofs.Steps.{create_missing}
use Rattle.account_calls.proofs.lemmas.Refusals.{stops_behind}
use Rattle.plan_uploads.proofs.create.create_upload.Goals as goal

pub returns-in_err-list-clause-plans : goal.returns-in_err-list-clause-plans
returns-in_err-list-clause-plans g c = told_nothing (omega arith) c.in_err-list.ensures.asks _ c.from_residual.ensures.1

pub returns-in_err-list-clause-beside : goal.returns-in_err-list-clause-beside
returns-in_err-list-clause-beside g c = opens_none _ _ met_settled c.in_err-list.ensures.asks _

pub returns-in_default-clause-plans : goal.returns-in_default-clause-plans
returns-in_default-clause-plans g c =
    answers (omega arith) None c.in_default.is _ c.in_ok-list.ensures.asks (search rules) (λ tree any told. create_missing _ _ _ _ (lacks_of _ _ told) _ _ _ _)

pub returns-in_default-clause-beside : goal.returns-in_default-clause-beside
returns-in_default-clause-beside g c = opens_none _ _ met_settled c.in_ok-list.ensures.asks _

pub returns-clause-plans : goal.returns-clause-plans
returns-clause-plans g c =
    goes_on_from met_settled c.head_bucket.ensures.stays.settings c.in_ok-list.ensures.asks c.plan_create_upload_within.ensures.plans
    (after_told (λ tree. Any (s3_state tree)) (λ tree. TellsBucket c.args.start.bucket (s3_state tree) (Some c.in-Some.list)) (Some c.in-Some.list) c.in-Some.is (λ tree any told. told))
    (λ x. let same = ap (λ tree. 2 * (records_of tree c.args.start.bucket + segments_of tree c.args.start.bucket + 1)) x.1.same in omega (arith, same))

pub returns-clause-beside : goal.returns-clause-beside
returns-clause-beside g c =
    opens_on met_settled c.in_ok-list.ensures.asks (λ old new tells. tells.same)
    (after_told (λ tree. Any (s3_state tree)) (λ tree. TellsBucket c.args.start.bucket (s3_state tree) (Some c.in-Some.list)) (Some c.in-Some.list) c.in-Some.is (λ tree any told. told))
    c.plan_create_upload_within.ensures.plans.grows.on c.plan_create_upload_within.ensures.beside

pub returns-clause-stops : goal.returns-clause-stops
returns-clause-stops g c = stops_behind c.in_ok-list.ensures.asks _ c.plan_create_upload_within.ensures.stops
