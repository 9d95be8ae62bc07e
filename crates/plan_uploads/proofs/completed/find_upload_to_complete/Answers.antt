use Rattle.std.specs.Prelude.{None, Some}
use Rattle.std.proofs.Common.{subst, lit≤}
use Rattle.upload_records.specs.Native.{s3_state}
use Rattle.account_calls.specs.Calls.{GivenOf, TellsBucket}
use Rattle.upload_calls.specs.Records.{InBucket, ReadsId}
use Rattle.upload_calls.proofs.lemmas.Asking.{asks_as, asks_on}
use Rattle.upload_calls.proofs.lemmas.Finding.{there_of}
use Rattle.plan_uploads.proofs.FoundCompletion.{no_completion}
use Rattle.plan_uploads.proofs.Stopping.{stops_in_bucket}
use Rattle.plan_uploads.proofs.completed.find_upload_to_complete.Goals as goal

pub returns-in_default-read_upload_id_to_find-clause-asks : goal.returns-in_default-read_upload_id_to_find-clause-asks
returns-in_default-read_upload_id_to_find-clause-asks g c =
    let reads : ReadsId c.args.done.now.id None = subst (ReadsId c.args.done.now.id) c.in_default-read_upload_id_to_find.is (subst (λ t. ReadsId t c.read_upload_id_to_find.result) c.as_slice.ensures c.read_upload_id_to_find.ensures) in
    asks_as (lit≤ tt) _
    (λ tree sound settled told.
    let there = there_of tree _ c.in-Some.field-0 c.fits.ensures settled (subst (TellsBucket _ (s3_state tree)) c.in-Some.is told) in
    no_completion tree _ _ _ _ c.fits.ensures sound settled there reads)
    c.in_ok-head_bucket.ensures.asks

pub returns-clause-asks : goal.returns-clause-asks
returns-clause-asks g c =
    let reads : ReadsId c.args.done.now.id (Some c.in-Some-read_upload_id_to_find.id) = subst (ReadsId c.args.done.now.id) c.in-Some-read_upload_id_to_find.is (subst (λ t. ReadsId t c.read_upload_id_to_find.result) c.as_slice.ensures c.read_upload_id_to_find.ensures) in
    asks_on {rest = GivenOf (InBucket c.args.done.now.bucket)} {m = 1} (lit≤ tt) c.in_ok-head_bucket.ensures.asks
    (λ tree settled told. record { settled = settled; is = there_of tree _ c.in-Some.field-0 c.fits.ensures settled (subst (TellsBucket _ (s3_state tree)) c.in-Some.is told) })
    (rw reads c.find_recorded.ensures.asks)

pub returns-clause-missing : goal.returns-clause-missing
returns-clause-missing g c = stops_in_bucket c.in_ok-head_bucket.ensures.asks _ c.find_recorded.ensures.asks c.find_recorded.ensures.there

pub returns-in_default-clause-missing : goal.returns-in_default-clause-missing
returns-in_default-clause-missing g c = λ missing. c.in_ok-head_bucket.ensures.asks.grows.calls

pub returns-in_default-read_upload_id_to_find-clause-missing : goal.returns-in_default-read_upload_id_to_find-clause-missing
returns-in_default-read_upload_id_to_find-clause-missing g c = λ missing. c.in_ok-head_bucket.ensures.asks.grows.calls
