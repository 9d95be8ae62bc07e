use Rattle.std.specs.Prelude.{None, Some}
use Rattle.std.proofs.Common.{subst, lit≤}
use Rattle.upload_records.specs.Native.{s3_state}
use Rattle.account_calls.specs.Calls.{GivenOf, TellsBucket}
use Rattle.upload_calls.specs.Records.{InBucket, ReadsId}
use Rattle.upload_calls.proofs.lemmas.Asking.{asks_as, asks_on}
use Rattle.upload_calls.proofs.lemmas.Finding.{no_record, there_of, stops_in_bucket}
use Rattle.upload_calls.proofs.found.find_upload.Goals as goal

pub returns-in_default-read_upload_id_to_find-clause-asks : goal.returns-in_default-read_upload_id_to_find-clause-asks
returns-in_default-read_upload_id_to_find-clause-asks g c =
    let reads : ReadsId c.args.text.now None = subst (ReadsId c.args.text.now) c.in_default-read_upload_id_to_find.is (subst (λ t. ReadsId t c.read_upload_id_to_find.result) c.as_slice.ensures c.read_upload_id_to_find.ensures) in
    asks_as (lit≤ tt) _
    (λ tree sound settled told.
    let there = there_of tree _ c.in-Some.field-0 c.fits.ensures settled (subst (TellsBucket _ (s3_state tree)) c.in-Some.is told) in
    record { settled = settled; there = there; none = λ content_type meta started is. no_record tree _ _ _ c.fits.ensures sound there reads is })
    c.in_ok-head_bucket.ensures.asks

pub returns-clause-asks : goal.returns-clause-asks
returns-clause-asks g c =
    let reads : ReadsId c.args.text.now (Some c.in-Some-read_upload_id_to_find.id) = subst (ReadsId c.args.text.now) c.in-Some-read_upload_id_to_find.is (subst (λ t. ReadsId t c.read_upload_id_to_find.result) c.as_slice.ensures c.read_upload_id_to_find.ensures) in
    asks_on {rest = GivenOf (InBucket c.args.bucket.now)} {m = 1} (lit≤ tt) c.in_ok-head_bucket.ensures.asks
    (λ tree settled told. record { settled = settled; is = there_of tree _ c.in-Some.field-0 c.fits.ensures settled (subst (TellsBucket _ (s3_state tree)) c.in-Some.is told) })
    (rw reads c.find_upload_by_id.ensures.asks)

pub returns-clause-by_text : goal.returns-clause-by_text
returns-clause-by_text g c =
    let reads : ReadsId c.args.text.now (Some c.in-Some-read_upload_id_to_find.id) = subst (ReadsId c.args.text.now) c.in-Some-read_upload_id_to_find.is (subst (λ t. ReadsId t c.read_upload_id_to_find.result) c.as_slice.ensures c.read_upload_id_to_find.ensures) in
    rw reads c.find_upload_by_id.ensures.by_text

pub returns-clause-missing : goal.returns-clause-missing
returns-clause-missing g c = stops_in_bucket c.in_ok-head_bucket.ensures.asks _ c.find_upload_by_id.ensures.asks c.find_upload_by_id.ensures.there

pub returns-in_default-clause-missing : goal.returns-in_default-clause-missing
returns-in_default-clause-missing g c = λ missing. c.in_ok-head_bucket.ensures.asks.grows.calls

pub returns-in_default-read_upload_id_to_find-clause-missing : goal.returns-in_default-read_upload_id_to_find-clause-missing
returns-in_default-read_upload_id_to_find-clause-missing g c = λ missing. c.in_ok-head_bucket.ensures.asks.grows.calls
