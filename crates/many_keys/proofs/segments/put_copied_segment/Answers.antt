use Rattle.std.proofs.Common.{◌≡◌, true, length, ap, ◌∙◌, refl}
use Rattle.std.proofs.lemmas.Result.{IfOk-weaker}
use Rattle.s3_machine.specs.ETag.{body_etag}
use Rattle.upload_texts.specs.Sealed.{part_fits_sealed_text}
use Rattle.upload_texts.specs.declared.sealed.SealedPart.{SealedPart}
use Rattle.account_calls.proofs.lemmas.One.{not_asked}
use Rattle.many_keys.proofs.PieceCalls.{part_is_sealed}
use Rattle.many_keys.proofs.OwnSegments.{own_failed}
use Rattle.many_keys.proofs.segments.put_copied_segment.Goals as goal

pub returns-in_err-from_slice-clause-asks : goal.returns-in_err-from_slice-clause-asks
returns-in_err-from_slice-clause-asks g c = not_asked _ _ _ c.from_residual.ensures.1

pub put_copied_segment_file-requires-clause-same : goal.put_copied_segment_file-requires-clause-same
put_copied_segment_file-requires-clause-same g c = c.in_ok-from_slice.ensures ∙ c.body_etag-etag.ensures ∙ ap body_etag c.as_slice.ensures

pub put_copied_segment_file-requires-clause-etag : goal.put_copied_segment_file-requires-clause-etag
put_copied_segment_file-requires-clause-etag g c = c.body_etag-etag.ensures ∙ ap body_etag c.as_slice.ensures

pub returns-clause-number : goal.returns-clause-number
returns-clause-number g c =
    let part : SealedPart = record { number = c.get.result; etag = c.in_ok-from_slice.field-0; size = c.len.result } in
    IfOk-weaker c.put_copied_segment_file.result (λ told. told ≡ part) (λ told. told.number ≡ c.args.place.now.number) (λ told is. ap (λ (p : SealedPart). p.number) is ∙ c.get.ensures.value) c.put_copied_segment_file.ensures.told

pub returns-clause-size : goal.returns-clause-size
returns-clause-size g c =
    let part : SealedPart = record { number = c.get.result; etag = c.in_ok-from_slice.field-0; size = c.len.result } in
    IfOk-weaker c.put_copied_segment_file.result (λ told. told ≡ part) (λ told. told.size ≡ length c.args.body) (λ told is. ap (λ (p : SealedPart). p.size) is ∙ c.len.ensures) c.put_copied_segment_file.ensures.told

pub returns-clause-proper : goal.returns-clause-proper
returns-clause-proper g c =
    let part : SealedPart = record { number = c.get.result; etag = c.in_ok-from_slice.field-0; size = c.len.result } in
    IfOk-weaker c.put_copied_segment_file.result (λ told. told ≡ part) (λ told. part_fits_sealed_text told ≡ true)
    (λ told is. part_is_sealed told c.args.place.now.number c.args.body (ap (λ (p : SealedPart). p.number) is ∙ c.get.ensures.value)
    (ap (λ (p : SealedPart). p.etag) is ∙ (c.in_ok-from_slice.ensures ∙ (c.body_etag-etag.ensures ∙ ap body_etag c.as_slice.ensures))) (ap (λ (p : SealedPart). p.size) is ∙ c.len.ensures)
    c.get.ensures.fit c.requires)
    c.put_copied_segment_file.ensures.told

pub returns-in_err-from_slice-clause-own : goal.returns-in_err-from_slice-clause-own
returns-in_err-from_slice-clause-own g c = own_failed _ _ c.from_residual.ensures.1 (λ observable container other never. refl)

pub returns-clause-own : goal.returns-clause-own
returns-clause-own g c = c.put_copied_segment_file.ensures.own
