use Rattle.std.proofs.Common.{ap, sym, subst, ◌∙◌, inr, arith}
use Rattle.swift_calls.specs.Limits.{IsMarker}
use Rattle.swift_calls.specs.Step.{IsContainerName}
use Rattle.upload_records.specs.Layout.{segments_name}
use Rattle.account_calls.proofs.lemmas.One.{not_asked, asked_of, asked_of_in_vain}
use Rattle.account_calls.proofs.lemmas.SideNames.{no_marker, prefix_is_marker, segments_fits}
use Rattle.upload_calls.proofs.TakenIds.{segmented}
use Rattle.upload_calls.proofs.ids.is_taken_by_segment.Goals as goal

pub returns-in_err-container-clause-asks : goal.returns-in_err-container-clause-asks
returns-in_err-container-clause-asks g c = not_asked _ _ _ c.from_residual.ensures.1

pub returns-in_err-prefix-clause-asks : goal.returns-in_err-prefix-clause-asks
returns-in_err-prefix-clause-asks g c = not_asked _ _ _ c.from_residual-in_err-prefix.ensures.1

pub call-requires : goal.call-requires
call-requires g c = (
  subst IsContainerName (sym (c.in_ok-container.ensures ∙ ap segments_name c.bytes.ensures.value)) (segments_fits c.args.bucket.now c.bytes.ensures.fit),
  subst IsMarker (sym c.in_ok-prefix.ensures) (prefix_is_marker c.args.id),
  subst IsMarker (sym c.new.ensures) no_marker,
  (omega arith, omega arith),
)

pub returns-in_err-reply-clause-asks : goal.returns-in_err-reply-clause-asks
returns-in_err-reply-clause-asks g c =
    asked_of_in_vain (segmented c.args.bucket.now c.args.id (c.in_ok-container.ensures ∙ ap segments_name c.bytes.ensures.value) c.in_ok-prefix.ensures c.new.ensures c.bytes.ensures.fit)
    c.in_err-reply.ensures.calls _ c.from_residual-in_err-reply.ensures.1

pub returns-clause-asks : goal.returns-clause-asks
returns-clause-asks g c =
    asked_of (segmented c.args.bucket.now c.args.id (c.in_ok-container.ensures ∙ ap segments_name c.bytes.ensures.value) c.in_ok-prefix.ensures c.new.ensures c.bytes.ensures.fit)
    c.in_ok-reply.ensures.calls _ (inr c.is_taken_by_segment_reply.ensures.due) c.is_taken_by_segment_reply.ensures.own
