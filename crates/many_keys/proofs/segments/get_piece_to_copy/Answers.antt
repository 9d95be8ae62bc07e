use Rattle.std.proofs.Common.{ap, inr, sym, subst, ◌∙◌, refl}
use Rattle.upload_records.specs.Layout.{segments_name}
use Rattle.swift_calls.specs.Limits.{IsObjectName}
use Rattle.swift_calls.specs.Step.{IsContainerName}
use Rattle.account_calls.proofs.lemmas.One.{asked_of, asked_of_in_vain, not_asked}
use Rattle.account_calls.proofs.lemmas.SideNames.{segment_fits, segments_fits}
use Rattle.many_keys.proofs.PieceCalls.{piece_reads}
use Rattle.account_calls.proofs.lemmas.Left.{left}
use Rattle.many_keys.proofs.segments.get_piece_to_copy.Goals as goal

pub returns-in_err-container-clause-asks : goal.returns-in_err-container-clause-asks
returns-in_err-container-clause-asks g c = not_asked _ _ _ c.from_residual.ensures.1

pub returns-in_err-name-clause-asks : goal.returns-in_err-name-clause-asks
returns-in_err-name-clause-asks g c = not_asked _ _ _ c.from_residual-in_err-name.ensures.1

pub call-requires : goal.call-requires
call-requires g c = (
  subst IsContainerName (sym (c.in_ok-container.ensures ∙ ap segments_name c.bytes.ensures.value)) (segments_fits c.args.bucket.now c.bytes.ensures.fit),
  subst IsObjectName (sym c.in_ok-name.ensures) (segment_fits c.args.id c.args.piece.number c.requires.number),
  tt,
)

pub returns-in_err-reply-clause-asks : goal.returns-in_err-reply-clause-asks
returns-in_err-reply-clause-asks g c = asked_of_in_vain (piece_reads c.args.bucket.now c.args.id c.args.piece (c.in_ok-container.ensures ∙ ap segments_name c.bytes.ensures.value) c.in_ok-name.ensures) c.in_err-reply.ensures.calls _ c.from_residual-in_err-reply.ensures.1

pub returns-clause-asks : goal.returns-clause-asks
returns-clause-asks g c = asked_of (piece_reads c.args.bucket.now c.args.id c.args.piece (c.in_ok-container.ensures ∙ ap segments_name c.bytes.ensures.value) c.in_ok-name.ensures) c.in_ok-reply.ensures.calls _ (inr c.piece_in_reply.ensures.due) c.piece_in_reply.ensures.own

pub returns-in_err-container-clause-leaves : goal.returns-in_err-container-clause-leaves
returns-in_err-container-clause-leaves g c = λ observable. refl

pub returns-in_err-name-clause-leaves : goal.returns-in_err-name-clause-leaves
returns-in_err-name-clause-leaves g c = λ observable. refl

pub returns-in_err-reply-clause-leaves : goal.returns-in_err-reply-clause-leaves
returns-in_err-reply-clause-leaves g c = left (λ tree. refl) c.in_err-reply.ensures.calls

pub returns-clause-leaves : goal.returns-clause-leaves
returns-clause-leaves g c = left (λ tree. refl) c.in_ok-reply.ensures.calls
