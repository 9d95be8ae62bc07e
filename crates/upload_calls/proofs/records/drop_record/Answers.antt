use Rattle.std.proofs.Common.{ap, sym, subst, ◌∙◌}
use Rattle.swift_calls.specs.Limits.{IsObjectName}
use Rattle.swift_calls.specs.Step.{IsContainerName}
use Rattle.upload_records.specs.Layout.{uploads_name}
use Rattle.account_calls.proofs.lemmas.One.{not_sent, sent_in_vain, sent}
use Rattle.account_calls.proofs.lemmas.SideNames.{id_fits, uploads_fits}
use Rattle.upload_calls.proofs.Clearing.{clearable}
use Rattle.upload_calls.proofs.DropCalls.{drops, to_none, to_this}
use Rattle.upload_calls.proofs.records.drop_record.Goals as goal

pub returns-in_err-container-clause-drops : goal.returns-in_err-container-clause-drops
returns-in_err-container-clause-drops g c = to_none (not_sent _ _ c.from_residual.ensures.1) _ c.from_residual.ensures.1

pub returns-in_err-name-clause-drops : goal.returns-in_err-name-clause-drops
returns-in_err-name-clause-drops g c = to_none (not_sent _ _ c.from_residual-in_err-name.ensures.1) _ c.from_residual-in_err-name.ensures.1

pub call-requires : goal.call-requires
call-requires g c = (
  subst IsContainerName (sym (c.in_ok-container.ensures ∙ ap uploads_name c.bytes.ensures.value)) (uploads_fits c.args.bucket.now c.bytes.ensures.fit),
  subst IsObjectName (sym (c.in_ok-name.ensures ∙ c.id_digits.ensures)) (id_fits c.args.id),
)

pub returns-in_err-reply-clause-drops : goal.returns-in_err-reply-clause-drops
returns-in_err-reply-clause-drops g c =
    to_none (sent_in_vain (drops _ _ c.args.bucket.now c.args.id (c.in_ok-container.ensures ∙ ap uploads_name c.bytes.ensures.value) (c.in_ok-name.ensures ∙ c.id_digits.ensures) c.bytes.ensures.fit
    c.law_upload_dropped.ensures) c.in_err-reply.ensures.calls _ c.from_residual-in_err-reply.ensures.1) _ c.from_residual-in_err-reply.ensures.1

pub returns-clause-drops : goal.returns-clause-drops
returns-clause-drops g c =
    to_this (sent (drops _ _ c.args.bucket.now c.args.id (c.in_ok-container.ensures ∙ ap uploads_name c.bytes.ensures.value) (c.in_ok-name.ensures ∙ c.id_digits.ensures) c.bytes.ensures.fit
    c.law_upload_dropped.ensures) c.in_ok-reply.ensures.calls _ c.interpret_file_delete.ensures.due c.interpret_file_delete.ensures.own)
    (λ met. clearable _ _ c.args.bucket.now c.args.id (c.in_ok-container.ensures ∙ ap uploads_name c.bytes.ensures.value) (c.in_ok-name.ensures ∙ c.id_digits.ensures) c.bytes.ensures.fit
    c.law_upload_abandoned.ensures c.in_ok-reply.ensures.calls met)
