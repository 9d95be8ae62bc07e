use Rattle.std.proofs.Common.{ap, sym, subst, ◌∙◌}
use Rattle.swift_calls.specs.Limits.{IsObjectName}
use Rattle.swift_calls.specs.Step.{IsContainerName}
use Rattle.upload_records.specs.Layout.{uploads_name}
use Rattle.account_calls.proofs.lemmas.One.{not_asked, asked_of, asked_of_in_vain}
use Rattle.account_calls.proofs.lemmas.SideNames.{id_fits, uploads_fits}
use Rattle.upload_calls.proofs.RecordCalls.{record_reads}
use Rattle.upload_calls.proofs.records.get_record.Goals as goal

pub returns-in_err-container-clause-asks : goal.returns-in_err-container-clause-asks
returns-in_err-container-clause-asks g c = not_asked _ _ _ c.from_residual.ensures.1

pub returns-in_err-name-clause-asks : goal.returns-in_err-name-clause-asks
returns-in_err-name-clause-asks g c = not_asked _ _ _ c.from_residual-in_err-name.ensures.1

pub call-requires : goal.call-requires
call-requires g c = (
  subst IsContainerName (sym (c.in_ok-container.ensures ∙ ap uploads_name c.bytes.ensures.value)) (uploads_fits c.args.bucket.now c.bytes.ensures.fit),
  subst IsObjectName (sym (c.in_ok-name.ensures ∙ c.id_digits.ensures)) (id_fits c.args.id),
  tt,
)

pub returns-in_err-reply-clause-asks : goal.returns-in_err-reply-clause-asks
returns-in_err-reply-clause-asks g c =
    asked_of_in_vain (record_reads c.args.bucket.now c.args.id (c.in_ok-container.ensures ∙ ap uploads_name c.bytes.ensures.value) (c.in_ok-name.ensures ∙ c.id_digits.ensures) c.bytes.ensures.fit)
    c.in_err-reply.ensures.calls _ c.from_residual-in_err-reply.ensures.1

pub returns-clause-asks : goal.returns-clause-asks
returns-clause-asks g c =
    asked_of (record_reads c.args.bucket.now c.args.id (c.in_ok-container.ensures ∙ ap uploads_name c.bytes.ensures.value) (c.in_ok-name.ensures ∙ c.id_digits.ensures) c.bytes.ensures.fit)
    c.in_ok-reply.ensures.calls _ c.record_in.ensures.due c.record_in.ensures.own
