use Rattle.std.proofs.Common.{ap, inr, ◌∙◌}
use Rattle.s3_machine.specs.ETag.{body_etag}
use Rattle.account_calls.specs.Interpret.{stored_due}
use Rattle.account_calls.proofs.lemmas.One.{not_asked}
use Rattle.account_calls.proofs.lemmas.Quiet.{quiet_in_vain, quieted}
use Rattle.account_calls.proofs.lemmas.Puts.{stands_by}
use Rattle.recovery.proofs.RollCalls.{puts_record, record_keeps, written_by}
use Rattle.recovery.proofs.RollStands.{object_through_record, record_holds}
use Rattle.recovery.proofs.settling.put_rolled_forward_record.Goals as goal

pub returns-in_err-text-clause-asks : goal.returns-in_err-text-clause-asks
returns-in_err-text-clause-asks g c = not_asked _ _ _ c.from_residual.ensures.1

pub returns-in_err-request-clause-asks : goal.returns-in_err-request-clause-asks
returns-in_err-request-clause-asks g c = not_asked _ _ _ c.from_residual-in_err-request.ensures.1

pub returns-in_err-reply-clause-asks : goal.returns-in_err-reply-clause-asks
returns-in_err-reply-clause-asks g c =
    quiet_in_vain (puts_record c.in_ok-request.ensures.request c.requires (written_by c.args.sealed.now c.in_ok-text.text c.in_ok-text.ensures.text c.in_ok-text.ensures.reads))
    c.in_err-reply.ensures _ c.from_residual-in_err-reply.ensures.1

pub returns-in_err-reply-clause-keeps : goal.returns-in_err-reply-clause-keeps
returns-in_err-reply-clause-keeps g c = record_keeps c.args.sealed.now c.in_ok-request.ensures.request c.requires c.in_err-reply.ensures

pub returns-clause-asks : goal.returns-clause-asks
returns-clause-asks g c =
    quieted (puts_record c.in_ok-request.ensures.request c.requires (written_by c.args.sealed.now c.in_ok-text.text c.in_ok-text.ensures.text c.in_ok-text.ensures.reads))
    c.in_ok-reply.ensures _
    (inr (c.interpret_put_with_etag.ensures.due ∙ ap (λ etag. stored_due etag c.in_ok-reply.reply) (c.body_etag-etag.ensures ∙ ap body_etag (c.as_slice.ensures ∙ c.in_ok-text.ensures.text)))) c.interpret_put_with_etag.ensures.own

pub returns-clause-keeps : goal.returns-clause-keeps
returns-clause-keeps g c = record_keeps c.args.sealed.now c.in_ok-request.ensures.request c.requires c.in_ok-reply.ensures

pub returns-in_err-reply-clause-holds : goal.returns-in_err-reply-clause-holds
returns-in_err-reply-clause-holds g c = record_holds c.args.sealed.now c.in_ok-request.ensures.request c.requires c.in_err-reply.ensures

pub returns-clause-holds : goal.returns-clause-holds
returns-clause-holds g c = record_holds c.args.sealed.now c.in_ok-request.ensures.request c.requires c.in_ok-reply.ensures

pub returns-in_err-reply-clause-object : goal.returns-in_err-reply-clause-object
returns-in_err-reply-clause-object g c = object_through_record c.args.sealed.now c.in_ok-request.ensures.request c.requires c.in_err-reply.ensures

pub returns-clause-object : goal.returns-clause-object
returns-clause-object g c = object_through_record c.args.sealed.now c.in_ok-request.ensures.request c.requires c.in_ok-reply.ensures

pub returns-clause-stands : goal.returns-clause-stands
returns-clause-stands g c = stands_by _ c.in_ok-request.ensures.request c.in_ok-reply.ensures _ c.interpret_put_with_etag.ensures.due
