use Rattle.std.proofs.Common.{ap, inr, ◌∙◌}
use Rattle.s3_machine.specs.ETag.{body_etag}
use Rattle.account_calls.specs.Interpret.{stored_due}
use Rattle.account_calls.proofs.lemmas.One.{not_asked}
use Rattle.account_calls.proofs.lemmas.Quiet.{quiet_in_vain, quieted}
use Rattle.sweep.proofs.AgesOne.{puts_dated, stands_dated}
use Rattle.sweep.proofs.forget.put_dated_record.Goals as goal

pub returns-in_err-text-clause-asks : goal.returns-in_err-text-clause-asks
returns-in_err-text-clause-asks g c = λ before bucket of is new. not_asked _ _ _ c.from_residual.ensures.1

pub returns-in_err-request-clause-asks : goal.returns-in_err-request-clause-asks
returns-in_err-request-clause-asks g c = λ before bucket of is new. not_asked _ _ _ c.from_residual-in_err-request.ensures.1

pub returns-in_err-reply-clause-asks : goal.returns-in_err-reply-clause-asks
returns-in_err-reply-clause-asks g c = λ before bucket of is new.
    quiet_in_vain (puts_dated c.in_ok-request.ensures.request c.args.told c.requires.undated c.in_ok-text.ensures.reads c.in_ok-text.ensures.short before bucket of is new)
    c.in_err-reply.ensures _ c.from_residual-in_err-reply.ensures.1

pub returns-clause-asks : goal.returns-clause-asks
returns-clause-asks g c = λ before bucket of is new.
    quieted (puts_dated c.in_ok-request.ensures.request c.args.told c.requires.undated c.in_ok-text.ensures.reads c.in_ok-text.ensures.short before bucket of is new)
    c.in_ok-reply.ensures _
    (inr (c.interpret_put_with_etag.ensures.due ∙ ap (λ etag. stored_due etag c.in_ok-reply.reply) (c.body_etag-etag.ensures ∙ ap body_etag c.as_slice.ensures))) c.interpret_put_with_etag.ensures.own

pub returns-clause-stands : goal.returns-clause-stands
returns-clause-stands g c = stands_dated _ c.in_ok-request.ensures.request c.in_ok-text.ensures.reads c.in_ok-reply.ensures _ c.interpret_put_with_etag.ensures.due
