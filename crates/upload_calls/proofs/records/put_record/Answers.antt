use Rattle.std.proofs.Common.{ap, ◌∙◌}
use Rattle.account_calls.specs.Interpret.{stored_due}
use Rattle.s3_machine.specs.ETag.{body_etag}
use Rattle.account_calls.proofs.lemmas.One.{not_sent, sent_in_vain, sent}
use Rattle.upload_calls.proofs.OpenCalls.{opens_by, stands_open}
use Rattle.upload_calls.proofs.records.put_record.Goals as goal

pub returns-in_err-text-clause-changes : goal.returns-in_err-text-clause-changes
returns-in_err-text-clause-changes g c = not_sent _ _ c.from_residual.ensures.1

pub returns-in_err-request-clause-changes : goal.returns-in_err-request-clause-changes
returns-in_err-request-clause-changes g c = not_sent _ _ c.from_residual-in_err-request.ensures.1

pub returns-in_err-reply-clause-changes : goal.returns-in_err-reply-clause-changes
returns-in_err-reply-clause-changes g c =
    sent_in_vain (opens_by c.law_upload_opened.ensures (record {
      same = c.in_ok-request.ensures.request;
      reads = c.in_ok-text.ensures.reads;
      short = c.in_ok-text.ensures.short;
      is = c.fits.ensures;
      fits = c.ranges.id.fits;
    })) c.in_err-reply.ensures.calls _ c.from_residual-in_err-reply.ensures.1

pub returns-clause-changes : goal.returns-clause-changes
returns-clause-changes g c =
    sent (opens_by c.law_upload_opened.ensures (record {
      same = c.in_ok-request.ensures.request;
      reads = c.in_ok-text.ensures.reads;
      short = c.in_ok-text.ensures.short;
      is = c.fits.ensures;
      fits = c.ranges.id.fits;
    })) c.in_ok-reply.ensures.calls _
    (c.interpret_put_with_etag-end.ensures.due ∙ ap (λ etag. stored_due etag c.in_ok-reply.reply) (c.body_etag-etag.ensures ∙ ap body_etag c.as_slice.ensures)) c.interpret_put_with_etag-end.ensures.own

pub returns-clause-stands : goal.returns-clause-stands
returns-clause-stands g c = stands_open _ c.in_ok-request.ensures.request c.in_ok-text.ensures.reads c.in_ok-reply.ensures.calls _ c.interpret_put_with_etag-end.ensures.due
