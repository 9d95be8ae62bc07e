use Rattle.std.proofs.Common.{◌<◌, ◌^◌, ap, subst, ◌∙◌}
use Rattle.account_calls.specs.Interpret.{stored_due}
use Rattle.account_calls.proofs.lemmas.One.{not_sent, sent_in_vain, sent}
use Rattle.account_calls.proofs.lemmas.Puts.{stands_by}
use Rattle.upload_calls.proofs.PartCalls.{puts}
use Rattle.upload_calls.proofs.parts.put_part.Goals as goal

pub returns-in_err-request-clause-changes : goal.returns-in_err-request-clause-changes
returns-in_err-request-clause-changes g c = not_sent _ _ c.from_residual.ensures.1

pub returns-in_err-reply-clause-changes : goal.returns-in_err-reply-clause-changes
returns-in_err-reply-clause-changes g c =
    sent_in_vain (puts c.law_part_put.ensures (record {
      same = c.in_ok-request.ensures.request;
      is = c.fits.ensures;
      counted = c.get.ensures.fit;
      sized = c.requires.sized;
      below = c.args.place.now.label.timed;
      fits = subst (λ n. n < 2 ^ 128) c.upload_id.ensures c.upload_id.type_inv;
    })) c.in_err-reply.ensures.calls _ c.from_residual-in_err-reply.ensures.1

pub returns-clause-changes : goal.returns-clause-changes
returns-clause-changes g c =
    sent (puts c.law_part_put.ensures (record {
      same = c.in_ok-request.ensures.request;
      is = c.fits.ensures;
      counted = c.get.ensures.fit;
      sized = c.requires.sized;
      below = c.args.place.now.label.timed;
      fits = subst (λ n. n < 2 ^ 128) c.upload_id.ensures c.upload_id.type_inv;
    })) c.in_ok-reply.ensures.calls _
    (c.interpret_put_with_etag.ensures.due ∙ ap (λ etag. stored_due etag c.in_ok-reply.reply) c.requires.etag) c.interpret_put_with_etag.ensures.own

pub returns-clause-stands : goal.returns-clause-stands
returns-clause-stands g c = stands_by c.args.etag.now c.in_ok-request.ensures.request c.in_ok-reply.ensures.calls _ c.interpret_put_with_etag.ensures.due
