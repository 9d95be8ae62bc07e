use Rattle.std.proofs.Common.{ap, ◌∙◌}
use Rattle.account_calls.specs.Interpret.{stored_due}
use Rattle.account_calls.proofs.Files.{puts}
use Rattle.account_calls.proofs.lemmas.One.{not_sent, sent_in_vain, sent}
use Rattle.account_calls.proofs.lemmas.Puts.{stands_by}
use Rattle.account_calls.proofs.object.put_object.Goals as goal

pub returns-in_err-request-clause-changes : goal.returns-in_err-request-clause-changes
returns-in_err-request-clause-changes g c = not_sent _ _ c.from_residual.ensures.1

pub returns-in_err-reply-clause-changes : goal.returns-in_err-reply-clause-changes
returns-in_err-reply-clause-changes g c =
    sent_in_vain (puts (record {
      same = c.in_ok-request.ensures.request;
      is = c.in_ok-request.ensures.named.named;
      keyed = c.in_ok-request.ensures.named.keyed;
      content = c.in_ok-request.ensures.content;
      ascend = c.in_ok-request.ensures.ordered;
      below = c.args.label.now.timed;
    })) c.in_err-reply.ensures _ c.from_residual-in_err-reply.ensures.1

pub returns-clause-changes : goal.returns-clause-changes
returns-clause-changes g c =
    sent (puts (record {
      same = c.in_ok-request.ensures.request;
      is = c.in_ok-request.ensures.named.named;
      keyed = c.in_ok-request.ensures.named.keyed;
      content = c.in_ok-request.ensures.content;
      ascend = c.in_ok-request.ensures.ordered;
      below = c.args.label.now.timed;
    })) c.in_ok-reply.ensures _
    (c.interpret_put_with_etag.ensures.due ∙ ap (λ etag. stored_due etag c.in_ok-reply.reply) c.requires.etag) c.interpret_put_with_etag.ensures.own

pub returns-clause-stands : goal.returns-clause-stands
returns-clause-stands g c = stands_by c.args.etag.now c.in_ok-request.ensures.request c.in_ok-reply.ensures _ c.interpret_put_with_etag.ensures.due
