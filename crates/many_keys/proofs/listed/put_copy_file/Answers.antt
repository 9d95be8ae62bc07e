use Rattle.std.proofs.Common.{ap, ◌∙◌}
use Rattle.account_calls.specs.Interpret.{stored_due}
use Rattle.account_calls.proofs.lemmas.One.{not_sent, sent_in_vain, sent}
use Rattle.account_calls.proofs.lemmas.Puts.{stands_by}
use Rattle.many_keys.proofs.PutsFile.{puts_copy}
use Rattle.many_keys.proofs.OwnSegments.{nothing_leaves, object_leaves}
use Rattle.many_keys.proofs.listed.put_copy_file.Goals as goal

pub returns-in_err-request-clause-changes : goal.returns-in_err-request-clause-changes
returns-in_err-request-clause-changes g c = λ from_bucket from_key replaced. not_sent _ _ c.from_residual.ensures.1

pub returns-in_err-reply-clause-changes : goal.returns-in_err-reply-clause-changes
returns-in_err-reply-clause-changes g c = λ from_bucket from_key replaced.
    sent_in_vain (puts_copy from_bucket from_key replaced c.args.sealed.now c.requires.copy c.in_ok-request.ensures.request) c.in_err-reply.ensures.calls _ c.from_residual-in_err-reply.ensures.1

pub returns-clause-changes : goal.returns-clause-changes
returns-clause-changes g c = λ from_bucket from_key replaced.
    sent (puts_copy from_bucket from_key replaced c.args.sealed.now c.requires.copy c.in_ok-request.ensures.request) c.in_ok-reply.ensures.calls _
    (c.interpret_put_with_etag.ensures.due ∙ ap (λ etag. stored_due etag c.in_ok-reply.reply) c.etag_of_put-etag.ensures) c.interpret_put_with_etag.ensures.own

pub returns-clause-stands : goal.returns-clause-stands
returns-clause-stands g c = stands_by _ c.in_ok-request.ensures.request c.in_ok-reply.ensures.calls _ c.interpret_put_with_etag.ensures.due

pub returns-in_err-request-clause-leaves : goal.returns-in_err-request-clause-leaves
returns-in_err-request-clause-leaves g c = nothing_leaves _ _

pub returns-in_err-reply-clause-leaves : goal.returns-in_err-reply-clause-leaves
returns-in_err-reply-clause-leaves g c = object_leaves c.args.sealed.now c.in_ok-request.ensures.request c.in_err-reply.ensures.calls

pub returns-clause-leaves : goal.returns-clause-leaves
returns-clause-leaves g c = object_leaves c.args.sealed.now c.in_ok-request.ensures.request c.in_ok-reply.ensures.calls
