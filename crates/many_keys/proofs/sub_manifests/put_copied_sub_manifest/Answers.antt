use Rattle.std.proofs.Common.{ap, inr, ◌∙◌, refl}
use Rattle.account_calls.specs.Interpret.{stored_due}
use Rattle.account_calls.proofs.lemmas.One.{not_asked}
use Rattle.account_calls.proofs.lemmas.Quiet.{quiet_in_vain, quieted}
use Rattle.account_calls.proofs.lemmas.Puts.{stands_by}
use Rattle.many_keys.proofs.CopiedSubs.{puts_sub}
use Rattle.many_keys.proofs.OwnSegments.{list_keeps}
use Rattle.many_keys.proofs.sub_manifests.put_copied_sub_manifest.Goals as goal

pub returns-in_err-request-clause-asks : goal.returns-in_err-request-clause-asks
returns-in_err-request-clause-asks g c = not_asked _ _ _ c.from_residual.ensures.1

pub returns-in_err-reply-clause-asks : goal.returns-in_err-reply-clause-asks
returns-in_err-reply-clause-asks g c =
    quiet_in_vain (puts_sub c.law_orphan_listed.ensures c.in_ok-request.ensures.request c.requires.copy c.requires.has c.requires.below) c.in_err-reply.ensures.calls _ c.from_residual-in_err-reply.ensures.1

pub returns-clause-asks : goal.returns-clause-asks
returns-clause-asks g c =
    quieted (puts_sub c.law_orphan_listed.ensures c.in_ok-request.ensures.request c.requires.copy c.requires.has c.requires.below) c.in_ok-reply.ensures.calls _
    (inr (c.interpret_put_with_etag.ensures.due ∙ ap (λ etag. stored_due etag c.in_ok-reply.reply) c.etag_of_put-etag.ensures)) c.interpret_put_with_etag.ensures.own

pub returns-clause-stands : goal.returns-clause-stands
returns-clause-stands g c = stands_by _ c.in_ok-request.ensures.request c.in_ok-reply.ensures.calls _ c.interpret_put_with_etag.ensures.due

pub returns-in_err-request-clause-keeps : goal.returns-in_err-request-clause-keeps
returns-in_err-request-clause-keeps g c = λ observable container other never. refl

pub returns-in_err-reply-clause-keeps : goal.returns-in_err-reply-clause-keeps
returns-in_err-reply-clause-keeps g c = list_keeps c.in_ok-request.ensures.request c.in_err-reply.ensures.calls

pub returns-clause-keeps : goal.returns-clause-keeps
returns-clause-keeps g c = list_keeps c.in_ok-request.ensures.request c.in_ok-reply.ensures.calls
