use Rattle.std.proofs.Common.{◌<◌, ◌^◌, refl, ap, subst, ◌∙◌, inr}
use Rattle.account_calls.specs.Interpret.{stored_due}
use Rattle.account_calls.proofs.lemmas.One.{not_asked}
use Rattle.account_calls.proofs.lemmas.Quiet.{quiet_in_vain, quieted}
use Rattle.many_keys.specs.CopiedLists.{told_due}
use Rattle.many_keys.proofs.CopiesStand.{told_stands}
use Rattle.many_keys.proofs.PieceCalls.{puts_segment}
use Rattle.many_keys.proofs.OwnSegments.{own_failed, own_put, put_keeps}
use Rattle.many_keys.proofs.segments.put_copied_segment_file.Goals as goal

pub returns-in_err-request-clause-asks : goal.returns-in_err-request-clause-asks
returns-in_err-request-clause-asks g c = not_asked _ _ _ c.from_residual.ensures.1

pub returns-in_err-reply-clause-asks : goal.returns-in_err-reply-clause-asks
returns-in_err-reply-clause-asks g c =
    quiet_in_vain
    (puts_segment {told = c.args.part} c.law_orphan_put.ensures (record {
      same = c.in_ok-request.ensures.request;
      is = c.fits.ensures;
      counted = c.get.ensures.fit;
      sized = c.requires.sized;
      below = c.args.place.now.label.timed;
      fits = subst (λ n. n < 2 ^ 128) c.upload_id.ensures c.upload_id.type_inv;
      numbered = c.requires.number;
      etag = c.requires.same;
      size = c.requires.size;
    }))
    c.in_err-reply.ensures.calls _ c.from_residual-in_err-reply.ensures.1

pub returns-clause-asks : goal.returns-clause-asks
returns-clause-asks g c =
    quieted
    (puts_segment {told = c.args.part} c.law_orphan_put.ensures (record {
      same = c.in_ok-request.ensures.request;
      is = c.fits.ensures;
      counted = c.get.ensures.fit;
      sized = c.requires.sized;
      below = c.args.place.now.label.timed;
      fits = subst (λ n. n < 2 ^ 128) c.upload_id.ensures c.upload_id.type_inv;
      numbered = c.requires.number;
      etag = c.requires.same;
      size = c.requires.size;
    }))
    c.in_ok-reply.ensures.calls _ (inr (c.copied_segment_in_reply.ensures.due ∙ ap (λ e. told_due c.args.part (stored_due e c.in_ok-reply.reply)) c.requires.etag)) c.copied_segment_in_reply.ensures.own

pub returns-clause-stands : goal.returns-clause-stands
returns-clause-stands g c = told_stands c.args.etag.now c.in_ok-request.ensures.request c.in_ok-reply.ensures.calls c.args.part _ _ refl c.copied_segment_in_reply.ensures.due

pub returns-in_err-request-clause-own : goal.returns-in_err-request-clause-own
returns-in_err-request-clause-own g c = own_failed _ _ c.from_residual.ensures.1 (λ observable container other never. refl)

pub returns-in_err-reply-clause-own : goal.returns-in_err-reply-clause-own
returns-in_err-reply-clause-own g c = own_failed _ _ c.from_residual-in_err-reply.ensures.1 (put_keeps c.in_ok-request.ensures.request c.in_err-reply.ensures.calls)

pub returns-clause-own : goal.returns-clause-own
returns-clause-own g c =
    own_put c.args.body c.args.part c.requires.number c.requires.size c.requires.same (put_keeps c.in_ok-request.ensures.request c.in_ok-reply.ensures.calls) _ c.copied_segment_in_reply.ensures.told
    (told_stands c.args.etag.now c.in_ok-request.ensures.request c.in_ok-reply.ensures.calls c.args.part _ _ refl c.copied_segment_in_reply.ensures.due)
