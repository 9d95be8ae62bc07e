use Rattle.std.proofs.Common.{ap, sym, subst, ◌∙◌}
use Rattle.std.specs.Prelude.{◌≤◌, length}
use Rattle.account_calls.specs.Interpret.{stored_due}
use Rattle.s3_machine.specs.ETag.{body_etag}
use Rattle.upload_records.proofs.lemmas.TextLengths.{sealed_short}
use Rattle.plan_uploads.specs.Completing.{most_sealed_text}
use Rattle.plan_uploads.proofs.SealCalls.{not_sealed, seal_stands, sealed_in_vain, seals_by}
use Rattle.plan_uploads.proofs.seal.seal.Goals as goal

pub returns-in_err-text-clause-seals : goal.returns-in_err-text-clause-seals
returns-in_err-text-clause-seals g c = not_sealed _ _ _ c.from_residual.ensures.1

pub sealed_request-requires : goal.sealed_request-requires
sealed_request-requires g c = record { short = subst (λ text. length text ≤ most_sealed_text) (sym c.in_ok-text.ensures.text) (sealed_short c.args.sealed.now c.requires) }

pub returns-in_err-request-clause-seals : goal.returns-in_err-request-clause-seals
returns-in_err-request-clause-seals g c = not_sealed _ _ _ c.from_residual-in_err-request.ensures.1

pub returns-in_err-reply-clause-seals : goal.returns-in_err-reply-clause-seals
returns-in_err-reply-clause-seals g c =
    sealed_in_vain c.law_completion_sealed.ensures (record {
      same = c.in_ok-request.ensures.request;
      reads = c.in_ok-text.ensures.reads_back;
      short = subst (λ text. length text ≤ most_sealed_text) (sym c.in_ok-text.ensures.text) (sealed_short c.args.sealed.now c.requires);
    }) c.in_err-reply.ensures.calls _ c.from_residual-in_err-reply.ensures.1

pub returns-clause-seals : goal.returns-clause-seals
returns-clause-seals g c =
    seals_by c.law_completion_sealed.ensures (record {
      same = c.in_ok-request.ensures.request;
      reads = c.in_ok-text.ensures.reads_back;
      short = subst (λ text. length text ≤ most_sealed_text) (sym c.in_ok-text.ensures.text) (sealed_short c.args.sealed.now c.requires);
    }) c.in_ok-reply.ensures.calls _
    (c.interpret_put_with_etag.ensures.due ∙ ap (λ etag. stored_due etag c.in_ok-reply.reply) (c.body_etag-etag.ensures ∙ ap body_etag c.as_slice.ensures)) c.interpret_put_with_etag.ensures.own

pub returns-clause-stands : goal.returns-clause-stands
returns-clause-stands g c = seal_stands _ c.in_ok-request.ensures.request c.in_ok-text.ensures.reads_back c.in_ok-reply.ensures.calls _ c.interpret_put_with_etag.ensures.due
