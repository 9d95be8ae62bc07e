use Rattle.std.proofs.Common.{sym, subst, ◌∙◌, lit≤, refl}
use Rattle.account_calls.specs.Plan.{Plans}
use Rattle.account_calls.proofs.lemmas.Ends.{out_of_memory, commits, becomes}
use Rattle.upload_calls.proofs.lemmas.Opened.{has_open}
use Rattle.account_calls.proofs.lemmas.Puts.{ensures_ended}
use Rattle.account_calls.specs.Puts.{EnsuresIfDone}
use Rattle.many_keys.proofs.CopiedPart.{copied_is_own, copy_stored}
use Rattle.account_calls.proofs.lemmas.Refusals.{unrefused_ended}
use Rattle.account_calls.specs.Refusals.{Unrefused}
use Rattle.many_keys.specs.Replies.{AnswersCopy}
use Rattle.many_keys.proofs.ReplyKinds.{kind_ended}
use Rattle.many_keys.proofs.copied_part.plan_part_copy_with_etag.Goals as goal

pub returns-in_err-text-clause-plans : goal.returns-in_err-text-clause-plans
returns-in_err-text-clause-plans g c = λ key text from_bucket from_key range. out_of_memory _ _ c.from_residual.ensures.1

pub returns-clause-plans : goal.returns-clause-plans
returns-clause-plans g c = λ key text from_bucket from_key range.
    subst (Plans _ _ _ _ _ _ _ _) (sym c.end_upload_part_copy_plan.ensures)
    (commits _ (lit≤ tt) c.put_part.ensures.changes (λ done. copied_is_own _ _ c.args.into.label.timed) (λ tree may. has_open may.opened)
    (λ tree done new may is. becomes (copy_stored _ _ _ _ _ _ _ _ _ tree c.fits.ensures c.args.into.id _ _ (c.in_ok-text.ensures ∙ c.requires.etag) c.requires.sized may) is))

pub returns-clause-stands : goal.returns-clause-stands
returns-clause-stands g c = subst (EnsuresIfDone _ _) (sym c.end_upload_part_copy_plan.ensures) (ensures_ended _ _ c.put_part.ensures.stands)

pub returns-clause-unrefused : goal.returns-clause-unrefused
returns-clause-unrefused g c = subst Unrefused (sym c.end_upload_part_copy_plan.ensures) (unrefused_ended _ (λ told. refl) _)

pub returns-clause-kind : goal.returns-clause-kind
returns-clause-kind g c = subst AnswersCopy (sym c.end_upload_part_copy_plan.ensures) (kind_ended _ (λ told. refl) _)
