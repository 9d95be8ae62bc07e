use Rattle.std.proofs.Common.{sym, subst, ◌∙◌, lit≤, rules, refl}
use Rattle.account_calls.specs.Plan.{Plans}
use Rattle.account_calls.proofs.lemmas.Ends.{out_of_memory, commits, becomes}
use Rattle.account_calls.proofs.lemmas.Puts.{ensures_ended}
use Rattle.account_calls.specs.Puts.{EnsuresIfDone}
use Rattle.upload_calls.proofs.lemmas.Opened.{has_open}
use Rattle.plan_uploads.proofs.Steps.{part_stored}
use Rattle.account_calls.proofs.lemmas.Refusals.{unrefused_ended}
use Rattle.account_calls.specs.Refusals.{Unrefused}
use Rattle.plan_uploads.specs.Replies.{AnswersUpload}
use Rattle.plan_uploads.proofs.ReplyKinds.{kind_ended}
use Rattle.plan_uploads.proofs.part.plan_upload_part_bytes.Goals as goal

pub returns-in_err-from_slice-clause-plans : goal.returns-in_err-from_slice-clause-plans
returns-in_err-from_slice-clause-plans g c = λ key text. out_of_memory _ _ c.from_residual.ensures.1

pub returns-clause-plans : goal.returns-clause-plans
returns-clause-plans g c = λ key text.
    subst (Plans _ _ _ _ _ _ _ _) (sym c.stored_end.ensures)
    (commits _ (lit≤ tt) c.put_part.ensures.changes (λ done. search rules) (λ tree found. has_open found)
    (λ tree done new found is. becomes (part_stored _ _ _ _ _ tree c.fits.ensures c.args.place.now.id found _ _ _ _ (c.in_ok-from_slice.ensures ∙ c.requires.etag)) is))

pub returns-clause-stands : goal.returns-clause-stands
returns-clause-stands g c = subst (EnsuresIfDone _ _) (sym c.stored_end.ensures) (ensures_ended _ _ c.put_part.ensures.stands)

pub returns-clause-unrefused : goal.returns-clause-unrefused
returns-clause-unrefused g c = subst Unrefused (sym c.stored_end.ensures) (unrefused_ended _ (λ told. refl) _)

pub returns-clause-kind : goal.returns-clause-kind
returns-clause-kind g c = subst AnswersUpload (sym c.stored_end.ensures) (kind_ended _ (λ told. refl) _)
