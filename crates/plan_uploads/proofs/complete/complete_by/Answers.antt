use Rattle.std.proofs.Common.{ap, arith, rules, None, Some, sym, subst, refl, ◌∙◌}
use Rattle.s3_machine.specs.declared.code.Code.TheVariants.{InvalidPart}
use Rattle.plan_uploads.proofs.CompletionCalls.{lacks_memory, refused_at_once}
use Rattle.plan_uploads.proofs.Completions.{invalid_part, listed_as}
use Rattle.plan_uploads.specs.declared.complete.Completing.{Completing}
use Rattle.plan_uploads.proofs.CompletionEnds.{refused_ensures}
use Rattle.plan_uploads.specs.Completing.{ShownByParts}
use Rattle.plan_uploads.proofs.Unfinished.{not_begun, not_needed}
use Rattle.plan_uploads.specs.Replies.{AnswersUpload}
use Rattle.plan_uploads.proofs.complete.complete_by.Goals as goal

pub returns-in_err-chosen-clause-plans : goal.returns-in_err-chosen-clause-plans
returns-in_err-chosen-clause-plans g c = λ text. lacks_memory _ _ c.from_residual.ensures.1

pub returns-in_default-clause-plans : goal.returns-in_default-clause-plans
returns-in_default-clause-plans g c = λ text.
    refused_at_once (omega arith) _ InvalidPart (search rules)
    (λ tree sound has. invalid_part tree c.args.done.now.bucket c.args.done.now.key c.args.opened c.args.parts.now sound c.fits.ensures text has c.args.state.now.settings.now c.args.done.now.list c.args.label.now c.requires.ascends c.args.done.now.only_if
    (listed_as c.args.parts.now (c.as_slice.ensures ∙ c.get.ensures.value) c.in_ok-chosen.ensures.listed None c.in_default.is))
    c.end_complete_upload_refused.result c.end_complete_upload_refused.ensures

pub returns-clause-plans : goal.returns-clause-plans
returns-clause-plans g c = λ text.
    c.complete_chosen.ensures.plans text c.args.parts.now (listed_as c.args.parts.now (c.as_slice.ensures ∙ c.get.ensures.value) c.in_ok-chosen.ensures.listed (Some c.in-Some.chosen) c.in-Some.is)

pub returns-in_default-clause-stands : goal.returns-in_default-clause-stands
returns-in_default-clause-stands g c = refused_ensures InvalidPart _ (ap (λ (x : Completing). x.end) c.end_complete_upload_refused.ensures)

pub returns-in_default-clause-shown : goal.returns-in_default-clause-shown
returns-in_default-clause-shown g c = subst (λ (x : Completing). ShownByParts x.end) (sym c.end_complete_upload_refused.ensures) refl

pub returns-in_err-chosen-clause-unsure : goal.returns-in_err-chosen-clause-unsure
returns-in_err-chosen-clause-unsure g c = not_begun _ _ c.from_residual.ensures.1

pub returns-in_default-clause-unsure : goal.returns-in_default-clause-unsure
returns-in_default-clause-unsure g c = not_needed _ _ c.end_complete_upload_refused.ensures

pub returns-clause-unsure : goal.returns-clause-unsure
returns-clause-unsure g c = c.complete_chosen.ensures.unsure

pub returns-in_default-clause-kind : goal.returns-in_default-clause-kind
returns-in_default-clause-kind g c = subst (λ (x : Completing). AnswersUpload x.end) (sym c.end_complete_upload_refused.ensures) refl
