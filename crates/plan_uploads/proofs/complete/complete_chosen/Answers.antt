use Rattle.std.proofs.Common.{ap, subst, arith, rules, true, false, sym, refl}
use Rattle.s3_machine.specs.declared.code.Code.TheVariants.{EntityTooSmall}
use Rattle.plan_uploads.proofs.CompletionCalls.{refused_at_once}
use Rattle.plan_uploads.proofs.Completions.{small_as, too_small}
use Rattle.plan_uploads.specs.Completing.{ShownByParts}
use Rattle.plan_uploads.specs.declared.complete.Completing.{Completing}
use Rattle.plan_uploads.proofs.CompletionEnds.{refused_ensures}
use Rattle.plan_uploads.proofs.Unfinished.{not_needed}
use Rattle.plan_uploads.specs.Replies.{AnswersUpload}
use Rattle.plan_uploads.proofs.complete.complete_chosen.Goals as goal

pub returns-then-has_small_chosen_part-clause-plans : goal.returns-then-has_small_chosen_part-clause-plans
returns-then-has_small_chosen_part-clause-plans g c = λ text parts lists.
    refused_at_once (omega arith) _ EntityTooSmall (search rules)
    (λ tree sound has. too_small tree c.args.done.now.bucket c.args.done.now.key c.args.opened parts sound c.fits.ensures text has c.args.state.now.settings.now c.args.done.now.list c.args.label.now c.requires.ascends
    c.args.chosen lists c.args.done.now.only_if (small_as c.settings.ensures c.as_slice.ensures c.has_small_chosen_part.ensures true c.if-has_small_chosen_part.true))
    c.end_complete_upload_refused.result c.end_complete_upload_refused.ensures

pub complete_if-requires-clause-large : goal.complete_if-requires-clause-large
complete_if-requires-clause-large g c = small_as c.settings.ensures c.as_slice.ensures c.has_small_chosen_part.ensures false c.if-has_small_chosen_part.false

pub returns-then-has_small_chosen_part-clause-stands : goal.returns-then-has_small_chosen_part-clause-stands
returns-then-has_small_chosen_part-clause-stands g c = refused_ensures EntityTooSmall _ (ap (λ (x : Completing). x.end) c.end_complete_upload_refused.ensures)

pub returns-then-has_small_chosen_part-clause-shown : goal.returns-then-has_small_chosen_part-clause-shown
returns-then-has_small_chosen_part-clause-shown g c = subst (λ (x : Completing). ShownByParts x.end) (sym c.end_complete_upload_refused.ensures) refl

pub returns-then-has_small_chosen_part-clause-unsure : goal.returns-then-has_small_chosen_part-clause-unsure
returns-then-has_small_chosen_part-clause-unsure g c = not_needed _ _ c.end_complete_upload_refused.ensures

pub returns-then-has_small_chosen_part-clause-kind : goal.returns-then-has_small_chosen_part-clause-kind
returns-then-has_small_chosen_part-clause-kind g c = subst (λ (x : Completing). AnswersUpload x.end) (sym c.end_complete_upload_refused.ensures) refl
