use Rattle.std.proofs.Common.{◌≡◌, sym, ap, ◌∙◌, false, arith, rules, subst, refl}
use Rattle.s3_names.specs.Id.{id_digits}
use Rattle.s3_machine.specs.declared.code.Code.TheVariants.{InvalidPartOrder}
use Rattle.s3_machine.specs.Uploads.{rises}
use Rattle.swift_calls.specs.History.{present}
use Rattle.account_calls.specs.Answers.{named_by, pages}
use Rattle.account_calls.specs.Calls.{by_account}
use Rattle.account_calls.proofs.lemmas.Ends.{goes_on_from, met_within}
use Rattle.plan_uploads.proofs.CompletionCalls.{asked_nothing, refused_at_once}
use Rattle.plan_uploads.proofs.CompletionSteps.{order_refused}
use Rattle.plan_uploads.proofs.Completions.{has_parts, opened_parts}
use Rattle.plan_uploads.specs.declared.complete.Completing.{Completing}
use Rattle.plan_uploads.proofs.CompletionEnds.{refused_ensures}
use Rattle.account_calls.proofs.lemmas.Refusals.{stops_unshown}
use Rattle.plan_uploads.proofs.Unfinished.{broke_behind, not_begun, not_needed}
use Rattle.plan_uploads.specs.Replies.{AnswersUpload}
use Rattle.plan_uploads.proofs.complete.complete_open.Goals as goal

pub returns-then-not-rises-clause-plans : goal.returns-then-not-rises-clause-plans
returns-then-not-rises-clause-plans g c = λ text.
    let falls : c.rises.result ≡ false = search rules in
    refused_at_once (omega arith) _ InvalidPartOrder (search rules)
    (λ tree sound has. order_refused tree c.args.done.now.bucket c.args.done.now.key text c.args.opened c.fits.ensures has c.args.state.now.settings.now c.args.done.now.list c.args.done.now.only_if c.args.label.now
    (ap rises (sym (c.as_slice.ensures ∙ c.get.ensures.value)) ∙ sym c.rises.ensures ∙ falls))
    c.end_complete_upload_refused.result c.end_complete_upload_refused.ensures

pub returns-in_err-parts-clause-plans : goal.returns-in_err-parts-clause-plans
returns-in_err-parts-clause-plans g c = λ text.
    asked_nothing (by_account (pages (named_by (present (g.W.Swift.history c.args.state.now.store.now)) c.args.done.now.bucket (id_digits c.args.opened.id)))) (omega arith)
    (met_within (opened_parts c.fits.ensures)) c.in_err-parts.ensures.asks c.from_residual.result c.from_residual.ensures.1

pub returns-clause-plans : goal.returns-clause-plans
returns-clause-plans g c = λ text.
    goes_on_from (met_within (opened_parts c.fits.ensures)) c.list_parts.ensures.stays.settings c.in_ok-parts.ensures.asks (c.complete_by.ensures.plans text)
    (λ opens tells. has_parts c.as_slice-2.ensures opens tells)
    (λ x. omega arith)

pub returns-then-not-rises-clause-stands : goal.returns-then-not-rises-clause-stands
returns-then-not-rises-clause-stands g c = refused_ensures InvalidPartOrder _ (ap (λ (x : Completing). x.end) c.end_complete_upload_refused.ensures)

pub returns-then-not-rises-clause-stops : goal.returns-then-not-rises-clause-stops
returns-then-not-rises-clause-stops g c = rw c.end_complete_upload_refused.ensures (record { so = omega arith })

pub returns-clause-stops : goal.returns-clause-stops
returns-clause-stops g c = stops_unshown _ c.complete_by.ensures.shown

pub returns-then-not-rises-clause-unsure : goal.returns-then-not-rises-clause-unsure
returns-then-not-rises-clause-unsure g c = not_needed _ _ c.end_complete_upload_refused.ensures

pub returns-in_err-parts-clause-unsure : goal.returns-in_err-parts-clause-unsure
returns-in_err-parts-clause-unsure g c = not_begun _ _ c.from_residual.ensures.1

pub returns-clause-unsure : goal.returns-clause-unsure
returns-clause-unsure g c = broke_behind c.in_ok-parts.ensures.asks.cause c.complete_by.ensures.unsure

pub returns-then-not-rises-clause-kind : goal.returns-then-not-rises-clause-kind
returns-then-not-rises-clause-kind g c = subst (λ (x : Completing). AnswersUpload x.end) (sym c.end_complete_upload_refused.ensures) refl
