use Rattle.std.specs.Prelude.{Ok}
use Rattle.std.proofs.Common.{rules, ap, refl, sym, subst}
use Rattle.s3_names.specs.Id.{id_digits}
use Rattle.swift_calls.specs.History.{present}
use Rattle.account_calls.specs.Answers.{named_by, pages}
use Rattle.account_calls.specs.Calls.{by_account}
use Rattle.account_calls.proofs.lemmas.Ends.{as_wide}
use Rattle.account_calls.specs.Listing.{TellsOf}
use Rattle.upload_calls.specs.Records.{TellsParts}
use Rattle.upload_calls.proofs.lemmas.Asking.{asked_in_vain, asked_end}
use Rattle.upload_calls.proofs.lemmas.Opened.{has_open}
use Rattle.plan_uploads.specs.Plans.{parts_told}
use Rattle.plan_uploads.proofs.Steps.{only_parts, parts_are_own, parts_listed}
use Rattle.account_calls.specs.Refusals.{Unrefused}
use Rattle.plan_uploads.specs.Replies.{AnswersUpload}
use Rattle.plan_uploads.proofs.uploads.plan_list_parts_within.Goals as goal

pub returns-in_err-listed-clause-plans : goal.returns-in_err-listed-clause-plans
returns-in_err-listed-clause-plans g c = λ text label.
    let most = by_account (pages (named_by (present (g.W.Swift.history c.args.state.now.store.now)) c.args.list.bucket (id_digits c.args.id))) in
    asked_in_vain most (as_wide most) {Q = TellsOf (TellsParts c.args.list.bucket c.args.id c.args.list.asked.marker c.args.list.asked.max)} (λ met. record { observable = met.observable; sound = met.sound; has = record { settled = met.has.settled; is = only_parts c.fits.ensures met.has.settled (has_open met.has.is) } }) (rw c.get-asked.ensures.value at c.in_err-listed.ensures.asks) _ c.from_residual.ensures.1

pub returns-clause-plans : goal.returns-clause-plans
returns-clause-plans g c = λ text label.
    let most = by_account (pages (named_by (present (g.W.Swift.history c.args.state.now.store.now)) c.args.list.bucket (id_digits c.args.id))) in
    asked_end most (as_wide most) (λ tree has. record { settled = has.settled; is = only_parts c.fits.ensures has.settled (has_open has.is) }) _ (rw c.get-asked.ensures.value at c.in_ok-listed.ensures.asks)
    (rw c.end_list_parts_plan.ensures (parts_are_own c.args.list.bucket c.args.list.key c.args.id c.args.list.asked.marker c.args.list.asked.max c.in_ok-listed.listed c.in_ok-listed.ensures.dated)) (search rules)
    (λ tree sound has told. record {
      reply = parts_told c.args.list.bucket c.args.list.key c.args.id c.args.list.asked.marker c.args.list.asked.max c.in_ok-listed.listed;
      is = ap Ok c.end_list_parts_plan.ensures;
      step = parts_listed _ _ _ _ _ tree c.fits.ensures c.args.id has.is c.ranges.id.fits c.args.list.asked.marker c.args.list.asked.max c.in_ok-listed.listed told;
    })

pub returns-clause-unrefused : goal.returns-clause-unrefused
returns-clause-unrefused g c = subst (λ r. Unrefused (Ok r)) (sym c.end_list_parts_plan.ensures) refl

pub returns-clause-kind : goal.returns-clause-kind
returns-clause-kind g c = subst (λ r. AnswersUpload (Ok r)) (sym c.end_list_parts_plan.ensures) refl
