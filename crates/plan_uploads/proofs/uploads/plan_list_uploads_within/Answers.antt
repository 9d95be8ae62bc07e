use Rattle.std.specs.Prelude.{◌+◌, Ok}
use Rattle.std.proofs.Common.{refl, rules, ap, sym, subst}
use Rattle.swift_calls.specs.History.{present}
use Rattle.account_calls.specs.Answers.{pages, records_of}
use Rattle.account_calls.specs.Calls.{by_account}
use Rattle.account_calls.proofs.lemmas.Ends.{as_wide, calls_in_vain, calls_end}
use Rattle.upload_calls.proofs.lemmas.Finding.{met_there}
use Rattle.plan_uploads.specs.Plans.{uploads_told}
use Rattle.plan_uploads.proofs.Steps.{uploads_are_own, uploads_listed}
use Rattle.account_calls.specs.Refusals.{Unrefused}
use Rattle.plan_uploads.specs.Replies.{AnswersUpload}
use Rattle.plan_uploads.proofs.uploads.plan_list_uploads_within.Goals as goal

pub returns-in_err-listed-clause-plans : goal.returns-in_err-listed-clause-plans
returns-in_err-listed-clause-plans g c = λ acl label.
    let most = by_account (pages (records_of (present (g.W.Swift.history c.args.state.now.store.now)) c.args.list.bucket) + records_of (present (g.W.Swift.history c.args.state.now.store.now)) c.args.list.bucket) in
    calls_in_vain most (as_wide most) (met_there _ acl c.fits.ensures) (rw c.get.ensures.value at c.in_err-listed.ensures.asks) _ c.from_residual.ensures.1

pub returns-clause-plans : goal.returns-clause-plans
returns-clause-plans g c = λ acl label.
    let most = by_account (pages (records_of (present (g.W.Swift.history c.args.state.now.store.now)) c.args.list.bucket) + records_of (present (g.W.Swift.history c.args.state.now.store.now)) c.args.list.bucket) in
    calls_end most (as_wide most) (met_there _ acl c.fits.ensures) c.in_ok-listed.listed refl _ (rw c.get.ensures.value at c.in_ok-listed.ensures.asks)
    (rw c.end_list_uploads_plan.ensures (uploads_are_own c.args.list.bucket c.args.list.asked.prefix c.args.list.asked.key_marker c.args.list.asked.id_marker c.args.list.asked.max c.args.list.asked.url c.in_ok-listed.listed c.in_ok-listed.ensures.dated)) (search rules)
    (λ tree there told. (
      uploads_told c.args.list.bucket c.args.list.asked.prefix c.args.list.asked.key_marker c.args.list.asked.id_marker c.args.list.asked.max c.args.list.asked.url c.in_ok-listed.listed,
      ap Ok c.end_list_uploads_plan.ensures,
      uploads_listed _ _ _ _ acl there c.args.list.asked.prefix c.args.list.asked.key_marker c.args.list.asked.id_marker c.args.list.asked.max c.args.list.asked.url c.in_ok-listed.listed told,
    ))

pub returns-clause-unrefused : goal.returns-clause-unrefused
returns-clause-unrefused g c = subst (λ r. Unrefused (Ok r)) (sym c.end_list_uploads_plan.ensures) refl

pub returns-clause-kind : goal.returns-clause-kind
returns-clause-kind g c = subst (λ r. AnswersUpload (Ok r)) (sym c.end_list_uploads_plan.ensures) refl
