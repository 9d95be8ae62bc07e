use Rattle.std.specs.Prelude.{IfSome, length}
use Rattle.std.proofs.Common.{ap, arith, sym, subst, refl, ◌∙◌}
use Rattle.upload_records.specs.Native.{sub_manifests}
use Rattle.account_calls.specs.Answers.{condition_calls}
use Rattle.account_calls.specs.Calls.{always}
use Rattle.account_calls.specs.Condition.{IsOfCondition}
use Rattle.account_calls.proofs.lemmas.Ends.{met_settled}
use Rattle.s3_machine.specs.declared.operation.Settings.{Settings}
use Rattle.plan_uploads.proofs.CompletionCalls.{asked_nothing}
use Rattle.plan_uploads.proofs.CompletionConditions.{allows, refuses, refused_shown}
use Rattle.plan_uploads.proofs.CompletionEnds.{ends_answered, refused_ensures}
use Rattle.plan_uploads.proofs.Completions.{held_back}
use Rattle.plan_uploads.proofs.Unfinished.{broke_behind, not_begun, not_needed}
use Rattle.plan_uploads.specs.Completing.{ShownByParts, has_small_chosen_part}
use Rattle.plan_uploads.specs.Replies.{AnswersUpload}
use Rattle.plan_uploads.specs.declared.complete.Completing.{Completing}
use Rattle.plan_uploads.proofs.complete.complete_if.Goals as goal

pub returns-in_err-refused-clause-plans : goal.returns-in_err-refused-clause-plans
returns-in_err-refused-clause-plans g c = λ text parts lists.
    asked_nothing (always (condition_calls c.args.done.now.only_if)) (omega arith) met_settled c.in_err-refused.ensures.asks c.from_residual.result c.from_residual.ensures.1

pub returns-in_default-clause-plans : goal.returns-in_default-clause-plans
returns-in_default-clause-plans g c = λ text parts lists.
    allows c.args.done.now.bucket c.args.done.now.key text c.args.opened parts c.args.done.now.list c.args.done.now.only_if c.args.label.now (sub_manifests (length c.args.done.now.list)) c.fits.ensures
    c.in_default.is c.condition_refusal.ensures.stays.settings c.in_ok-refused.ensures.asks (c.complete_met.ensures.plans text parts lists)

pub returns-clause-plans : goal.returns-clause-plans
returns-clause-plans g c = λ text parts lists.
    ends_answered _ _ c.end_complete_upload_refused.ensures
    (refuses c.args.done.now.bucket c.args.done.now.key text c.args.opened parts c.args.done.now.list c.args.done.now.only_if c.args.label.now (sub_manifests (length c.args.done.now.list)) c.fits.ensures
    c.in-Some.code c.in-Some.is (subst (λ r. IfSome r IsOfCondition) c.in-Some.is c.in_ok-refused.ensures.codes) c.in_ok-refused.ensures.asks
    (λ tree sound has told. held_back tree c.args.done.now.bucket c.args.done.now.key c.args.opened parts sound c.fits.ensures text has c.args.state.now.settings.now c.args.done.now.list c.args.label.now c.requires.ascends
    c.args.chosen lists c.args.done.now.only_if c.requires.large c.in-Some.code told))

pub complete_met-requires-clause-large : goal.complete_met-requires-clause-large
complete_met-requires-clause-large g c = ap (λ (s : Settings). has_small_chosen_part s.least_part c.args.chosen) c.condition_refusal.ensures.stays.settings ∙ c.requires.large

pub returns-clause-stands : goal.returns-clause-stands
returns-clause-stands g c = refused_ensures c.in-Some.code _ (ap (λ (x : Completing). x.end) c.end_complete_upload_refused.ensures)

pub returns-clause-shown : goal.returns-clause-shown
returns-clause-shown g c =
    subst (λ (x : Completing). ShownByParts x.end) (sym c.end_complete_upload_refused.ensures) (refused_shown c.in-Some.code (subst (λ r. IfSome r IsOfCondition) c.in-Some.is c.in_ok-refused.ensures.codes))

pub returns-in_err-refused-clause-unsure : goal.returns-in_err-refused-clause-unsure
returns-in_err-refused-clause-unsure g c = not_begun _ _ c.from_residual.ensures.1

pub returns-in_default-clause-unsure : goal.returns-in_default-clause-unsure
returns-in_default-clause-unsure g c = broke_behind c.in_ok-refused.ensures.asks.cause c.complete_met.ensures.unsure

pub returns-clause-unsure : goal.returns-clause-unsure
returns-clause-unsure g c = not_needed _ _ c.end_complete_upload_refused.ensures

pub returns-clause-kind : goal.returns-clause-kind
returns-clause-kind g c = subst (λ (x : Completing). AnswersUpload x.end) (sym c.end_complete_upload_refused.ensures) refl
