use Rattle.std.proofs.Common.{refl, ap, subst, inl, inr, arith, rules, sym}
use Rattle.account_calls.specs.Answers.{condition_calls, pages, named_by}
use Rattle.account_calls.specs.Calls.{always}
use Rattle.account_calls.proofs.lemmas.Ends.{met_settled, goes_on_from}
use Rattle.upload_calls.proofs.lemmas.Asking.{after_told_of, asked_in_vain, asked_reply}
use Rattle.plan_uploads.specs.Completing.{lacks_bucket}
use Rattle.plan_uploads.specs.declared.completed.ToComplete.TheVariants.{NoBucket, NoUpload, Again, Open}
use Rattle.account_calls.proofs.lemmas.Puts.{ensures_less}
use Rattle.s3_machine.specs.declared.code.Code.TheVariants.{NoSuchBucket, NoSuchUpload}
use Rattle.plan_uploads.specs.declared.complete.Completing.{Completing}
use Rattle.plan_uploads.proofs.CompletionEnds.{again_ensures, asked_out_of_memory, ends_answered, ends_with_fault, refused_ensures}
use Rattle.plan_uploads.proofs.FoundCompletion.{complete_lost, complete_missing, completed_again, named_alike, two_calls, unkept_calls}
use Rattle.account_calls.proofs.lemmas.Refusals.{stops_behind}
use Rattle.std.specs.Prelude.{◌+◌, length}
use Rattle.swift_calls.specs.History.{present}
use Rattle.upload_records.specs.Native.{s3_state, sub_manifests}
use Rattle.plan_uploads.proofs.Unfinished.{broke_behind, not_begun, not_needed}
use Rattle.plan_uploads.specs.Replies.{AnswersUpload}
use Rattle.plan_uploads.proofs.complete.complete_upload.Goals as goal

pub returns-in_err-find_upload_to_complete-clause-plans : goal.returns-in_err-find_upload_to_complete-clause-plans
returns-in_err-find_upload_to_complete-clause-plans g c =
    ends_with_fault _ c.from_residual.ensures.1 (asked_in_vain (always 2) (two_calls (6 + condition_calls c.args.done.now.only_if + pages (named_by (present (g.W.Swift.history c.args.state.now.store.now)) c.args.done.now.bucket c.args.done.now.id) + sub_manifests (length c.args.done.now.list)) (s3_state (present (g.W.Swift.history c.args.state.now.store.now))) c.args.done.now.bucket c.args.done.now.key c.args.done.now.id c.args.done.now.list (omega arith)) met_settled c.in_err-find_upload_to_complete.ensures.asks _ refl)

pub returns-in_err-end_complete_upload_again-in-Again-clause-plans : goal.returns-in_err-end_complete_upload_again-in-Again-clause-plans
returns-in_err-end_complete_upload_again-in-Again-clause-plans g c =
    ends_with_fault _ c.from_residual-in_err-end_complete_upload_again-in-Again.ensures.1 (asked_out_of_memory (two_calls (6 + condition_calls c.args.done.now.only_if + pages (named_by (present (g.W.Swift.history c.args.state.now.store.now)) c.args.done.now.bucket c.args.done.now.id) + sub_manifests (length c.args.done.now.list)) (s3_state (present (g.W.Swift.history c.args.state.now.store.now))) c.args.done.now.bucket c.args.done.now.key c.args.done.now.id c.args.done.now.list (omega arith)) met_settled c.in_ok-find_upload_to_complete.ensures.asks)

pub returns-in-NoBucket-clause-plans : goal.returns-in-NoBucket-clause-plans
returns-in-NoBucket-clause-plans g c =
    ends_answered _ _ c.end_complete_upload_refused.ensures
    (asked_reply (always 2) (two_calls (6 + condition_calls c.args.done.now.only_if + pages (named_by (present (g.W.Swift.history c.args.state.now.store.now)) c.args.done.now.bucket c.args.done.now.id) + sub_manifests (length c.args.done.now.list)) (s3_state (present (g.W.Swift.history c.args.state.now.store.now))) c.args.done.now.bucket c.args.done.now.key c.args.done.now.id c.args.done.now.list (omega arith)) (λ tree has. has.settled) NoBucket c.in-NoBucket.is _ c.in_ok-find_upload_to_complete.ensures.asks (search rules)
    (λ tree sound has missing. complete_missing _ _ _ _ _ _ _ _ missing))

pub returns-in-NoUpload-clause-plans : goal.returns-in-NoUpload-clause-plans
returns-in-NoUpload-clause-plans g c =
    ends_answered _ _ c.end_complete_upload_refused-in-NoUpload.ensures
    (asked_reply (always 2) (two_calls (6 + condition_calls c.args.done.now.only_if + pages (named_by (present (g.W.Swift.history c.args.state.now.store.now)) c.args.done.now.bucket c.args.done.now.id) + sub_manifests (length c.args.done.now.list)) (s3_state (present (g.W.Swift.history c.args.state.now.store.now))) c.args.done.now.bucket c.args.done.now.key c.args.done.now.id c.args.done.now.list (omega arith)) (λ tree has. has.settled) NoUpload c.in-NoUpload.is _ c.in_ok-find_upload_to_complete.ensures.asks (search rules)
    (λ tree sound has lacks. complete_lost _ _ _ _ _ _ _ tree c.fits.ensures lacks))

pub returns-in_ok-end_complete_upload_again-in-Again-clause-plans : goal.returns-in_ok-end_complete_upload_again-in-Again-clause-plans
returns-in_ok-end_complete_upload_again-in-Again-clause-plans g c =
    ends_answered _ _ c.in_ok-end_complete_upload_again-in-Again.ensures
    (asked_reply (always 2) (two_calls (6 + condition_calls c.args.done.now.only_if + pages (named_by (present (g.W.Swift.history c.args.state.now.store.now)) c.args.done.now.bucket c.args.done.now.id) + sub_manifests (length c.args.done.now.list)) (s3_state (present (g.W.Swift.history c.args.state.now.store.now))) c.args.done.now.bucket c.args.done.now.key c.args.done.now.id c.args.done.now.list (omega arith)) (λ tree has. has.settled) (Again c.in-Again.etag) c.in-Again.is _ c.in_ok-find_upload_to_complete.ensures.asks (search rules)
    (λ tree sound has completed. completed_again _ _ _ _ _ _ _ tree c.fits.ensures _ completed))

pub returns-in-Open-clause-plans : goal.returns-in-Open-clause-plans
returns-in-Open-clause-plans g c =
    goes_on_from met_settled c.find_upload_to_complete.ensures.stays.settings c.in_ok-find_upload_to_complete.ensures.asks (c.complete_open.ensures.plans c.args.done.now.id)
    (λ any tells. after_told_of (Open c.in-Open.opened) c.in-Open.is tells)
    (λ x.
    let same = named_alike c.in-Open.is x.1 in
    let paged = ap pages same in
    unkept_calls _ (6 + condition_calls c.args.done.now.only_if + pages (named_by (present (g.W.Swift.history c.args.state.now.store.now)) c.args.done.now.bucket c.args.done.now.id) + sub_manifests (length c.args.done.now.list)) (present (g.W.Swift.history c.args.state.now.store.now)) c.args.done.now.bucket c.args.done.now.key c.args.done.now.id c.args.done.now.list c.fits.ensures c.in-Open.is x.1 (omega (arith, same, paged)))

pub returns-in-NoBucket-clause-stands : goal.returns-in-NoBucket-clause-stands
returns-in-NoBucket-clause-stands g c = refused_ensures NoSuchBucket _ (ap (λ (x : Completing). x.end) c.end_complete_upload_refused.ensures)

pub returns-in-NoUpload-clause-stands : goal.returns-in-NoUpload-clause-stands
returns-in-NoUpload-clause-stands g c = refused_ensures NoSuchUpload _ (ap (λ (x : Completing). x.end) c.end_complete_upload_refused-in-NoUpload.ensures)

pub returns-in_ok-end_complete_upload_again-in-Again-clause-stands : goal.returns-in_ok-end_complete_upload_again-in-Again-clause-stands
returns-in_ok-end_complete_upload_again-in-Again-clause-stands g c =
    again_ensures _ _ (ap (λ (x : Completing). x.end) c.in_ok-end_complete_upload_again-in-Again.ensures) (inl c.in_ok-find_upload_to_complete.ensures.asks.grows.calls)

pub returns-in-Open-clause-stands : goal.returns-in-Open-clause-stands
returns-in-Open-clause-stands g c = ensures_less (λ tree stands. inr stands) _ c.complete_open.ensures.stands

pub returns-in-NoBucket-clause-stops : goal.returns-in-NoBucket-clause-stops
returns-in-NoBucket-clause-stops g c = rw c.end_complete_upload_refused.ensures (record { so = let near = c.in_ok-find_upload_to_complete.ensures.missing (ap lacks_bucket c.in-NoBucket.is) in omega (arith, near) })

pub returns-in-NoUpload-clause-stops : goal.returns-in-NoUpload-clause-stops
returns-in-NoUpload-clause-stops g c = rw c.end_complete_upload_refused-in-NoUpload.ensures (record { so = let near = c.in_ok-find_upload_to_complete.ensures.asks.grows.calls in omega (arith, near) })

pub returns-in_ok-end_complete_upload_again-in-Again-clause-stops : goal.returns-in_ok-end_complete_upload_again-in-Again-clause-stops
returns-in_ok-end_complete_upload_again-in-Again-clause-stops g c = rw c.in_ok-end_complete_upload_again-in-Again.ensures (record { so = tt })

pub returns-in-Open-clause-stops : goal.returns-in-Open-clause-stops
returns-in-Open-clause-stops g c = stops_behind c.in_ok-find_upload_to_complete.ensures.asks _ c.complete_open.ensures.stops

pub returns-in_err-find_upload_to_complete-clause-unsure : goal.returns-in_err-find_upload_to_complete-clause-unsure
returns-in_err-find_upload_to_complete-clause-unsure g c = not_begun _ _ c.from_residual.ensures.1

pub returns-in-NoBucket-clause-unsure : goal.returns-in-NoBucket-clause-unsure
returns-in-NoBucket-clause-unsure g c = not_needed _ _ c.end_complete_upload_refused.ensures

pub returns-in-NoUpload-clause-unsure : goal.returns-in-NoUpload-clause-unsure
returns-in-NoUpload-clause-unsure g c = not_needed _ _ c.end_complete_upload_refused-in-NoUpload.ensures

pub returns-in_err-end_complete_upload_again-in-Again-clause-unsure : goal.returns-in_err-end_complete_upload_again-in-Again-clause-unsure
returns-in_err-end_complete_upload_again-in-Again-clause-unsure g c = not_begun _ _ c.from_residual-in_err-end_complete_upload_again-in-Again.ensures.1

pub returns-in_ok-end_complete_upload_again-in-Again-clause-unsure : goal.returns-in_ok-end_complete_upload_again-in-Again-clause-unsure
returns-in_ok-end_complete_upload_again-in-Again-clause-unsure g c = not_needed _ _ c.in_ok-end_complete_upload_again-in-Again.ensures

pub returns-in-Open-clause-unsure : goal.returns-in-Open-clause-unsure
returns-in-Open-clause-unsure g c = broke_behind c.in_ok-find_upload_to_complete.ensures.asks.cause c.complete_open.ensures.unsure

pub returns-in-NoBucket-clause-kind : goal.returns-in-NoBucket-clause-kind
returns-in-NoBucket-clause-kind g c = subst (λ (x : Completing). AnswersUpload x.end) (sym c.end_complete_upload_refused.ensures) refl

pub returns-in-NoUpload-clause-kind : goal.returns-in-NoUpload-clause-kind
returns-in-NoUpload-clause-kind g c = subst (λ (x : Completing). AnswersUpload x.end) (sym c.end_complete_upload_refused-in-NoUpload.ensures) refl

pub returns-in_ok-end_complete_upload_again-in-Again-clause-kind : goal.returns-in_ok-end_complete_upload_again-in-Again-clause-kind
returns-in_ok-end_complete_upload_again-in-Again-clause-kind g c = subst (λ (x : Completing). AnswersUpload x.end) (sym c.in_ok-end_complete_upload_again-in-Again.ensures) refl
