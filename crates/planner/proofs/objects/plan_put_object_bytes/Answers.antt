use Rattle.std.proofs.Common.{sym, subst, ◌∙◌, lit≤, rules, refl}
use Rattle.account_calls.specs.Plan.{Plans}
use Rattle.account_calls.proofs.lemmas.Ends.{out_of_memory, commits, becomes}
use Rattle.account_calls.proofs.lemmas.Puts.{ensures_ended}
use Rattle.account_calls.specs.Puts.{EnsuresIfDone}
use Rattle.planner.proofs.Steps.{put_stored}
use Rattle.account_calls.proofs.lemmas.Refusals.{unrefused_ended}
use Rattle.account_calls.specs.Refusals.{Unrefused}
use Rattle.planner.proofs.Bodiless.{bodiless_by}
use Rattle.planner.proofs.objects.plan_put_object_bytes.Goals as goal

pub returns-in_err-text-clause-plans : goal.returns-in_err-text-clause-plans
returns-in_err-text-clause-plans g c = λ list same. out_of_memory _ _ c.from_residual.ensures.1

pub returns-in_err-checksum-clause-plans : goal.returns-in_err-checksum-clause-plans
returns-in_err-checksum-clause-plans g c = λ list same. out_of_memory _ _ c.from_residual-in_err-checksum.ensures.1

pub returns-clause-plans : goal.returns-clause-plans
returns-clause-plans g c = λ list same.
    subst (Plans _ _ _ _ _ _ _ _) (sym c.stored_end.ensures)
    (commits _ (lit≤ tt) c.put_object.ensures.changes (λ done. search rules) (λ tree there. (list, there.in_bucket))
    (λ tree done new there is. becomes (put_stored c.args.state.now.settings.now _ c.args.put.bucket c.args.put.key c.args.label.now _ there.in_bucket c.args.put.acl c.args.put.content.content_type c.args.put.content.meta c.args.put.content.body _ c.args.put.only_if c.args.put.checksum _
    same there.told (c.in_ok-text.ensures ∙ c.requires.etag) c.in_ok-checksum.ensures) is))

pub returns-clause-stands : goal.returns-clause-stands
returns-clause-stands g c = subst (EnsuresIfDone _ _) (sym c.stored_end.ensures) (ensures_ended _ _ c.put_object.ensures.stands)

pub returns-clause-unrefused : goal.returns-clause-unrefused
returns-clause-unrefused g c = subst Unrefused (sym c.stored_end.ensures) (unrefused_ended _ (λ told. refl) _)

pub returns-clause-bodiless : goal.returns-clause-bodiless
returns-clause-bodiless g c = bodiless_by _ _ _ _ c.stored_end.ensures (λ told. tt)
