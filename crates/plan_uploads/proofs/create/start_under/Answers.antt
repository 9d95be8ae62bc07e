use Rattle.std.proofs.Common.{sym, subst, lit≤, rules, refl}
use Rattle.account_calls.specs.Plan.{Plans}
use Rattle.account_calls.proofs.lemmas.Ends.{out_of_memory, commits, becomes}
use Rattle.account_calls.specs.Puts.{EnsuresIfDone}
use Rattle.account_calls.proofs.lemmas.Puts.{ensures_ended, ensures_less}
use Rattle.plan_uploads.proofs.Beside.{beside_none}
use Rattle.plan_uploads.proofs.Creating.{may_open, new_id, opens_first}
use Rattle.plan_uploads.proofs.Steps.{created, it}
use Rattle.account_calls.proofs.lemmas.Refusals.{unrefused_ended}
use Rattle.account_calls.specs.Refusals.{Unrefused}
use Rattle.plan_uploads.specs.Replies.{AnswersUpload}
use Rattle.plan_uploads.proofs.ReplyKinds.{kind_ended}
use Rattle.plan_uploads.proofs.create.start_under.Goals as goal

pub returns-in_err-bucket-clause-plans : goal.returns-in_err-bucket-clause-plans
returns-in_err-bucket-clause-plans g c = λ list same. out_of_memory _ _ c.from_residual.ensures.1

pub returns-in_err-bucket-clause-beside : goal.returns-in_err-bucket-clause-beside
returns-in_err-bucket-clause-beside g c = λ list. beside_none _ _ _ _ _ c.from_residual.ensures.1

pub returns-in_err-key-clause-plans : goal.returns-in_err-key-clause-plans
returns-in_err-key-clause-plans g c = λ list same. out_of_memory _ _ c.from_residual-in_err-key.ensures.1

pub returns-in_err-key-clause-beside : goal.returns-in_err-key-clause-beside
returns-in_err-key-clause-beside g c = λ list. beside_none _ _ _ _ _ c.from_residual-in_err-key.ensures.1

pub returns-clause-plans : goal.returns-clause-plans
returns-clause-plans g c = λ list same.
    subst (Plans _ _ _ _ _ _ _ _) (sym (rw (c.in_ok-bucket.ensures.value, c.in_ok-key.ensures.value) at c.end_create_upload_plan.ensures))
    (commits _ (lit≤ tt) c.put_record.ensures.changes (λ done. search rules) (λ tree may. may_open may)
    (λ tree done new may is. becomes (created _ _ _ _ _ may.listed c.args.start.key c.args.start.key _ _ _ c.args.id refl same (new_id may c.in_ok-bucket.ensures.fit c.ranges.id.fits (it c.args.state.now.settings.now _ _ c.args.label.now _ may.listed).1)) is))

pub returns-clause-beside : goal.returns-clause-beside
returns-clause-beside g c = λ list. opens_first c.args.start.key c.args.start.described.content_type c.args.start.described.meta c.args.label.now.moment c.put_record.ensures.changes _

pub returns-clause-stands : goal.returns-clause-stands
returns-clause-stands g c =
    subst (EnsuresIfDone _ _) (sym c.end_create_upload_plan.ensures)
    (ensures_less (λ tree stands. record { id = c.args.id; record_stands = stands }) _ (ensures_ended _ _ c.put_record.ensures.stands))

pub returns-clause-unrefused : goal.returns-clause-unrefused
returns-clause-unrefused g c = subst Unrefused (sym c.end_create_upload_plan.ensures) (unrefused_ended _ (λ told. refl) _)

pub returns-clause-kind : goal.returns-clause-kind
returns-clause-kind g c = subst AnswersUpload (sym c.end_create_upload_plan.ensures) (kind_ended _ (λ told. refl) _)
