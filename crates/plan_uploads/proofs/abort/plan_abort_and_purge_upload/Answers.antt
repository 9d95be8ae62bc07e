use Rattle.std.proofs.Common.{sym, subst, arith}
use Rattle.swift_calls.specs.Limits.{IsMarker}
use Rattle.swift_calls.specs.Step.{IsContainerName}
use Rattle.account_calls.specs.Plan.{Plans}
use Rattle.account_calls.proofs.lemmas.SideNames.{prefix_is_marker, segments_fits}
use Rattle.plan_uploads.specs.Plans.{LeavesBeside}
use Rattle.plan_uploads.proofs.Behind.{clears_behind, clears_fault, drop_fails, gone_then, purged_at}
use Rattle.plan_uploads.proofs.Stopping.{gone_unrefused}
use Rattle.account_calls.specs.Refusals.{Unrefused}
use Rattle.plan_uploads.specs.Replies.{AnswersUpload}
use Rattle.plan_uploads.proofs.ReplyKinds.{kind_gone}
use Rattle.plan_uploads.proofs.abort.plan_abort_and_purge_upload.Goals as goal

pub returns-in_err-drop_record-clause-plans : goal.returns-in_err-drop_record-clause-plans
returns-in_err-drop_record-clause-plans g c = λ key text label. drop_fails c.fits.ensures (omega arith) c.in_err-drop_record.ensures.drops _ c.from_residual.ensures.1

pub returns-in_err-drop_record-clause-beside : goal.returns-in_err-drop_record-clause-beside
returns-in_err-drop_record-clause-beside g c = λ key text label. clears_fault _ _ c.from_residual.ensures.1

pub purge-requires-clause-named : goal.purge-requires-clause-named
purge-requires-clause-named g c = subst IsContainerName (sym c.requires.folder) (segments_fits c.args.bucket.now c.fits.ensures)

pub purge-requires-clause-prefix : goal.purge-requires-clause-prefix
purge-requires-clause-prefix g c = subst IsMarker (sym c.requires.prefix) (prefix_is_marker c.args.id)

pub returns-clause-plans : goal.returns-clause-plans
returns-clause-plans g c = λ key text label.
    subst (Plans _ _ _ _ _ _ _ _) (sym c.end_abort_upload_plan.ensures)
    (gone_then c.fits.ensures c.in_ok-drop_record.ensures.drops (purged_at c.requires.folder c.requires.prefix (c.purge.ensures.asks c.args.bucket.now)) key text _ label)

pub returns-clause-beside : goal.returns-clause-beside
returns-clause-beside g c = λ key text label.
    subst (LeavesBeside _ _ _ _ _) (sym c.end_abort_upload_plan.ensures)
    (clears_behind c.fits.ensures c.in_ok-drop_record.ensures.drops (purged_at c.requires.folder c.requires.prefix (c.purge.ensures.asks c.args.bucket.now)) key text label)

pub returns-clause-unrefused : goal.returns-clause-unrefused
returns-clause-unrefused g c = subst Unrefused (sym c.end_abort_upload_plan.ensures) (gone_unrefused _)

pub returns-clause-kind : goal.returns-clause-kind
returns-clause-kind g c = subst AnswersUpload (sym c.end_abort_upload_plan.ensures) (kind_gone _)
