use Rattle.plan_uploads.proofs.Finishing.{ends_quietly, finished_then, seal_fails, stands_then}
use Rattle.plan_uploads.proofs.Stopping.{sealed_unrefused}
use Rattle.std.proofs.Common.{ap, sym, subst}
use Rattle.account_calls.specs.Answers.{may_be_sealed}
use Rattle.account_calls.specs.Refusals.{Unrefused, is_refusal}
use Rattle.plan_uploads.specs.declared.complete.Completing.{Completing}
use Rattle.plan_uploads.proofs.Unfinished.{rolling_broke, seal_broke}
use Rattle.plan_uploads.specs.Replies.{AnswersUpload, is_upload_reply}
use Rattle.plan_uploads.proofs.ReplyKinds.{kind_sealed}
use Rattle.plan_uploads.proofs.seal.seal_and_finish.Goals as goal

pub returns-in-Ok-clause-plans : goal.returns-in-Ok-clause-plans
returns-in-Ok-clause-plans g c = λ text list label.
    finished_then c.args.state.now.settings.now c.args.sealed.now text list label c.in-Ok.ensures.seals c.roll_forward_held.ensures.asks c.roll_forward_held.ensures.done c.end_complete_upload_sealed.result c.args.reply c.end_complete_upload_sealed.ensures
    c.requires.reply

pub returns-in-Err-clause-plans : goal.returns-in-Err-clause-plans
returns-in-Err-clause-plans g c = λ text list label. seal_fails c.args.state.now.settings.now c.args.sealed.now text list label c.in-Err.fault c.in-Err.ensures.seals

pub returns-in-Ok-clause-stands : goal.returns-in-Ok-clause-stands
returns-in-Ok-clause-stands g c =
    stands_then _ _ c.end_complete_upload_sealed.ensures c.roll_forward_held.ensures.asks c.roll_forward_held.ensures.finishes c.in-Ok.ensures.stands.so c.roll_forward_held.ensures.rolls

pub returns-in-Ok-clause-last : goal.returns-in-Ok-clause-last
returns-in-Ok-clause-last g c = ends_quietly _ _ c.end_complete_upload_sealed.ensures c.in-Ok.ensures.seals c.roll_forward_held.ensures.asks

pub returns-in-Ok-clause-unrefused : goal.returns-in-Ok-clause-unrefused
returns-in-Ok-clause-unrefused g c = subst (λ (x : Completing). Unrefused x.end) (sym c.end_complete_upload_sealed.ensures) (sealed_unrefused _ _ (ap is_refusal c.requires.reply))

pub returns-in-Ok-clause-unsure : goal.returns-in-Ok-clause-unsure
returns-in-Ok-clause-unsure g c = rolling_broke _ _ c.end_complete_upload_sealed.ensures (ap may_be_sealed c.requires.reply) c.in-Ok.ensures.seals c.roll_forward_held.ensures.asks

pub returns-in-Err-clause-unsure : goal.returns-in-Err-clause-unsure
returns-in-Err-clause-unsure g c = seal_broke c.in-Err.fault c.in-Err.ensures.seals.cause

pub returns-in-Ok-clause-kind : goal.returns-in-Ok-clause-kind
returns-in-Ok-clause-kind g c = subst (λ (x : Completing). AnswersUpload x.end) (sym c.end_complete_upload_sealed.ensures) (kind_sealed _ _ (ap is_upload_reply c.requires.reply))
