-- The replies are ones to operations on uploads.
use Rattle.std.specs.Prelude.{◌≡◌, true, Result, Ok, Err}
use Rattle.std.proofs.Common.{refl}
use Rattle.s3_machine.specs.declared.operation.Reply.{Reply}
use Rattle.account_calls.specs.declared.fault.PlanFault.{PlanFault}
use Rattle.account_calls.specs.declared.fault.PlanFault.TheVariants.{Failed, Memory, Inconsistent}
use Rattle.account_calls.specs.Plan.{ended, reply_of}
use Rattle.plan_uploads.specs.Completing.{end_complete_upload_sealed}
use Rattle.plan_uploads.specs.Plans.{gone_behind}
use Rattle.plan_uploads.specs.Replies.{AnswersUpload, is_upload_reply}

-- the end of a plan whose reply was made before its last call
pub kind_ended : {T : Type 0} (reply : T → Reply) → ((told : T) → is_upload_reply (reply told) ≡ true) → (end : Result T PlanFault) → AnswersUpload (ended end reply)
kind_ended reply made (Ok told) = made told
kind_ended reply made (Err fault) = tt

-- the reply, by the end of its plan
pub kind_reply : (end : Result Reply PlanFault) → AnswersUpload end → is_upload_reply (reply_of end) ≡ true
kind_reply (Ok reply) is = is
kind_reply (Err Failed) is = refl
kind_reply (Err Memory) is = refl
kind_reply (Err Inconsistent) is = refl

-- the end of an abort, and that of a completion which was sealed
pub kind_gone : (end : Result (Unit {0}) PlanFault) → AnswersUpload (gone_behind end)
kind_gone (Ok done) = refl
kind_gone (Err Failed) = refl
kind_gone (Err Memory) = tt
kind_gone (Err Inconsistent) = tt

pub kind_sealed : (finished : Result (Unit {0}) PlanFault) (reply : Reply) → is_upload_reply reply ≡ true → AnswersUpload (end_complete_upload_sealed finished reply).end
kind_sealed (Ok done) reply is = is
kind_sealed (Err Failed) reply is = is
kind_sealed (Err Memory) reply is = is
kind_sealed (Err Inconsistent) reply is = tt
