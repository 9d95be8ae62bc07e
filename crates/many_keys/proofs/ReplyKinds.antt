-- The replies are ones to copies.
use Rattle.std.specs.Prelude.{◌≡◌, true, Result, Ok, Err}
use Rattle.std.proofs.Common.{refl}
use Rattle.s3_machine.specs.declared.operation.Reply.{Reply}
use Rattle.account_calls.specs.declared.fault.PlanFault.{PlanFault}
use Rattle.account_calls.specs.declared.fault.PlanFault.TheVariants.{Failed, Memory, Inconsistent}
use Rattle.account_calls.specs.Plan.{ended, reply_of}
use Rattle.many_keys.specs.Replies.{AnswersCopy, is_copy_reply}

-- the end of a plan whose reply was made before its last call
pub kind_ended : {T : Type 0} (reply : T → Reply) → ((told : T) → is_copy_reply (reply told) ≡ true) → (end : Result T PlanFault) → AnswersCopy (ended end reply)
kind_ended reply made (Ok told) = made told
kind_ended reply made (Err fault) = tt

-- the reply, by the end of its plan
pub kind_reply : (end : Result Reply PlanFault) → AnswersCopy end → is_copy_reply (reply_of end) ≡ true
kind_reply (Ok reply) is = is
kind_reply (Err Failed) is = refl
kind_reply (Err Memory) is = refl
kind_reply (Err Inconsistent) is = refl
