-- What the end of a plan says of its reply.
use Rattle.std.specs.Prelude.{◌≡◌, ◌≢◌, ℕ, Bool, true, false, Result, Ok, Err, IfOk}
use Rattle.std.proofs.Common.{refl}
use Rattle.gate_base.specs.Causes.{Rose}
use Rattle.s3_machine.specs.declared.code.Code.TheVariants.{InconsistentStore, ServiceUnavailable}
use Rattle.s3_machine.specs.declared.operation.Reply.{Reply}
use Rattle.s3_machine.specs.declared.operation.Reply.TheVariants.{Refused}
use Rattle.s3_machine.specs.Shown.{IsShowable}
use Rattle.account_calls.specs.Fault.{CausesFault}
use Rattle.account_calls.specs.declared.fault.PlanFault.{PlanFault}
use Rattle.account_calls.specs.declared.fault.PlanFault.TheVariants.{Failed, Memory, Inconsistent}
use Rattle.account_calls.specs.Plan.{reply_of, IsOwnReply, CausesEnd}

pub rose_of : (t : Bool) (before now : ℕ) (end : Result Reply PlanFault) → IfOk end IsOwnReply → CausesEnd t before now end → reply_of end ≡ Refused ServiceUnavailable → Rose before now
rose_of t before now (Ok reply) own cause is = absurd (own.no_failure is)
rose_of true before now (Err Failed) own cause is = cause
rose_of false before now (Err Failed) own cause is = cause refl
rose_of t before now (Err Memory) own cause is = cc
rose_of t before now (Err Inconsistent) own cause is = cc

steady_by : (before now : ℕ) (end : Result Reply PlanFault) → CausesFault before now end → reply_of end ≢ Refused ServiceUnavailable → now ≡ before
steady_by before now (Ok reply) cause not = cause
steady_by before now (Err Failed) cause not = absurd (not refl)
steady_by before now (Err Memory) cause not = cause
steady_by before now (Err Inconsistent) cause not = cause

pub steady_of : (t : Bool) (before now : ℕ) (end : Result Reply PlanFault) → CausesEnd t before now end → t ≡ true → reply_of end ≢ Refused ServiceUnavailable → now ≡ before
steady_of true before now end cause is not = steady_by before now end cause not
steady_of false before now end cause is not = cc

pub consistent_of : (end : Result Reply PlanFault) → IfOk end IsOwnReply → end ≢ Err Inconsistent → reply_of end ≢ Refused InconsistentStore
consistent_of (Ok reply) own not = own.no_inconsistency
consistent_of (Err Failed) own not = λ e. cc
consistent_of (Err Memory) own not = λ e. cc
consistent_of (Err Inconsistent) own not = absurd (not refl)

-- and what it is has a page
pub showable_of : (end : Result Reply PlanFault) → IfOk end IsOwnReply → IsShowable (reply_of end)
showable_of (Ok reply) own = own.showable
showable_of (Err Failed) own = tt
showable_of (Err Memory) own = tt
showable_of (Err Inconsistent) own = tt
