-- What a plan comes to. Source: this profile.
use Rattle.std.specs.Prelude.{◌≡◌, ◌≢◌, ℕ, Bool, true, false, IsTrue, Result, Ok, Err, IfOk}
use Rattle.gate_base.specs.Causes.{Rose}
use Rattle.s3_machine.specs.declared.code.Code.TheVariants.{InconsistentStore, ServiceUnavailable}
use Rattle.s3_machine.specs.declared.operation.Label.{Label}
use Rattle.s3_machine.specs.declared.operation.Settings.{Settings}
use Rattle.s3_machine.specs.declared.operation.Op.{Op}
use Rattle.s3_machine.specs.declared.operation.Reply.{Reply}
use Rattle.s3_machine.specs.declared.operation.Reply.TheVariants.{Refused, Memory}
use Rattle.s3_machine.specs.Shown.{IsShowable}
use Rattle.swift_calls.specs.Account.{SwiftAccount}
use Rattle.swift_calls.specs.History.{History, present}
use Rattle.upload_records.specs.Native.{IsSettled}
use Rattle.account_calls.specs.Answers.{Answers, ends_by_commit, may_leave_unsure, beside_of, SaysBeside}
use Rattle.account_calls.specs.Calls.{Bound, Met, Grows}
use Rattle.account_calls.specs.Known.{IsKnown}
use Rattle.account_calls.specs.Refusals.{IsWithinShown, most_refused}
use Rattle.account_calls.specs.declared.state.Known.{Known}
use Rattle.account_calls.specs.declared.state.Known.TheVariants.{Unsure}
use Rattle.account_calls.specs.Fault.{CausesFault}
use Rattle.account_calls.specs.declared.fault.PlanFault.{PlanFault}
use Rattle.account_calls.specs.declared.fault.PlanFault.TheVariants as fault

-- the reply to an operation, by the end of its plan
abbrev pub reply_of : Result Reply PlanFault → Reply
reply_of (Ok reply) = reply
reply_of (Err fault.Failed) = Refused ServiceUnavailable
reply_of (Err fault.Memory) = Memory
reply_of (Err fault.Inconsistent) = Refused InconsistentStore

-- a reply of the service itself, which speaks neither of memory nor of the store below, and has a page
pub record IsOwnReply (reply : Reply) : Type 0 where
  pub showable : IsShowable reply
  pub no_memory : reply ≢ Memory
  pub no_failure : reply ≢ Refused ServiceUnavailable
  pub no_inconsistency : reply ≢ Refused InconsistentStore

-- the calls of a plan, or of the rest of one, amount to the operation
pub record EndsPlan (settings : Settings) (h : History) (p q : ℕ) (op : Op) (label : Label) (end : Result Reply PlanFault) : Type 0 where
  pub committed : ℕ
  pub takes : ℕ
  pub answers : Answers settings h p committed q op label takes (reply_of end)
  pub consistent : end ≢ Err fault.Inconsistent

-- the end of a plan whose reply was made before its last call, by what that told
abbrev pub ended : {T : Type 0} → Result T PlanFault → (T → Reply) → Result Reply PlanFault
ended (Ok told) reply = Ok (reply told)
ended (Err f) reply = Err f

-- the causes of a plan's end over every store: by the count of faults, where its last call is the one that commits; and else
-- at least that a plan which Failed ended had a call that failed
abbrev pub CausesEnd : Bool → ℕ → ℕ → Result Reply PlanFault → Type 0
CausesEnd true before now end = CausesFault before now end
CausesEnd false before now end = end ≡ Err fault.Failed → Rose before now

-- a plan, or the rest of one, where this is given of the account that it begins on
pub record Plans (most : Bound) (old new : History) (settings : Settings) (given : SwiftAccount → Type 0)
    (op : Op) (label : Label) (after : Known) (end : Result Reply PlanFault) : Type 0 where
  pub grows : Grows most given old new
  pub cause : CausesEnd (ends_by_commit op (reply_of end)) old.faults new.faults end
  pub own : IfOk end IsOwnReply
  pub effect : Met given old → EndsPlan settings new old.called new.called op label end
  pub knows : IsTrue old.observable → IsSettled (present old) → IsKnown after (present new)

-- an operation was answered on a settled store, of which this is known after it
pub record Answered (most : Bound) (old new : History) (settings : Settings) (op : Op) (label : Label) (known : Known) (reply : Reply) : Type 0 where
  pub grows : Grows most IsSettled old new
  -- over every store, a refusal stops at the call that shows it
  pub refused : IsWithinShown (most_refused op reply) old.called new.called
  pub showable : IsShowable reply
  pub unavailable : reply ≡ Refused ServiceUnavailable → Rose old.faults new.faults
  pub unsure : known ≡ Unsure → may_leave_unsure op reply ≡ true
  pub steady : ends_by_commit op reply ≡ true → reply ≢ Refused ServiceUnavailable → new.faults ≡ old.faults
  pub effect : Met IsSettled old → (t : ℕ) × (takes : ℕ) × Answers settings new old.called t new.called op label takes reply
  pub beside : Met IsSettled old → SaysBeside (beside_of op) label new old.called new.called reply
  pub consistent : Met IsSettled old → reply ≢ Refused InconsistentStore
  pub knows : IsTrue old.observable → IsSettled (present old) → IsKnown known (present new)
