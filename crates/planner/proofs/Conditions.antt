-- A plan that asks what stands under the key of its write: where that refuses the write it ends, and else it goes on.
use Rattle.std.specs.Prelude.{◌≡◌, ◌≤◌, ℕ, ◌+◌, Bool, true, false, cond, List, Option, None, Some, Result, Ok, Err}
use Rattle.std.specs.Result.{IsErrAnd}
use Rattle.std.proofs.Common.{refl, sym, subst, inl, inr, arith}
use Rattle.s3_names.specs.declared.acl.Acl.{Acl}
use Rattle.s3_machine.specs.declared.code.Code.{Code}
use Rattle.s3_machine.specs.declared.only_if.OnlyIf.{OnlyIf}
use Rattle.s3_machine.specs.declared.operation.Label.{Label}
use Rattle.s3_machine.specs.declared.operation.Op.{Op}
use Rattle.s3_machine.specs.declared.operation.Reply.{Reply}
use Rattle.s3_machine.specs.declared.operation.Reply.TheVariants.{Refused}
use Rattle.s3_machine.specs.declared.operation.Settings.{Settings}
use Rattle.s3_machine.specs.OnlyIf.{is_always}
use Rattle.s3_machine.specs.State.{State}
use Rattle.s3_machine.specs.Step.{S3Step}
use Rattle.swift_calls.specs.Account.{SwiftAccount}
use Rattle.swift_calls.specs.History.{History}
use Rattle.upload_records.specs.Native.{IsSettled, s3_state}
use Rattle.account_calls.specs.declared.fault.PlanFault.{PlanFault}
use Rattle.account_calls.specs.declared.state.Known.TheVariants.{Settled}
use Rattle.account_calls.specs.Answers.{condition_calls}
use Rattle.account_calls.specs.Calls.{Asks, Given, Tells, TellsBucket, always}
use Rattle.account_calls.specs.Condition.{IsOfCondition, TellsRefusal}
use Rattle.account_calls.specs.Plan.{IsOwnReply, Plans}
use Rattle.account_calls.specs.Refusals.{Stops}
use Rattle.account_calls.specs.Shows.{alone}
use Rattle.account_calls.proofs.lemmas.Ends.{after_told, calls_end, calls_in_vain, goes_on_from, met_settled}
use Rattle.planner.specs.Objects.{MayWrite}

-- at most one call asks it
few : (only_if : OnlyIf) → condition_calls only_if ≤ 1
few only_if = by (is_always only_if)
  where
    by : (t : Bool) → cond t 0 1 ≤ 1
    by true = omega arith
    by false = omega arith

-- a refusal by a condition is the service's own
pub own_refusal : (code : Code) → IsOfCondition code → IsOwnReply (Refused code)
own_refusal code (inl is) = record { showable = tt; no_memory = λ e. cc; no_failure = λ e. cc; no_inconsistency = λ e. cc }
own_refusal code (inr is) = record { showable = tt; no_memory = λ e. cc; no_failure = λ e. cc; no_inconsistency = λ e. cc }

-- and is known by the calls that ask it
pub refused_stops : {T : Type 0} (only_if : OnlyIf) {asked : SwiftAccount → Type 0} {P : SwiftAccount → SwiftAccount → T → Type 0} {value : Result T PlanFault} {a b : History}
    → Asks (always (condition_calls only_if)) a b asked P value → (code : Code) → IsOfCondition code → Stops alone 1 a b (Ok (Refused code))
refused_stops only_if {a = a} {b = b} asks code (inl is) =
    let near : b.called ≤ a.called + condition_calls only_if = asks.grows.calls in
    let some = few only_if in
    subst (λ c. Stops alone 1 a b (Ok (Refused c))) (sym is) (record { so = omega arith })
refused_stops only_if {a = a} {b = b} asks code (inr is) =
    let near : b.called ≤ a.called + condition_calls only_if = asks.grows.calls in
    let some = few only_if in
    subst (λ c. Stops alone 1 a b (Ok (Refused c))) (sym is) (record { so = omega arith })

module _ {settings : Settings} (bucket key : List ℕ) (only_if : OnlyIf) (list : Acl) {op : Op} {label : Label} {a b : History} where
  -- the call told nothing
  pub unasked : {f : PlanFault} → Asks (always (condition_calls only_if)) a b IsSettled (Tells (TellsRefusal bucket key only_if)) (Err f) → (end : Result Reply PlanFault) → IsErrAnd end (λ e. e ≡ f)
      → Plans (always (1 + condition_calls only_if)) a b settings (Given (λ s. TellsBucket bucket s (Some list))) op label Settled end
  unasked asks end is = calls_in_vain (always (condition_calls only_if)) (omega arith) met_settled asks end is

  -- the condition refuses the write
  pub refuses : {value : Option Code} (code : Code) → value ≡ Some code → IsOfCondition code → Asks (always (condition_calls only_if)) a b IsSettled (Tells (TellsRefusal bucket key only_if)) (Ok value)
      → ((state : State) → TellsBucket bucket state (Some list) → TellsRefusal bucket key only_if state (Some code) → S3Step settings state op label (Refused code) state)
      → Plans (always (1 + condition_calls only_if)) a b settings (Given (λ s. TellsBucket bucket s (Some list))) op label Settled (Ok (Refused code))
  refuses code is of asks step =
      calls_end (always (condition_calls only_if)) (omega arith) met_settled (Some code) is (Ok (Refused code)) asks (own_refusal code of) (λ e. cc)
      (λ tree there told. (Refused code, refl, step (s3_state tree) there told))

  -- it doesn't, and the rest goes on
  pub allows : {value : Option Code} {c : History} {now : Settings} {end : Result Reply PlanFault} → value ≡ None → now ≡ settings → Asks (always (condition_calls only_if)) a b IsSettled (Tells (TellsRefusal bucket key only_if)) (Ok value)
      → Plans (always 1) b c now (Given (MayWrite bucket key list only_if None)) op label Settled end
      → Plans (always (1 + condition_calls only_if)) a c settings (Given (λ s. TellsBucket bucket s (Some list))) op label Settled end
  allows is same asks plans = goes_on_from met_settled same asks plans (after_told (λ tree. TellsBucket bucket (s3_state tree) (Some list)) (λ tree. MayWrite bucket key list only_if None (s3_state tree)) None is (λ tree there told. record { in_bucket = there; told = told })) (omega arith)
