-- A copy that asks what stands under its key: where that refuses it, it ends.
use Rattle.std.specs.Prelude.{◌≤◌, ℕ, ◌+◌, List, None, Result, Ok}
use Rattle.std.proofs.Common.{sym, subst, inl, inr, arith}
use Rattle.s3_names.specs.declared.acl.Acl.{Acl}
use Rattle.s3_machine.specs.declared.code.Code.{Code}
use Rattle.s3_machine.specs.declared.operation.ObjectHead.{ObjectHead}
use Rattle.upload_records.specs.Native.{s3_state}
use Rattle.many_keys.specs.Copies.{IsFoundSource}
use Rattle.s3_machine.specs.declared.only_if.OnlyIf.{OnlyIf}
use Rattle.s3_machine.specs.declared.operation.Reply.TheVariants.{Refused}
use Rattle.swift_calls.specs.Account.{SwiftAccount}
use Rattle.swift_calls.specs.History.{History}
use Rattle.account_calls.specs.declared.fault.PlanFault.{PlanFault}
use Rattle.account_calls.specs.Answers.{condition_calls}
use Rattle.account_calls.specs.Calls.{Asks, always}
use Rattle.account_calls.specs.Condition.{IsOfCondition, TellsRefusal}
use Rattle.account_calls.specs.Plan.{IsOwnReply}
use Rattle.account_calls.specs.Refusals.{Stops}
use Rattle.account_calls.specs.Shows.{with_source}

-- the source was found, and the condition on the copy's own key is met
abbrev pub FoundIn : List ℕ → Acl → List ℕ → List ℕ → ObjectHead → SwiftAccount → Type 0
FoundIn bucket list from_bucket from_key head tree = IsFoundSource bucket list from_bucket from_key head (s3_state tree)

abbrev pub Allowed : List ℕ → List ℕ → Acl → List ℕ → List ℕ → ObjectHead → OnlyIf → SwiftAccount → Type 0
Allowed bucket key list from_bucket from_key head only_if tree = FoundIn bucket list from_bucket from_key head tree × TellsRefusal bucket key only_if (s3_state tree) None

pub own_refusal : (code : Code) → IsOfCondition code → IsOwnReply (Refused code)
own_refusal code (inl is) = record { showable = tt; no_memory = λ e. cc; no_failure = λ e. cc; no_inconsistency = λ e. cc }
own_refusal code (inr is) = record { showable = tt; no_memory = λ e. cc; no_failure = λ e. cc; no_inconsistency = λ e. cc }

pub refused_stops : {T : Type 0} (only_if : OnlyIf) {asked : SwiftAccount → Type 0} {P : SwiftAccount → SwiftAccount → T → Type 0} {value : Result T PlanFault} {a b : History}
    → Asks (always (condition_calls only_if)) a b asked P value → (code : Code) → IsOfCondition code → Stops (with_source (condition_calls only_if)) 3 a b (Ok (Refused code))
refused_stops only_if {a = a} {b = b} asks code (inl is) =
    let near : b.called ≤ a.called + condition_calls only_if = asks.grows.calls in
    subst (λ c. Stops (with_source (condition_calls only_if)) 3 a b (Ok (Refused c))) (sym is) (record { so = omega arith })
refused_stops only_if {a = a} {b = b} asks code (inr is) =
    let near : b.called ≤ a.called + condition_calls only_if = asks.grows.calls in
    subst (λ c. Stops (with_source (condition_calls only_if)) 3 a b (Ok (Refused c))) (sym is) (record { so = omega arith })
