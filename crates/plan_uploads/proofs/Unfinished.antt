-- By which fault the calls of a completion broke off from the one that seals it on.
use Rattle.std.specs.Prelude.{◌≡◌, ◌+◌, ℕ, true, Some, Result, Ok, Err}
use Rattle.std.specs.Result.{IsErrAnd}
use Rattle.std.proofs.Common.{refl, sym, subst, ◌∙◌}
use Rattle.gate_base.specs.Causes.{Rose}
use Rattle.s3_machine.specs.declared.operation.Reply.{Reply}
use Rattle.swift_calls.specs.History.{History}
use Rattle.upload_texts.specs.declared.sealed.Sealed.{Sealed}
use Rattle.upload_records.specs.Native.{IsSettled, sealed_sub_manifests}
use Rattle.account_calls.specs.Answers.{may_be_sealed}
use Rattle.account_calls.specs.Calls.{always, Asks}
use Rattle.account_calls.specs.Fault.{CausesFault}
use Rattle.account_calls.specs.Plan.{reply_of}
use Rattle.account_calls.specs.declared.fault.PlanFault.{PlanFault}
use Rattle.account_calls.specs.declared.fault.PlanFault.TheVariants.{Failed, Memory, Inconsistent}
use Rattle.account_calls.specs.declared.state.Known.TheVariants.{Settled, Unsure}
use Rattle.recovery.specs.Rolls.{IsSealed, Leaves}
use Rattle.plan_uploads.specs.Completing.{BreaksOff, BrokeOff, Seals, answered_by, end_complete_upload_sealed, end_in, unfinished_in}
use Rattle.plan_uploads.specs.declared.complete.Completing.{Completing}

no_doubt : {P : Type 0} → Settled ≡ Unsure → P
no_doubt is = absurd (let no : Settled ≡ Unsure = is in cc)

-- ---- before the call that seals

-- a fault is handed on
pub not_begun : {a b : History} (fault : PlanFault) (result : Result Completing PlanFault) → IsErrAnd result (λ e. e ≡ fault) → BreaksOff a b result
not_begun fault (Ok completing) is = absurd is
not_begun fault (Err f) is = record { only = λ unsure. no_doubt unsure; by = tt }

-- it is refused, or was done before
pub not_needed : {a b : History} (reply : Reply) (completing : Completing) → completing ≡ answered_by reply → BreaksOff a b (Ok completing)
not_needed {a = a} {b = b} reply completing is = subst (λ (x : Completing). BreaksOff a b (Ok x)) (sym is) (record { only = λ unsure. no_doubt unsure; by = tt })

-- calls of which none failed came before
pub broke_behind : {a b c : History} {result : Result Completing PlanFault} → b.faults ≡ a.faults → BreaksOff b c result → BreaksOff a c result
broke_behind {c = c} {result = result} same broke = record {
  only = broke.only;
  by = subst (λ n. BrokeOff (unfinished_in result) n c.faults (reply_of (end_in result))) same broke.by;
}

-- ---- from it on

broke_by : (before now : ℕ) (fault : PlanFault) → CausesFault {T = Unit {0}} before now (Err fault) → BrokeOff (Some fault) before now (reply_of (Err fault))
broke_by before now Failed cause = cause
broke_by before now Memory cause = cause
broke_by before now Inconsistent cause = (cause, refl)

fault_may : (fault : PlanFault) → may_be_sealed (reply_of (Err fault)) ≡ true
fault_may Failed = refl
fault_may Memory = refl
fault_may Inconsistent = refl

-- it was not answered
pub seal_broke : {a b : History} (fault : PlanFault) → CausesFault {T = Unit {0}} a.faults b.faults (Err fault) → BreaksOff a b (Ok (record { end = Err fault; unfinished = Some fault }))
seal_broke {a = a} {b = b} fault cause = record { only = λ unsure. fault_may fault; by = broke_by a.faults b.faults fault cause }

broke_then : (before middle now : ℕ) (finished : Result (Unit {0}) PlanFault) (reply : Reply) → middle ≡ before → CausesFault middle now finished
    → BrokeOff (end_complete_upload_sealed finished reply).unfinished before now (reply_of (end_complete_upload_sealed finished reply).end)
broke_then before middle now (Ok done) reply same cause = tt
broke_then before middle now (Err Failed) reply same cause = subst (λ n. Rose n now) same cause
broke_then before middle now (Err Memory) reply same cause = cause ∙ same
broke_then before middle now (Err Inconsistent) reply same cause = (cause ∙ same, refl)

sealed_may : (finished : Result (Unit {0}) PlanFault) (reply : Reply) → may_be_sealed reply ≡ true → may_be_sealed (reply_of (end_complete_upload_sealed finished reply).end) ≡ true
sealed_may (Ok done) reply made = made
sealed_may (Err Failed) reply made = made
sealed_may (Err Memory) reply made = made
sealed_may (Err Inconsistent) reply made = refl

-- it was, and these calls came behind it
pub rolling_broke : {s : Sealed} {a b c : History} {finished : Result (Unit {0}) PlanFault} (completing : Completing) (reply : Reply) → completing ≡ end_complete_upload_sealed finished reply → may_be_sealed reply ≡ true
    → Seals a b s (Ok tt) → Asks (always (3 + sealed_sub_manifests s)) b c (IsSealed s) (Leaves IsSettled) finished → BreaksOff a c (Ok completing)
rolling_broke {a = a} {b = b} {c = c} {finished = finished} completing reply is made seals asks =
    subst (λ (x : Completing). BreaksOff a c (Ok x)) (sym is) (record {
      only = λ unsure. sealed_may finished reply made;
      by = broke_then a.faults b.faults c.faults finished reply seals.cause asks.cause;
    })
