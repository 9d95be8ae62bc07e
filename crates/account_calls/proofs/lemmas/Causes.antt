-- An answer that is expected has no fault of the store.
use Rattle.std.specs.Prelude.{◌≡◌, ℕ, Result, Ok, Err}
use Rattle.std.proofs.Common.{refl}
use Rattle.account_calls.specs.declared.fault.PlanFault.{PlanFault}
use Rattle.account_calls.specs.declared.fault.PlanFault.TheVariants.{Failed, Memory, Inconsistent}
use Rattle.account_calls.specs.Fault.{CausesFault}

-- the result is no failure of the store
abbrev pub IsNoFailure : {T : Type 0} → Result T PlanFault → Type 0
IsNoFailure result = (result ≡ Err Failed) → ⊥

pub due_cause : {T : Type 0} (before now : ℕ) (result : Result T PlanFault) → now ≡ before → IsNoFailure result → CausesFault before now result
due_cause before now (Ok x) same own = same
due_cause before now (Err Failed) same own = absurd (own refl)
due_cause before now (Err Memory) same own = same
due_cause before now (Err Inconsistent) same own = same
