-- The faults of a sweep that forgets, as those of a plan.
use Rattle.std.specs.Prelude.{◌≡◌, ◌⊎◌, ℕ, List, Result, Err}
use Rattle.std.specs.Result.{IsErrAnd}
use Rattle.std.proofs.Common.{refl, sym, ap, subst, inl, inr}
use Rattle.swift_calls.specs.Account.{SwiftAccount}
use Rattle.swift_calls.specs.History.{History}
use Rattle.account_calls.specs.declared.fault.PlanFault.{PlanFault}
use Rattle.account_calls.specs.declared.fault.PlanFault.TheVariants as fault
use Rattle.leftovers.specs.declared.fault.SweepFault.{SweepFault}
use Rattle.leftovers.specs.declared.fault.SweepFault.TheVariants as why
use Rattle.sweep.specs.Aging.{Forgetting}
use Rattle.leftovers.specs.Faults.{as_plan, plan_of, IsFaultAt}
use Rattle.leftovers.proofs.lemmas.Faults.{plan_err}
use Rattle.sweep.proofs.ForgetCalls.{Pairs, forgetting_no_memory}

-- a fault is the plan's, or memory ran out where the file was to be named
abbrev pub ComesOf : PlanFault → SweepFault → Type 0
ComesOf of_plan told = (plan_of told ≡ of_plan) ⊎ ((of_plan ≡ fault.Inconsistent) × (told ≡ why.Memory))

pub comes_of : (container name : List ℕ) (f : PlanFault) (told : SweepFault) → IsFaultAt container name f told → ComesOf f told
comes_of container name fault.Failed told is = inl (ap plan_of is)
comes_of container name fault.Memory told is = inl (ap plan_of is)
comes_of container name fault.Inconsistent told (inl is) = inr (refl, is)
comes_of container name fault.Inconsistent told (inr is) = inl (ap plan_of is)

module _ {T : Type 0} {a b : History} {given : SwiftAccount → Type 0} {olds : SwiftAccount → Pairs} {P : SwiftAccount → SwiftAccount → T → Type 0} where
  -- where a store was inconsistent and memory ran out, both leave the account as it was found
  memory_for : Forgetting a b given olds P (Err fault.Inconsistent) → Forgetting a b given olds P (Err fault.Memory)
  memory_for forgets = record { on = forgets.on; cause = forgets.cause; effect = λ met. absurd (forgets.effect met); settled = forgets.settled }

  -- a fault that comes of the plan's says as much
  pub forgetting_at : (f : PlanFault) (told : SweepFault) → ComesOf f told → Forgetting a b given olds P (Err f) → Forgetting a b given olds P (Err (plan_of told))
  forgetting_at f told comes forgets = elim comes [
    | inl same ↦ subst (λ x. Forgetting a b given olds P (Err x)) (sym same) forgets
    | inr spent ↦ subst (λ x. Forgetting a b given olds P (Err (plan_of x))) (sym spent.1) (memory_for (subst (λ x. Forgetting a b given olds P (Err x)) spent.0 forgets))
  ]

  pub forgetting_handed : (f : SweepFault) → Forgetting a b given olds P (Err (plan_of f)) → (result : Result T SweepFault) → IsErrAnd result (λ e. e ≡ f) → Forgetting a b given olds P (as_plan result)
  forgetting_handed f forgets result gives = subst (Forgetting a b given olds P) (sym (plan_err result f gives)) forgets

-- memory ran out before a call
pub sweep_no_memory : {T : Type 0} {given : SwiftAccount → Type 0} {olds : SwiftAccount → Pairs} {P : SwiftAccount → SwiftAccount → T → Type 0} (h : History) (result : Result T SweepFault) → IsErrAnd result (λ e. e ≡ why.Memory) → Forgetting h h given olds P (as_plan result)
sweep_no_memory h result gives = forgetting_handed why.Memory (forgetting_no_memory h (Err fault.Memory) refl) result gives
