-- The faults of a sweep or a survey, as those of a plan.
use Rattle.std.specs.Prelude.{◌≡◌, ℕ, List, Result, Ok, Err, IfErr}
use Rattle.std.specs.Result.{IsErrAnd}
use Rattle.std.proofs.Common.{refl, sym, ap, subst, inl, inr}
use Rattle.swift_calls.specs.Account.{SwiftAccount}
use Rattle.swift_calls.specs.History.{History}
use Rattle.account_calls.specs.declared.fault.PlanFault.{PlanFault}
use Rattle.account_calls.specs.declared.fault.PlanFault.TheVariants as plan
use Rattle.account_calls.specs.Calls.{Asks, Bound}
use Rattle.leftovers.specs.declared.fault.SweepFault.{SweepFault}
use Rattle.leftovers.specs.declared.fault.SweepFault.TheVariants as why
use Rattle.leftovers.specs.Faults.{as_plan, plan_of, IsFaultAt, NamesFile}

-- what `?` hands on
pub plan_err : {T : Type 0} (result : Result T SweepFault) (f : SweepFault) → IsErrAnd result (λ e. e ≡ f) → as_plan result ≡ Err (plan_of f)
plan_err (Ok told) f gives = absurd gives
plan_err (Err e) f gives = ap (λ (x : SweepFault). Err (plan_of x)) gives

pub plan_gives : {T : Type 0} (result : Result T SweepFault) (f : SweepFault) → IsErrAnd result (λ e. e ≡ f) → IsErrAnd (as_plan result) (λ e. e ≡ plan_of f)
plan_gives (Ok told) f gives = gives
plan_gives (Err e) f gives = ap plan_of gives

-- the fault of a plan is told as one that names where it was
pub fault_at : {T : Type 0} {most : Bound} {a b : History} {given : SwiftAccount → Type 0} {P : SwiftAccount → SwiftAccount → T → Type 0} (container name : List ℕ) (f : PlanFault) (e : SweepFault)
    → IsFaultAt container name f e → Asks most a b given P (Err f) → Asks most a b given P (Err (plan_of e))
fault_at {most = most} {a = a} {b = b} {given = given} {P = P} container name plan.Failed e is asks = subst (λ e. Asks most a b given P (Err (plan_of e))) (sym is) asks
fault_at {most = most} {a = a} {b = b} {given = given} {P = P} container name plan.Memory e is asks = subst (λ e. Asks most a b given P (Err (plan_of e))) (sym is) asks
fault_at {most = most} {a = a} {b = b} {given = given} {P = P} container name plan.Inconsistent e (inl is) asks =
    subst (λ e. Asks most a b given P (Err (plan_of e))) (sym is) (record { grows = asks.grows; cause = asks.cause; effect = λ met. absurd (asks.effect met); settled = asks.settled })
fault_at {most = most} {a = a} {b = b} {given = given} {P = P} container name plan.Inconsistent e (inr is) asks = subst (λ e. Asks most a b given P (Err (plan_of e))) (sym is) asks

-- and it names this file
pub names_file : (container name : List ℕ) (f : PlanFault) (e : SweepFault) → IsFaultAt container name f e → NamesFile container name e
names_file container name plan.Failed e is = subst (NamesFile container name) (sym is) tt
names_file container name plan.Memory e is = subst (NamesFile container name) (sym is) tt
names_file container name plan.Inconsistent e (inl is) = subst (NamesFile container name) (sym is) tt
names_file container name plan.Inconsistent e (inr is) = subst (NamesFile container name) (sym is) (refl, refl)

pub names_as : {container name folder object : List ℕ} → folder ≡ container → object ≡ name → (f : PlanFault) (e : SweepFault) → IsFaultAt folder object f e → NamesFile container name e
names_as {folder = folder} {object = object} foldered named f e is =
    subst {A = List ℕ × List ℕ} (λ x. NamesFile x.0 x.1 e) (λ i. (foldered i, named i)) (names_file folder object f e is)

-- where memory ran out it names none
pub names_none : {T : Type 0} (container name : List ℕ) (result : Result T SweepFault) → IsErrAnd result (λ e. e ≡ why.Memory) → IfErr result (NamesFile container name)
names_none container name (Ok told) gives = tt
names_none container name (Err e) gives = subst (NamesFile container name) (sym gives) tt
