-- Calls that left the account, one after another, and how one call is counted. Source: this profile.
use Rattle.std.specs.Prelude.{◌≡◌, ◌≤◌, ◌⊎◌, ℕ, ◌+◌, IsTrue, Result, Ok, Err}
use Rattle.swift_calls.specs.Account.{SwiftAccount}
use Rattle.swift_calls.specs.History.{History, budget, present}
use Rattle.upload_records.specs.Native.{IsSettled}
use Rattle.account_calls.specs.declared.fault.PlanFault.{PlanFault}
use Rattle.account_calls.specs.declared.fault.PlanFault.TheVariants.{Failed, Memory, Inconsistent}
use Rattle.account_calls.specs.Calls.{GoesOn, Met}
use Rattle.account_calls.specs.Stutters.{Stutters}

-- calls that left the account, and none of which failed
pub record Idles (h : History) (p q : ℕ) : Type 0 where
  pub quiet : Stutters h p q
  pub still : h.faults_at q ≡ h.faults_at p
  pub same : h.account_at q ≡ h.account_at p

-- at most so many calls were made, which left the account and did not fail, and this holds of it
pub record Told (a b : History) (given R : SwiftAccount → Type 0) (count : ℕ) : Type 0 where
  pub on : GoesOn a b
  pub faults : b.faults ≡ a.faults
  pub settled : IsTrue a.observable → IsSettled (present a) → IsSettled (present b)
  pub calls : b.called ≤ a.called + count
  pub idles : Met given a → Idles b a.called b.called
  pub so : Met given a → R (present a)

-- how one call is counted, by what it came to: by one. Where it failed with no call left it isn't, and where memory ran out it may not be
abbrev pub CountsOne : {T : Type 0} → ℕ → ℕ → Result T PlanFault → Type 0
CountsOne p q (Ok told) = q ≡ p + 1
CountsOne p q (Err Failed) = (q ≡ p + 1) ⊎ ((budget ≤ p) × (q ≡ p))
CountsOne p q (Err Memory) = Unit {0}
CountsOne p q (Err Inconsistent) = q ≡ p + 1

-- where the store is observable, its account is as it was, whether that is consistent or not
abbrev pub LeavesAccount : History → History → Type 0
LeavesAccount old new = IsTrue old.observable → present new ≡ present old

-- where the store is observable, its account is as it was at each number of calls, whether that is consistent or not
abbrev pub LeavesThroughout : History → History → Type 0
LeavesThroughout old new = IsTrue old.observable → (k : ℕ) → old.called ≤ k → k ≤ new.called → new.account_at k ≡ present old
