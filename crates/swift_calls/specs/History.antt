-- The history of a store: how many calls it counted, and the account and the count of faults after each of them, as
-- functions of the number of calls. What is said of some of the calls takes the history first, and then the numbers p
-- and q of calls before and after. Source: this profile.
use Rattle.std.specs.Prelude.{◌≡◌, ◌⊎◌, ℕ, ◌+◌, ◌<◌, ◌≤◌, ◌^◌, Bool, IsTrue, IsErrOf, Result, Ok, Err}
use Rattle.gate_base.specs.Causes.{Rose}
use Rattle.swift_calls.specs.Account.{SwiftAccount}
use Rattle.swift_calls.specs.Step.{swift_step}
use Rattle.swift_calls.specs.declared.calls.SwiftRequest.{SwiftRequest}
use Rattle.swift_calls.specs.declared.calls.SwiftReply.{SwiftReply}
use Rattle.swift_calls.specs.declared.calls.SwiftFault.{SwiftFault}
use Rattle.swift_calls.specs.declared.calls.SwiftFault.TheVariants.{Failed, Memory}

-- how many calls a store takes
abbrev pub budget : ℕ
budget = 2 ^ 63

-- what a store counts, and where it tells its contents, the account and the count of faults after each number of calls,
-- up to the number called. Where it is observable and `sure`, no call fails while calls are left
pub record History : Type 0 where
  pub observable : Bool
  pub sure : Bool
  pub called : ℕ
  pub faults : ℕ
  pub account_at : ℕ → SwiftAccount
  pub faults_at : ℕ → ℕ

-- the account as it is
abbrev pub present : History → SwiftAccount
present h = h.account_at h.called

-- how a call is counted: by one. With no call left it fails and is not counted; where memory runs out it may not be
abbrev pub Counts : ℕ → ℕ → Result SwiftReply SwiftFault → Type 0
Counts p q (Ok reply) = (p < budget) × (q ≡ p + 1)
Counts p q (Err Failed) = ((p < budget) × (q ≡ p + 1)) ⊎ ((budget ≤ p) × (q ≡ p))
Counts p q (Err Memory) = ((p < budget) × (q ≡ p + 1)) ⊎ (q ≡ p)

-- the count of faults rises exactly where a call failed
abbrev pub CountsFaults : ℕ → ℕ → Result SwiftReply SwiftFault → Type 0
CountsFaults before now (Ok reply) = now ≡ before
CountsFaults before now (Err Failed) = Rose before now
CountsFaults before now (Err Memory) = now ≡ before

-- up to the number c the history stays as it was told
pub record Extends (c : ℕ) (old new : History) : Type 0 where
  pub accounts : (k : ℕ) → k ≤ c → new.account_at k ≡ old.account_at k
  pub counts : (k : ℕ) → k ≤ c → new.faults_at k ≡ old.faults_at k

-- a call that was counted took no effect, or its whole effect
abbrev pub Either : History → ℕ → ℕ → SwiftRequest → Type 0
Either h p q request = (h.account_at q ≡ h.account_at p) ⊎ (h.account_at q ≡ (swift_step request (h.account_at p)).tree)

-- a call was answered
pub record Replied (h : History) (p q : ℕ) (request : SwiftRequest) (answered : SwiftReply) : Type 0 where
  pub next : q ≡ p + 1
  pub reply : answered ≡ (swift_step request (h.account_at p)).reply
  pub tree : h.account_at q ≡ (swift_step request (h.account_at p)).tree
  pub quiet : h.faults_at q ≡ h.faults_at p

-- a call, or its answer, was lost
pub record Lost (h : History) (p q : ℕ) (request : SwiftRequest) : Type 0 where
  pub next : q ≡ p + 1
  pub either : Either h p q request
  pub rose : Rose (h.faults_at p) (h.faults_at q)

-- the answer of a call that was made could not be read because memory ran out
pub record Unread (h : History) (p q : ℕ) (request : SwiftRequest) : Type 0 where
  pub next : q ≡ p + 1
  pub either : Either h p q request
  pub quiet : h.faults_at q ≡ h.faults_at p

-- what a call answered and what it did, told by the history
abbrev pub Called : History → ℕ → ℕ → SwiftRequest → Result SwiftReply SwiftFault → Type 0
Called h p q request (Ok reply) = Replied h p q request reply
Called h p q request (Err Failed) = Lost h p q request ⊎ ((budget ≤ p) × (q ≡ p))
Called h p q request (Err Memory) = Unread h p q request ⊎ (q ≡ p)

-- one call of a store: how it is counted, and where the store is observable, what it answered and what it did. A store that is
-- observable stays so, and one that isn't does too: what is told of a store now was told of it before
pub record Calls (old new : History) (request : SwiftRequest) (result : Result SwiftReply SwiftFault) : Type 0 where
  pub counts : Counts old.called new.called result
  pub faults : CountsFaults old.faults new.faults result
  pub observable : IsTrue old.observable → IsTrue new.observable
  pub told : IsTrue new.observable → IsTrue old.observable
  pub sure : IsTrue old.sure → IsTrue new.sure
  pub never : IsTrue old.observable → IsTrue old.sure → old.called < budget → IsErrOf result Failed → ⊥
  pub kept : IsTrue old.observable → Extends old.called old new
  pub effect : IsTrue old.observable → Called new old.called new.called request result

-- while calls are left, the count after the calls made is the count of faults itself; and from call to call it never falls
pub record IsHistory (h : History) : Type 0 where
  pub last : IsTrue h.observable → h.called < budget → h.faults_at h.called ≡ h.faults
  pub rise : IsTrue h.observable → (j k : ℕ) → j ≤ k → k ≤ h.called → h.faults_at j ≤ h.faults_at k

-- a call failed between p and q: the count of faults rose, or no call was left at p
abbrev pub FailedBetween : History → ℕ → ℕ → Type 0
FailedBetween h p q = Rose (h.faults_at p) (h.faults_at q) ⊎ (budget ≤ p)

-- no call failed between p and q
abbrev pub FaultFree : History → ℕ → ℕ → Type 0
FaultFree h p q = (j k : ℕ) → p ≤ j → j ≤ k → k ≤ q → FailedBetween h j k → ⊥
