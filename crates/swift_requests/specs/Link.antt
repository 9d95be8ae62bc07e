-- What one exchange of messages with a store does to its history. The history's calls are the exchanges. Source: this profile.
use Rattle.std.specs.Prelude.{◌≡◌, ◌⊎◌, ℕ, ◌+◌, IsTrue, IsErrOf, List, Result, Ok, Err}
use Rattle.gate_base.specs.Causes.{Rose}
use Rattle.swift_calls.specs.Step.{Fit, swift_step}
use Rattle.swift_calls.specs.History.{History, Extends, Either}
use Rattle.swift_calls.specs.declared.calls.SwiftRequest.{SwiftRequest}
use Rattle.swift_replies.specs.Answers.{SpellsAnswer}
use Rattle.swift_requests.specs.Calls.{SpellsRequest}
use Rattle.swift_requests.specs.declared.place.Place.{Place}
use Rattle.swift_requests.specs.declared.link.LinkFault.{LinkFault}
use Rattle.swift_requests.specs.declared.link.LinkFault.TheVariants.{Failed, Memory}

-- how an exchange is counted: by one. Where memory runs out it may not be
abbrev pub CountsExchange : ℕ → ℕ → Result (Unit {0}) LinkFault → Type 0
CountsExchange p q (Ok answered) = q ≡ p + 1
CountsExchange p q (Err Failed) = q ≡ p + 1
CountsExchange p q (Err Memory) = (q ≡ p + 1) ⊎ (q ≡ p)

-- the count of faults rises exactly where an exchange failed
abbrev pub CountsLinkFaults : ℕ → ℕ → Result (Unit {0}) LinkFault → Type 0
CountsLinkFaults before now (Ok answered) = now ≡ before
CountsLinkFaults before now (Err Failed) = Rose before now
CountsLinkFaults before now (Err Memory) = now ≡ before

-- the call took its effect, and the bytes are a spelling of its answer
pub record Answered (h : History) (p q : ℕ) (call : SwiftRequest) (reply : List ℕ) : Type 0 where
  pub next : q ≡ p + 1
  pub spells : SpellsAnswer call (swift_step call (h.account_at p)).reply reply
  pub tree : h.account_at q ≡ (swift_step call (h.account_at p)).tree
  pub quiet : h.faults_at q ≡ h.faults_at p

-- the exchange of a request that spells the call
abbrev pub Exchanged : History → ℕ → ℕ → SwiftRequest → List ℕ → Result (Unit {0}) LinkFault → Type 0
Exchanged h p q call reply (Ok answered) = Answered h p q call reply
Exchanged h p q call reply (Err Failed) = Either h p q call × Rose (h.faults_at p) (h.faults_at q)
Exchanged h p q call reply (Err Memory) = (Either h p q call × (h.faults_at q ≡ h.faults_at p)) ⊎ (q ≡ p)

-- one exchange with the store at a place: how it is counted, and where the link is observable, what the exchange of each
-- request that spells a call came to
pub record Exchanges (place : Place) (old : History) (request reply : List ℕ) (result : Result (Unit {0}) LinkFault) (new : History) : Type 0 where
  pub counts : CountsExchange old.called new.called result
  pub faults : CountsLinkFaults old.faults new.faults result
  pub observable : IsTrue old.observable → IsTrue new.observable
  pub told : IsTrue new.observable → IsTrue old.observable
  pub sure : IsTrue old.sure → IsTrue new.sure
  pub never : IsTrue old.sure → IsErrOf result Failed → ⊥
  pub kept : IsTrue old.observable → Extends old.called old new
  pub effect : IsTrue old.observable → (call : SwiftRequest) → Fit call → SpellsRequest place call request
      → Exchanged new old.called new.called call reply result
