-- What a link tells that wrote down what each exchange found, and whether it was lost. E is an entry of its log, and T what
-- an exchange finds. Source: this profile.
use Rattle.std.specs.Prelude.{◌≡◌, ℕ, zero, suc, Bool, ◌&&◌, List, [], ◌∷◌, length, take, count_by, IsTrue, Result, OnOk, IsErrOf}
use Rattle.gate_base.specs.Causes.{Rose}
use Rattle.swift_calls.specs.Account.{SwiftAccount}
use Rattle.swift_calls.specs.History.{History, present}
use Rattle.swift_calls.specs.Outcomes.{loses_none, outcome_of}
use Rattle.swift_calls.specs.Step.{Fit, swift_step}
use Rattle.swift_calls.specs.declared.calls.SwiftRequest.{SwiftRequest}
use Rattle.swift_calls.specs.declared.outcome.Outcome.{Outcome}
use Rattle.swift_calls.specs.declared.outcome.Outcome.TheVariants.{Answered, LostBefore, LostAfter}
use Rattle.swift_requests.specs.Calls.{SpellsRequest}
use Rattle.swift_requests.specs.declared.link.LinkFault.{LinkFault}
use Rattle.swift_requests.specs.declared.link.LinkFault.TheVariants.{Failed}
use Rattle.swift_requests.specs.declared.place.Place.{Place}
use Rattle.swift_store.specs.Shelf.{ShelfModel}

-- a history at its beginning: no call was counted, none failed, it is observable and sure as is said, and the account is this
-- one
pub record IsFresh (told unfailing : Bool) (held : SwiftAccount) (h : History) : Type 0 where
  pub called : h.called ≡ 0
  pub faults : h.faults ≡ 0
  pub observable : h.observable ≡ told
  pub sure : h.sure ≡ unfailing
  pub account : present h ≡ held

-- what stood after so many of the exchanges: what the next one found, or what is there now
abbrev pub state_at : {E T : Type 0} → (E → T) → List E → T → ℕ → T
state_at was [] now k = now
state_at was (e ∷ log) now zero = was e
state_at was (e ∷ log) now (suc k) = state_at was log now k

-- how many of the first exchanges were lost
abbrev pub lost_after : {E : Type 0} → (E → Bool) → List E → ℕ → ℕ
lost_after lost log k = count_by lost (take k log)

-- that no exchange fails: the store never does, and both lists of the messages that are lost are empty
abbrev pub is_sure_by : Bool → List ℕ → List ℕ → Bool
is_sure_by sure before after = sure && loses_none before after 0

-- the history of a link whose exchanges these are
abbrev pub history_by : {E T : Type 0} → (T → Bool) → (T → SwiftAccount) → (E → T) → (E → Bool) → Bool → List E → T → History
history_by told account was lost sure log now = record {
  observable = told now;
  sure = sure;
  called = length log;
  faults = count_by lost log;
  account_at = λ k. account (state_at was log now k);
  faults_at = λ k. lost_after lost log k;
}

-- ---- which exchanges fail

-- the numbers of the exchanges that lose their request, and of those that lose their answer
pub record Losses : Type 0 where
  pub before : List ℕ
  pub after : List ℕ

-- how the exchange of a number goes
abbrev pub planned : Losses → ℕ → Outcome
planned losses number = outcome_of losses.before losses.after 0 number

-- an exchange went as was planned: it was answered only where no message was to be lost; it failed where none was to be only
-- with a higher count of faults of the shelf; and a request that was to be lost left the shelf as it was
pub record GoesAs (outcome : Outcome) (result : Result (Unit {0}) LinkFault) (old new : ShelfModel) : Type 0 where
  pub answered : OnOk result (outcome ≡ Answered)
  pub failed : IsErrOf result Failed → outcome ≡ Answered → Rose old.faults new.faults
  pub unsent : outcome ≡ LostBefore → new ≡ old

-- a request was served: the account is the one before it after the step of the call that the request spells
abbrev pub Serves : Place → List ℕ → SwiftAccount → SwiftAccount → Type 0
Serves place request old new = (call : SwiftRequest) → Fit call → SpellsRequest place call request → new ≡ (swift_step call old).tree

-- a request whose answer was to be lost was served, where the shelf is observable and its count of faults didn't rise
abbrev pub IsServedUntold : Place → List ℕ → Outcome → Result (Unit {0}) LinkFault → ShelfModel → ShelfModel → Type 0
IsServedUntold place request outcome result old new =
    outcome ≡ LostAfter → IsErrOf result Failed → IsTrue old.observable → (Rose old.faults new.faults → ⊥) → Serves place request old.account new.account
