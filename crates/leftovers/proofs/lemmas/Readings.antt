-- Calls that leave the account: what they tell of it, and how many there are.
use Rattle.std.specs.Prelude.{◌≤◌, ℕ, Result, Ok}
use Rattle.std.proofs.Common.{refl, arith}
use Rattle.swift_calls.specs.Account.{SwiftAccount}
use Rattle.swift_calls.specs.History.{History}
use Rattle.upload_records.specs.Consistent.{IsConsistent}
use Rattle.account_calls.specs.declared.fault.PlanFault.{PlanFault}
use Rattle.account_calls.specs.Calls.{Bound, always, by_account, Met, Asks}
use Rattle.account_calls.specs.Listing.{TellsOf}
use Rattle.account_calls.proofs.lemmas.Idle.{grows_none, none_made}

-- a bound by the account
pub asks_account : {T : Type 0} {n most : ℕ} {a b : History} {given : SwiftAccount → Type 0} {P : SwiftAccount → SwiftAccount → T → Type 0} {result : Result T PlanFault}
    → (Met given a → n ≤ most) → Asks (always n) a b given P result → Asks (by_account most) a b given P result
asks_account within asks = record {
  grows = record { on = asks.grows.on; calls = λ met. let near = asks.grows.calls in let few = within met in omega (arith, near, few) };
  cause = asks.cause;
  effect = asks.effect;
  settled = asks.settled;
}

-- what is told without a call
pub asks_idle : {T : Type 0} {given : SwiftAccount → Type 0} {P : SwiftAccount → T → Type 0} (most : Bound) (h : History) (x : T) → ((tree : SwiftAccount) → IsConsistent tree → given tree → P tree x)
    → Asks most h h given (TellsOf P) (Ok x)
asks_idle {given = given} most h x tells = record {
  grows = grows_none most given h;
  cause = refl;
  effect = λ met. (none_made refl met.sound, refl, record { of_account = tells _ met.sound met.has; same = refl });
  settled = λ observable settled. settled;
}

-- more is given than the calls ask, of a consistent account
pub asks_given : {T : Type 0} {n : ℕ} {a b : History} {given given' : SwiftAccount → Type 0} {P : SwiftAccount → SwiftAccount → T → Type 0} {result : Result T PlanFault}
    → ((tree : SwiftAccount) → IsConsistent tree → given' tree → given tree) → Asks (always n) a b given P result → Asks (always n) a b given' P result
asks_given gives asks = record {
  grows = record { on = asks.grows.on; calls = asks.grows.calls };
  cause = asks.cause;
  effect = λ met. asks.effect (record { observable = met.observable; sound = met.sound; has = gives _ met.sound met.has });
  settled = asks.settled;
}
