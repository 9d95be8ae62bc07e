-- Calls one after the other, with bounds by the account.
use Rattle.std.specs.Prelude.{◌≡◌, ◌≤◌, ◌+◌, ◌-◌, ℕ, Result, Ok}
use Rattle.std.proofs.Common.{arith}
use Rattle.swift_calls.specs.Account.{SwiftAccount}
use Rattle.swift_calls.specs.History.{History, present}
use Rattle.upload_records.specs.Native.{s3_state}
use Rattle.upload_records.specs.Consistent.{IsConsistent}
use Rattle.account_calls.specs.declared.fault.PlanFault.{PlanFault}
use Rattle.account_calls.specs.Calls.{Bound, always, by_account, Met, Asks}
use Rattle.account_calls.proofs.lemmas.Quiet.{asks_then, state_here, told_here}
use Rattle.leftovers.proofs.lemmas.Readings.{asks_account}

pub asks_counted : {T : Type 0} {most : Bound} {a b : History} {given : SwiftAccount → Type 0} {P : SwiftAccount → SwiftAccount → T → Type 0} {result : Result T PlanFault} → Asks most a b given P result → Asks (always (b.called - a.called)) a b given P result
asks_counted asks = record {
  grows = record { on = asks.grows.on; calls = let order = asks.grows.on.ordered in omega (arith, order) };
  cause = asks.cause;
  effect = asks.effect;
  settled = asks.settled;
}

pub asks_then_by : {T U : Type 0} {n m most : ℕ} {a b c : History} {given rest : SwiftAccount → Type 0} {P : SwiftAccount → SwiftAccount → T → Type 0} {Q R : SwiftAccount → SwiftAccount → U → Type 0} {x : T} {result : Result U PlanFault}
    → Asks (by_account n) a b given P (Ok x) → Asks (by_account m) b c rest Q result
    → ((old new : SwiftAccount) → IsConsistent old → s3_state new ≡ s3_state old → given old → P old new x → rest new)
    → ((old new last : SwiftAccount) (y : U) → IsConsistent old → given old → P old new x → Q new last y → R old last y)
    → (Met given a → P (present a) (present b) x → n + m ≤ most)
    → Asks (by_account most) a c given R result
asks_then_by {a = a} {b = b} {c = c} first then gives tells within =
    asks_account {n = (b.called - a.called) + (c.called - b.called)} (λ met.
    let told = told_here first met in
    let order = first.grows.on.ordered in
    let more = then.grows.on.ordered in
    let near = first.grows.calls met in
    let far = then.grows.calls (record {
      observable = first.grows.on.observable met.observable;
      sound = (first.effect met).0.sound b.called order (omega arith);
      has = gives (present a) (present b) met.sound (state_here first met) met.has told;
    }) in
    let few = within met told in
    omega (arith, order, more, near, far, few))
    (asks_then {n = b.called - a.called} {m = c.called - b.called} (omega arith) (asks_counted first) (asks_counted then) gives tells)
