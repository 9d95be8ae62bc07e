-- The calls that put sub-manifests, one after another; and how many calls settle a store.
use Rattle.std.specs.Prelude.{◌≡◌, ◌≤◌, ◌<◌, ◌+◌, ℕ, List, length, Option, Some, Result, Ok, Err}
use Rattle.std.specs.Result.{IsErrAnd}
use Rattle.std.proofs.Common.{refl, sym, ap, subst, ◌∙◌, arith}
use Rattle.swift_calls.specs.Account.{SwiftAccount}
use Rattle.swift_calls.specs.History.{History, present}
use Rattle.slo_manifest.specs.declared.Segment.{Segment}
use Rattle.upload_texts.specs.declared.sealed.Sealed.{Sealed}
use Rattle.upload_records.specs.Native.{seal_of, sealed_segments, sealed_sub_manifests, sub_manifests, sub_manifests_of}
use Rattle.account_calls.specs.Calls.{always, by_account, Any, Asks}
use Rattle.account_calls.specs.declared.fault.PlanFault.{PlanFault}
use Rattle.account_calls.proofs.lemmas.Idle.{goes_none, none_made}
use Rattle.account_calls.proofs.lemmas.Quiet.{asks_failed, asks_then, told_here}
use Rattle.recovery.specs.Rolls.{HasGateway, HasSubs, IsCounted, IsSealed, Leaves, OpensGateway, TellsSealed}

-- no call was made
asks_none : (given : SwiftAccount → Type 0) (P : SwiftAccount → Type 0) (h : History) → ((tree : SwiftAccount) → given tree → P tree) → Asks (always 0) h h given (Leaves P) (Ok tt)
asks_none given P h gives = record {
  grows = record { on = goes_none h; calls = omega arith };
  cause = refl;
  effect = λ met. (none_made refl met.sound, refl, gives (present h) met.has);
  settled = λ observable settled. settled;
}

pub subs_none : (s : Sealed) (h : History) → Asks (always 0) h h (IsSealed s) (Leaves (HasSubs s 0)) (Ok tt)
subs_none s h = asks_none (IsSealed s) (HasSubs s 0) h (λ tree sealed. record { sealed = sealed; subs = λ n below. absurd (omega (arith, below)) })

-- how many are put
pub as_counted : (s : Sealed) (segments : List Segment) (k : ℕ) → k ≡ sub_manifests (length segments) → segments ≡ sealed_segments s → k ≡ sealed_sub_manifests s
as_counted s segments k counted are = counted ∙ ap (λ (l : List Segment). sub_manifests (length l)) are

module _ {s : Sealed} {n : ℕ} {a b c : History} where
  -- one more was put
  pub subs_next : Asks (always n) a b (IsSealed s) (Leaves (HasSubs s n)) (Ok tt) → Asks (always 1) b c (HasSubs s n) (Leaves (HasSubs s (n + 1))) (Ok tt)
      → Asks (always (n + 1)) a c (IsSealed s) (Leaves (HasSubs s (n + 1))) (Ok tt)
  subs_next before one = asks_then (omega arith) before one (λ old new sound same given left. left) (λ old new last done sound given left has. has)

  -- or not
  pub subs_failed : {f : PlanFault} → n < sealed_sub_manifests s → Asks (always n) a b (IsSealed s) (Leaves (HasSubs s n)) (Ok tt) → Asks (always 1) b c (HasSubs s n) (Leaves (HasSubs s (n + 1))) (Err f)
      → (result : Result (Unit {0}) PlanFault) → IsErrAnd result (λ e. e ≡ f) → Asks (always (sealed_sub_manifests s)) a c (IsSealed s) (Leaves (HasSubs s (sealed_sub_manifests s))) result
  subs_failed below before one result is =
      asks_then {m = 1} (omega (arith, below)) before (asks_failed (omega arith) one result is) (λ old new sound same given left. left) (λ old new last done sound given left has. has)

module _ {s : Sealed} {n : ℕ} {a b : History} where
  -- all were
  pub subs_all : n ≡ sealed_sub_manifests s → Asks (always n) a b (IsSealed s) (Leaves (HasSubs s n)) (Ok tt)
      → Asks (always (sealed_sub_manifests s)) a b (IsSealed s) (Leaves (HasSubs s (sealed_sub_manifests s))) (Ok tt)
  subs_all same asks = subst (λ k. Asks (always k) a b (IsSealed s) (Leaves (HasSubs s k)) (Ok tt)) same asks

-- ---- how many calls settle a store

module _ {T : Type 0} {a b : History} {given : SwiftAccount → Type 0} {P : SwiftAccount → SwiftAccount → T → Type 0} {result : Result T PlanFault} where
  pub counted_few : {n most : ℕ} → n ≤ most → Asks (always n) a b given P result → IsCounted most given a b
  counted_few few asks = let calls = asks.grows.calls in record { within = λ met. omega (arith, few, calls) }

  -- the bound by the account, where one over every store holds too
  pub asks_counted : {n most : ℕ} → Asks (always n) a b given P result → IsCounted most given a b → Asks (by_account (most + sub_manifests_of (seal_of (present a)))) a b given P result
  asks_counted asks counted = record { grows = record { on = asks.grows.on; calls = λ met. counted.within met }; cause = asks.cause; effect = asks.effect; settled = asks.settled }

-- what was told to be sealed has so many sub-manifests
pub counted_rolled : {U : Type 0} {a b c : History} {told : Option Sealed} {s : Sealed} {rest : SwiftAccount → Type 0} {Q : SwiftAccount → SwiftAccount → U → Type 0} {result : Result U PlanFault}
    → Asks (always 1) a b HasGateway TellsSealed (Ok told) → told ≡ Some s → Asks (always (3 + sealed_sub_manifests s)) b c rest Q result → IsCounted 4 HasGateway a c
counted_rolled {a = a} {s = s} first is then = record {
  within = λ met.
      let tells = told_here first met in
      let same : sub_manifests_of (seal_of (present a)) ≡ sealed_sub_manifests s = ap sub_manifests_of (sym tells.is ∙ is) in
      let near = first.grows.calls in
      let far = then.grows.calls in
      omega (arith, same, near, far);
}

-- the gateway's own container was made, and then the store settled
pub counted_made : {a b c : History} → Asks (always 1) a b Any OpensGateway (Ok tt) → IsCounted 4 HasGateway b c → IsCounted 5 Any a c
counted_made {a = a} {b = b} first counted = record {
  within = λ met.
      let opens = told_here first met in
      let keeps = first.effect met in
      let order = first.grows.on.ordered in
      let near = first.grows.calls in
      let far = counted.within (record { observable = first.grows.on.observable met.observable; sound = keeps.0.sound b.called order (omega arith); has = opens.there }) in
      let same : sub_manifests_of (seal_of (present b)) ≡ sub_manifests_of (seal_of (present a)) = ap sub_manifests_of opens.same in
      omega (arith, near, far, same);
}
