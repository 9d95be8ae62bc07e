-- Calls that leave the account, one stretch after the other, with bounds by the account.
use Rattle.std.specs.Prelude.{◌≡◌, ◌≤◌, ◌+◌, ℕ, Result, Ok, Err}
use Rattle.std.specs.Result.{IsErrAnd}
use Rattle.std.proofs.Common.{refl, sym, subst, ◌∙◌, arith}
use Rattle.swift_calls.specs.Account.{SwiftAccount}
use Rattle.swift_calls.specs.History.{History, present}
use Rattle.upload_records.specs.Consistent.{IsConsistent}
use Rattle.account_calls.specs.declared.fault.PlanFault.{PlanFault}
use Rattle.account_calls.specs.Calls.{by_account, Asks, Met}
use Rattle.account_calls.specs.Listing.{TellsOf}
use Rattle.account_calls.proofs.lemmas.Ask.{asks_fault, asks_told}
use Rattle.leftovers.proofs.lemmas.Joined.{asks_then_by}

-- a wider bound, and more that is given
pub asks_wider : {T : Type 0} {n most : ℕ} {a b : History} {given given' : SwiftAccount → Type 0} {P : SwiftAccount → SwiftAccount → T → Type 0} {result : Result T PlanFault}
    → ((tree : SwiftAccount) → given' tree → given tree) → n ≤ most → Asks (by_account n) a b given P result → Asks (by_account most) a b given' P result
asks_wider {a = a} {given = given} {given' = given'} gives within asks = record {
  grows = record { on = asks.grows.on; calls = λ met. let near = asks.grows.calls (as_met met) in omega (arith, near, within) };
  cause = asks.cause;
  effect = λ met. asks.effect (as_met met);
  settled = asks.settled;
}
  where
    as_met : Met given' a → Met given a
    as_met met = record { observable = met.observable; sound = met.sound; has = gives _ met.has }

-- the first stretch wasn't answered
pub first_fault : {T U : Type 0} {n most : ℕ} {a b : History} {given given' : SwiftAccount → Type 0} {P : SwiftAccount → T → Type 0} {Q : SwiftAccount → U → Type 0} {f : PlanFault}
    → ((tree : SwiftAccount) → given' tree → given tree) → n ≤ most → Asks (by_account n) a b given (TellsOf P) (Err f)
    → (result : Result U PlanFault) → IsErrAnd result (λ e. e ≡ f) → Asks (by_account most) a b given' (TellsOf Q) result
first_fault gives within asks result is = asks_wider gives within (asks_fault (λ tree has. has) asks result is)

module _ {T : Type 0} {n most : ℕ} {a b c : History} {given rest : SwiftAccount → Type 0} {P : SwiftAccount → T → Type 0} {x : T} (first : Asks (by_account n) a b given (TellsOf P) (Ok x))
    (gives : (tree : SwiftAccount) → IsConsistent tree → given tree → P tree x → rest tree) {m : ℕ} (within : Met given a → P (present a) x → present b ≡ present a → n + m ≤ most) where
  pub reads_then_by : {U : Type 0} {Q R : SwiftAccount → U → Type 0} {result : Result U PlanFault} → Asks (by_account m) b c rest (TellsOf Q) result
      → ((tree : SwiftAccount) (y : U) → IsConsistent tree → given tree → P tree x → Q tree y → R tree y) → Asks (by_account most) a c given (TellsOf R) result
  reads_then_by {Q = Q} then tells =
      asks_then_by first then (λ old new sound alike has told. subst rest (sym told.same) (gives old sound has told.of_account))
      (λ old new last y sound has told next. record { of_account = tells old y sound has told.of_account (subst (λ tree. Q tree y) told.same next.of_account); same = next.same ∙ told.same })
      (λ met told. within met told.of_account told.same)

  -- what the second told makes another thing
  pub reads_then_told : {U V : Type 0} {Q : SwiftAccount → U → Type 0} {R : SwiftAccount → V → Type 0} {y : U} (z : V) → Asks (by_account m) b c rest (TellsOf Q) (Ok y)
      → ((tree : SwiftAccount) → IsConsistent tree → given tree → P tree x → Q tree y → R tree z) → Asks (by_account most) a c given (TellsOf R) (Ok z)
  reads_then_told {Q = Q} {R = R} {y = y} z then tells =
      reads_then_by (asks_told {given' = rest} {Q = λ tree w. Q tree y × (w ≡ z)} (λ tree has. has) z (λ tree sound has told. (told, refl)) then)
      (λ tree w sound has p q. subst (R tree) (sym q.1) (tells tree sound has p q.0))

  -- the second wasn't answered
  pub reads_then_fault : {U V : Type 0} {Q : SwiftAccount → U → Type 0} {R : SwiftAccount → V → Type 0} {f : PlanFault} → Asks (by_account m) b c rest (TellsOf Q) (Err f)
      → (result : Result V PlanFault) → IsErrAnd result (λ e. e ≡ f) → Asks (by_account most) a c given (TellsOf R) result
  reads_then_fault then result is =
      reads_then_by (asks_fault {given' = rest} {Q = λ tree y. ⊥} (λ tree has. has) then result is) (λ tree y sound has p never. absurd never)
