-- What is made of what calls told of the account.
use Rattle.std.specs.Prelude.{◌≡◌, ℕ, Result, Ok, Err}
use Rattle.std.specs.Result.{IsErrAnd}
use Rattle.std.proofs.Common.{refl, sym, subst, arith}
use Rattle.swift_calls.specs.Account.{SwiftAccount}
use Rattle.swift_calls.specs.History.{History, present}
use Rattle.upload_records.specs.Consistent.{IsConsistent}
use Rattle.account_calls.specs.declared.fault.PlanFault.{PlanFault}
use Rattle.account_calls.specs.declared.fault.PlanFault.TheVariants as fault
use Rattle.account_calls.specs.Fault.{CausesFault}
use Rattle.account_calls.specs.Listing.{TellsOf}
use Rattle.account_calls.specs.Calls.{Bound, always, by_account, IsWithin, Met, Grows, Keeps, Asks}
use Rattle.account_calls.proofs.lemmas.Faults.{err_is}
use Rattle.account_calls.proofs.lemmas.Idle.{grows_none}

-- what isn't given was found before a call
pub not_given : {T : Type 0} {given : SwiftAccount → Type 0} {P : SwiftAccount → SwiftAccount → T → Type 0} (most : Bound) (h : History) → ((tree : SwiftAccount) → given tree → ⊥) → Asks most h h given P (Err fault.Inconsistent)
not_given {given = given} most h never = record { grows = grows_none most given h; cause = refl; effect = λ met. absurd (never _ met.has); settled = λ observable settled. settled }

-- ---- what is made of what calls told

within_given : (most : Bound) {P Q : Type 0} (p q : ℕ) → (Q → P) → IsWithin most P p q → IsWithin most Q p q
within_given (always n) p q from within = within
within_given (by_account n) p q from within = λ met. within (from met)

met_given : {given given' : SwiftAccount → Type 0} {a : History} → ((tree : SwiftAccount) → given' tree → given tree) → Met given' a → Met given a
met_given gives met = record { observable = met.observable; sound = met.sound; has = gives _ met.has }

grows_given : {most : Bound} {given given' : SwiftAccount → Type 0} {a b : History} → ((tree : SwiftAccount) → given' tree → given tree) → Grows most given a b → Grows most given' a b
grows_given {most = most} {a = a} {b = b} gives grows = record { on = grows.on; calls = within_given most a.called b.called (met_given gives) grows.calls }

module _ {T U : Type 0} {most : Bound} {given given' : SwiftAccount → Type 0} {P : SwiftAccount → T → Type 0} {Q : SwiftAccount → U → Type 0} {a b : History}
    (gives : (tree : SwiftAccount) → given' tree → given tree) where
  -- another thing is told
  pub asks_told : {x : T} (y : U) → ((tree : SwiftAccount) → IsConsistent tree → given' tree → P tree x → Q tree y) → Asks most a b given (TellsOf P) (Ok x) → Asks most a b given' (TellsOf Q) (Ok y)
  asks_told y tells asks = record {
    grows = grows_given gives asks.grows;
    cause = asks.cause;
    effect = λ met.
        let keeps = asks.effect (met_given gives met) in
        let from : b.account_at a.called ≡ present a = (asks.grows.on.kept met.observable).accounts a.called (omega arith) in
        let sound : IsConsistent (b.account_at a.called) = subst IsConsistent (sym from) met.sound in
        let has : given' (b.account_at a.called) = subst given' (sym from) met.has in
        (keeps.0, keeps.1, record { of_account = tells _ sound has keeps.2.of_account; same = keeps.2.same });
    settled = asks.settled;
  }

  -- memory ran out after the calls
  pub asks_out_of_memory : {x : T} → Asks most a b given (TellsOf P) (Ok x) → (result : Result U PlanFault) → IsErrAnd result (λ e. e ≡ fault.Memory) → Asks most a b given' (TellsOf Q) result
  asks_out_of_memory asks result is = subst (Asks most a b given' (TellsOf Q)) (sym (err_is result fault.Memory is)) (record {
    grows = grows_given gives asks.grows;
    cause = asks.cause;
    effect = λ met. let keeps = asks.effect (met_given gives met) in (keeps.0, keeps.1);
    settled = asks.settled;
  })

  -- the fault of the calls is handed on
  pub asks_fault : {f : PlanFault} → Asks most a b given (TellsOf P) (Err f) → (result : Result U PlanFault) → IsErrAnd result (λ e. e ≡ f) → Asks most a b given' (TellsOf Q) result
  asks_fault {f = f} asks result is = subst (Asks most a b given' (TellsOf Q)) (sym (err_is result f is)) (record {
    grows = grows_given gives asks.grows;
    cause = same_cause f asks.cause;
    effect = λ met. same_keeps f (asks.effect (met_given gives met));
    settled = asks.settled;
  })
    where
      same_cause : (f : PlanFault) → CausesFault {T = T} a.faults b.faults (Err f) → CausesFault {T = U} a.faults b.faults (Err f)
      same_cause fault.Failed cause = cause
      same_cause fault.Memory cause = cause
      same_cause fault.Inconsistent cause = cause

      same_keeps : (f : PlanFault) → Keeps b a.called b.called (TellsOf P) (Err f) → Keeps b a.called b.called (TellsOf Q) (Err f)
      same_keeps fault.Failed keeps = keeps
      same_keeps fault.Memory keeps = keeps
      same_keeps fault.Inconsistent never = never
