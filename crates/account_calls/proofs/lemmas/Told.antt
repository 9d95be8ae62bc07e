-- Calls that left the account and told of it, one after another.
use Rattle.std.specs.Prelude.{◌≡◌, ◌≤◌, ◌+◌, ℕ, IsTrue, Result, Ok, Err}
use Rattle.std.specs.Result.{IsErrAnd}
use Rattle.std.proofs.Common.{refl, sym, subst, ◌∙◌, arith}
use Rattle.swift_calls.specs.Account.{SwiftAccount}
use Rattle.swift_calls.specs.History.{History, present}
use Rattle.upload_records.specs.Native.{IsSettled}
use Rattle.account_calls.specs.declared.fault.PlanFault.{PlanFault}
use Rattle.account_calls.specs.declared.fault.PlanFault.TheVariants as fault
use Rattle.account_calls.specs.Listing.{TellsOf}
use Rattle.s3_machine.specs.State.{State}
use Rattle.upload_records.specs.Native.{s3_state}
use Rattle.upload_records.specs.Consistent.{IsConsistent}
use Rattle.account_calls.specs.Calls.{Bound, always, IsWithin, GoesOn, Met, Tells, Asks}
use Rattle.account_calls.proofs.lemmas.Faults.{err_is}
use Rattle.account_calls.proofs.lemmas.Idle.{goes_none, goes_trans}
use Rattle.account_calls.specs.Told.{Idles, Told}
use Rattle.account_calls.proofs.lemmas.Walk.{idles_none, idles_trans, cause_after, keeps_after}

-- none was
pub told_none : (a : History) {given R : SwiftAccount → Type 0} → ((tree : SwiftAccount) → R tree) → Told a a given R 0
told_none a holds = record {
  on = goes_none a;
  faults = refl;
  settled = λ observable settled. settled;
  calls = omega arith;
  idles = λ met. idles_none a met.sound;
  so = λ met. holds (present a);
}

module _ {a b : History} {given R : SwiftAccount → Type 0} {count : ℕ} (told : Told a b given R count) where
  -- the account is still the one at the beginning
  pub same_here : Met given a → present b ≡ present a
  same_here met = (told.idles met).same ∙ (told.on.kept met.observable).accounts a.called (omega arith)

  pub met_here : Met given a → Met given b
  met_here met =
      let order = told.on.ordered in
      record {
        observable = told.on.observable met.observable;
        sound = (told.idles met).quiet.sound b.called order (omega arith);
        has = subst given (sym (same_here met)) met.has;
      }

  module _ {T : Type 0} {P : SwiftAccount → T → Type 0} {m : ℕ} {c : History} where
    -- and then more calls, which were answered
    pub told_more : {S : SwiftAccount → Type 0} {x : T} → Asks (always m) b c given (TellsOf P) (Ok x) → ((tree : SwiftAccount) → R tree → P tree x → S tree) → Told a c given S (count + m)
    told_more {x = x} asks holds =
        let later = λ (met : Met given a). asks.grows.on.kept (told.on.observable met.observable) in
        record {
          on = goes_trans told.on asks.grows.on;
          faults = asks.cause ∙ told.faults;
          settled = λ observable settled. asks.settled (told.on.observable observable) (told.settled observable settled);
          calls = (let before = told.calls in let calls = asks.grows.calls in omega (arith, before, calls));
          idles = λ met.
              let keeps = asks.effect (met_here met) in
              idles_trans told.on.ordered (later met) (told.idles met) (record { quiet = keeps.0; still = keeps.1; same = keeps.2.same });
          so = λ met.
              let keeps = asks.effect (met_here met) in
              holds (present a) (told.so met) (subst (λ tree. P tree x) ((later met).accounts b.called (omega arith) ∙ same_here met) keeps.2.of_account);
        }

    -- or which weren't
    pub told_fault : {U : Type 0} {Q : SwiftAccount → U → Type 0} {most : Bound} {f : PlanFault} → Asks (always m) b c given (TellsOf P) (Err f)
        → (result : Result U PlanFault) → IsErrAnd result (λ e. e ≡ f) → (c.called ≤ a.called + (count + m) → IsWithin most (Met given a) a.called c.called) → Asks most a c given (TellsOf Q) result
    told_fault {U = U} {Q = Q} {most = most} {f = f} asks result is within = subst (Asks most a c given (TellsOf Q)) (sym (err_is result f is)) (record {
      grows = record { on = goes_trans told.on asks.grows.on; calls = within (let before = told.calls in let calls = asks.grows.calls in omega (arith, before, calls)) };
      cause = cause_after T U a.faults b.faults c.faults f told.faults asks.cause;
      effect = λ met. keeps_after T U P Q b c a.called b.called c.called f told.on.ordered (asks.grows.on.kept (told.on.observable met.observable)) (told.idles met) (asks.effect (met_here met));
      settled = λ observable settled. asks.settled (told.on.observable observable) (told.settled observable settled);
    })

  module _ {U : Type 0} {Q : SwiftAccount → U → Type 0} {most : Bound} where
    -- what is told in the end
    pub told_end : (y : U) → ((tree : SwiftAccount) → R tree → Q tree y) → (b.called ≤ a.called + count → IsWithin most (Met given a) a.called b.called) → Asks most a b given (TellsOf Q) (Ok y)
    told_end y tells within = record {
      grows = record { on = told.on; calls = within told.calls };
      cause = told.faults;
      effect = λ met.
          let idles = told.idles met in
          let from : b.account_at a.called ≡ present a = (told.on.kept met.observable).accounts a.called (omega arith) in
          (idles.quiet, idles.still, record { of_account = subst (λ tree. Q tree y) (sym from) (tells (present a) (told.so met)); same = idles.same });
      settled = told.settled;
    }

    -- memory ran out
    pub told_out_of_memory : (b.called ≤ a.called + count → IsWithin most (Met given a) a.called b.called) → Asks most a b given (TellsOf Q) (Err fault.Memory)
    told_out_of_memory within = record {
      grows = record { on = told.on; calls = within told.calls };
      cause = told.faults;
      effect = λ met. let idles = told.idles met in (idles.quiet, idles.still);
      settled = told.settled;
    }

-- and what more calls tell is what is told in the end
module _ {a b c : History} {given R : SwiftAccount → Type 0} {count : ℕ} {T : Type 0} {P Q : SwiftAccount → T → Type 0} {m : ℕ} {most : Bound} (told : Told a b given R count)
    (tells : (tree : SwiftAccount) (y : T) → R tree → P tree y → Q tree y) (within : c.called ≤ a.called + (count + m) → IsWithin most (Met given a) a.called c.called) where
  pub told_then : (result : Result T PlanFault) → Asks (always m) b c given (TellsOf P) result → Asks most a c given (TellsOf Q) result
  told_then (Ok y) asks = told_end (told_more told {S = λ tree. Q tree y} asks (λ tree before then. tells tree y before then)) y (λ tree is. is) within
  told_then (Err f) asks = told_fault told asks (Err f) refl within

-- calls that were answered told this
pub told_by : {a b : History} {asked given R : SwiftAccount → Type 0} {T : Type 0} {P : State → T → Type 0} {x : T} (n : ℕ) → Asks (always n) a b asked (Tells P) (Ok x) → (Met given a → Met asked a)
    → ((tree : SwiftAccount) → IsConsistent tree → given tree → P (s3_state tree) x → R tree) → Told a b given R n
told_by {a = a} {b = b} {P = P} {x = x} n asks under gives = record {
  on = asks.grows.on;
  faults = asks.cause;
  settled = asks.settled;
  calls = asks.grows.calls;
  idles = λ met. let keeps = asks.effect (under met) in record { quiet = keeps.0; still = keeps.1; same = keeps.2.same };
  so = λ met.
      let from : b.account_at a.called ≡ present a = (asks.grows.on.kept met.observable).accounts a.called (omega arith) in
      gives (present a) met.sound met.has (subst (λ tree. P (s3_state tree) x) from (asks.effect (under met)).2.of_state);
}

-- calls, and then others, which find what the first told
pub told_trans : {a b c : History} {given rest R S Q : SwiftAccount → Type 0} (n m : ℕ) → Told a b given R n → Told b c rest S m → ((tree : SwiftAccount) → given tree → R tree → rest tree)
    → ((tree : SwiftAccount) → R tree → S tree → Q tree) → Told a c given Q (n + m)
told_trans {a = a} {b = b} {c = c} {given = given} {rest = rest} {S = S} n m first then gives joins =
    let order = first.on.ordered in
    let met_then : Met given a → Met rest b = λ met. record {
      observable = first.on.observable met.observable;
      sound = (first.idles met).quiet.sound b.called order (omega arith);
      has = subst rest (sym (same_here first met)) (gives (present a) met.has (first.so met));
    } in
    record {
      on = goes_trans first.on then.on;
      faults = then.faults ∙ first.faults;
      settled = λ observable settled. then.settled (first.on.observable observable) (first.settled observable settled);
      calls = (let before = first.calls in let calls = then.calls in omega (arith, before, calls));
      idles = λ met. idles_trans order (then.on.kept (first.on.observable met.observable)) (first.idles met) (then.idles (met_then met));
      so = λ met. joins (present a) (first.so met) (subst S (same_here first met) (then.so (met_then met)));
    }

-- what was told says this
pub told_as : {a b : History} {given R S : SwiftAccount → Type 0} {n : ℕ} → Told a b given R n → ((tree : SwiftAccount) → R tree → S tree) → Told a b given S n
told_as told says = record { on = told.on; faults = told.faults; settled = told.settled; calls = told.calls; idles = told.idles; so = λ met. says _ (told.so met) }
