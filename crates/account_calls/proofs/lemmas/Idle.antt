-- No call was made, or one that left the account; and how histories go on.
use Rattle.std.specs.Prelude.{◌≡◌, ◌⊎◌, ◌≤◌, ◌<◌, ℕ, ◌+◌, IsTrue}
use Rattle.std.proofs.Common.{sym, ap, subst, ◌∙◌, inl, inr, arith}
use Rattle.std.proofs.lemmas.Bool.{cases_lt}
use Rattle.swift_calls.specs.Account.{SwiftAccount}
use Rattle.swift_calls.specs.History.{History}
use Rattle.swift_calls.proofs.lemmas.Histories.{extends_refl, extends_trans}
use Rattle.upload_records.specs.Native.{s3_state}
use Rattle.upload_records.specs.Consistent.{IsConsistent}
use Rattle.account_calls.specs.Stutters.{Stutters}
use Rattle.account_calls.specs.Calls.{Bound, always, by_account, GoesOn, Grows}

-- a number from p to p + 1 is one of both
near_one : {p q : ℕ} (k : ℕ) → q ≤ p + 1 → p ≤ k → k ≤ q → (k ≡ p) ⊎ (k ≡ q)
near_one {p = p} {q = q} k near from to = elim (cases_lt k q) [ inl below ↦ inl (omega arith) | inr above ↦ inr (omega arith) ]

-- no call, or one that left the account
pub stays : {h : History} {p q : ℕ} → p ≤ q → q ≤ p + 1 → h.account_at q ≡ h.account_at p → IsConsistent (h.account_at p) → Stutters h p q
stays {h = h} {p = p} {q = q} ordered near same sound = record {
  ordered = ordered;
  same = λ k from to. ap s3_state (here k from to);
  sound = λ k from to. subst IsConsistent (sym (here k from to)) sound;
}
  where
    here : (k : ℕ) → p ≤ k → k ≤ q → h.account_at k ≡ h.account_at p
    here k from to = elim (near_one k near from to) [ inl e ↦ ap h.account_at e | inr e ↦ ap h.account_at e ∙ same ]

-- no call was made
pub none_made : {h : History} {p q : ℕ} → q ≡ p → IsConsistent (h.account_at p) → Stutters h p q
none_made {h = h} same sound = stays (omega arith) (omega arith) (ap h.account_at same) sound

-- no call was made
pub goes_none : (h : History) → GoesOn h h
goes_none h = record {
  ordered = omega arith;
  faults = omega arith;
  observable = λ observable. observable;
  told = λ told. told;
  sure = λ sure. sure;
  never = λ observable sure k from to. ap h.faults_at (omega arith);
  kept = λ observable. extends_refl h.called h;
}

-- calls were made, and then more
pub goes_trans : {a b c : History} → GoesOn a b → GoesOn b c → GoesOn a c
goes_trans {a = a} {b = b} {c = c} first then =
    let first_ordered = first.ordered in
    let ordered = then.ordered in
    let first_faults = first.faults in
    let faults = then.faults in
    record {
      ordered = omega arith;
      faults = omega arith;
      observable = λ observable. then.observable (first.observable observable);
      told = λ told. first.told (then.told told);
      sure = λ sure. then.sure (first.sure sure);
      never = λ observable sure k from to. at observable sure k from to (cases_lt b.called k);
      kept = λ observable. extends_trans first_ordered (first.kept observable) (then.kept (first.observable observable));
    }
  where
    at : IsTrue a.observable → IsTrue a.sure → (k : ℕ) → a.called ≤ k → k ≤ c.called → (b.called < k) ⊎ (k ≤ b.called) → c.faults_at k ≡ a.faults_at a.called
    at observable sure k from to (inl later) =
        let first_ordered = first.ordered in
        then.never (first.observable observable) (first.sure sure) k (omega arith) to ∙ first.never observable sure b.called first_ordered (omega arith)
    at observable sure k from to (inr sooner) = (then.kept (first.observable observable)).counts k sooner ∙ first.never observable sure k from sooner

pub grows_none : (most : Bound) (given : SwiftAccount → Type 0) (h : History) → Grows most given h h
grows_none (always n) given h = record { on = goes_none h; calls = omega arith }
grows_none (by_account n) given h = record { on = goes_none h; calls = λ met. omega arith }
