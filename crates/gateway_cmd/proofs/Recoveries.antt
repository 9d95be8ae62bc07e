-- A run that settles the store, by how that ended, and by its exit status.
use Rattle.std.specs.Prelude.{◌≡◌, ◌≢◌, ◌⊎◌, ◌==◌, ℕ, true, false, List, Result, Ok, Err}
use Rattle.std.proofs.Common.{refl, sym, ap, subst, ◌∙◌, inl, inr, arith}
use Rattle.gate_base.specs.Causes.{RisesIf}
use Rattle.sigv4.specs.Keys.{keys_of, are_keys}
use Rattle.swift_calls.specs.History.{History, present}
use Rattle.account_calls.specs.Answers.{most_settling}
use Rattle.account_calls.specs.Calls.{Bound, always, by_account, IsWithin, Met, Any, Keeps}
use Rattle.account_calls.specs.Fault.{CausesFault}
use Rattle.account_calls.specs.Stutters.{Stutters}
use Rattle.account_calls.proofs.lemmas.Idle.{goes_none, none_made}
use Rattle.recovery.specs.declared.state.SettleFault.{SettleFault}
use Rattle.recovery.specs.declared.state.SettleFault.TheVariants as settling
use Rattle.recovery.specs.Settling.{Settles, SettlesIt, as_plan}
use Rattle.gateway_cmd.specs.declared.status.RunOutcome.{RunOutcome}
use Rattle.gateway_cmd.specs.declared.status.RunOutcome.TheVariants.{Plain}
use Rattle.gateway_cmd.specs.declared.status.Status.TheVariants.{Memory}
use Rattle.gateway_cmd.specs.Report.{recovered}
use Rattle.gateway_cmd.specs.Session.{IsIdle, out_of_memory, keys_refused, RunRecovers, nothing_done, was_settled, StoreRecovered}
use Rattle.gateway_cmd.proofs.Exits.{Exits}

-- ---- whatever the status

pub quiet_of : {h : History} {p q : ℕ} (result : Result (Unit {0}) SettleFault) → Keeps h p q SettlesIt (as_plan result) → Stutters h p q
quiet_of (Ok done) keeps = keeps.0
quiet_of (Err settling.Failed) keeps = keeps.0
quiet_of (Err settling.Memory) keeps = keeps.0
quiet_of (Err (settling.Inconsistent container name)) keeps = absurd keeps

-- the state stays
pub recovers_quietly : {keys : List ℕ} {ended : RunOutcome} {old new : History} → RunRecovers keys ended old new → Met Any old → Stutters new old.called new.called
recovers_quietly {old = old} (nothing_done same idle) met = subst (λ h. Stutters h old.called h.called) (sym same) (none_made refl met.sound)
recovers_quietly (was_settled result settles is) met = quiet_of result (settles.asks.effect met)

-- where the keys are taken and memory did not run out, the store was settled, or could not be
pub was_tried : {keys : List ℕ} {ended : RunOutcome} {old new : History} → RunRecovers keys ended old new → are_keys (keys_of keys) ≡ true → ended ≢ Plain Memory
    → (result : Result (Unit {0}) SettleFault) × Settles old new result × (ended ≡ recovered result)
was_tried (nothing_done same (out_of_memory memory)) good other = absurd (other memory)
was_tried (nothing_done same (keys_refused usage bad)) good other = absurd (let no : true ≡ false = sym good ∙ bad in cc)
was_tried (was_settled result settles is) good other = (result, settles, is)

-- ---- by the status

-- the count of faults stayed, by another status than 4
pub stayed : {before now : ℕ} (n m : ℕ) → n ≡ m → (m == 4) ≡ false → now ≡ before → RisesIf (n == 4) before now
stayed {before = before} {now = now} n m is other same = subst (λ failed. RisesIf failed before now) (sym (ap (λ k. k == 4) is ∙ other)) same

pub faults_by : (before now : ℕ) (result : Result (Unit {0}) SettleFault) (n : ℕ) → Exits (recovered result) n → CausesFault before now (as_plan result) → RisesIf (n == 4) before now
faults_by before now (Ok done) n (inl zero) cause = stayed n 0 zero refl cause
faults_by before now (Ok done) n (inr (inl five)) cause = stayed n 5 five refl cause
faults_by before now (Ok done) n (inr (inr six)) cause = stayed n 6 six refl cause
faults_by before now (Err settling.Failed) n four cause = subst (λ failed. RisesIf failed before now) (sym (ap (λ k. k == 4) four)) cause
faults_by before now (Err settling.Memory) n five cause = stayed n 5 five refl cause
faults_by before now (Err (settling.Inconsistent container name)) n (inl seven) cause = stayed n 7 seven refl cause
faults_by before now (Err (settling.Inconsistent container name)) n (inr five) cause = stayed n 5 five refl cause

pub never_seven : (h : History) (p q : ℕ) (result : Result (Unit {0}) SettleFault) (n : ℕ) → Exits (recovered result) n → Keeps h p q SettlesIt (as_plan result) → n ≡ 7 → ⊥
never_seven h p q (Ok done) n (inl zero) keeps e = omega arith
never_seven h p q (Ok done) n (inr (inl five)) keeps e = omega arith
never_seven h p q (Ok done) n (inr (inr six)) keeps e = omega arith
never_seven h p q (Err settling.Failed) n four keeps e = omega arith
never_seven h p q (Err settling.Memory) n five keeps e = omega arith
never_seven h p q (Err (settling.Inconsistent container name)) n x keeps e = keeps

-- 0 and 6 are those of a store that was settled
pub settled_by : (result : Result (Unit {0}) SettleFault) (n : ℕ) → Exits (recovered result) n → (n ≡ 0) ⊎ (n ≡ 6) → result ≡ Ok tt
settled_by (Ok done) n x e = refl
settled_by (Err settling.Failed) n four (inl zero) = absurd (omega arith)
settled_by (Err settling.Failed) n four (inr six) = absurd (omega arith)
settled_by (Err settling.Memory) n five (inl zero) = absurd (omega arith)
settled_by (Err settling.Memory) n five (inr six) = absurd (omega arith)
settled_by (Err (settling.Inconsistent container name)) n (inl seven) (inl zero) = absurd (omega arith)
settled_by (Err (settling.Inconsistent container name)) n (inl seven) (inr six) = absurd (omega arith)
settled_by (Err (settling.Inconsistent container name)) n (inr five) (inl zero) = absurd (omega arith)
settled_by (Err (settling.Inconsistent container name)) n (inr five) (inr six) = absurd (omega arith)

pub within_none : (most : Bound) (premises : Type 0) (p : ℕ) → IsWithin most premises p p
within_none (always n) premises p = omega arith
within_none (by_account n) premises p = λ given. omega arith

-- a run that did nothing has the status of refused words, or the one where memory ran out
pub idle_status : {keys : List ℕ} {ended : RunOutcome} (n : ℕ) → IsIdle keys ended → Exits ended n → (n ≡ 2) ⊎ (n ≡ 5)
idle_status n (out_of_memory memory) x = inr (subst (λ how. Exits how n) memory x)
idle_status n (keys_refused usage bad) x = inl (subst (λ how. Exits how n) usage x)

idle_recovered : {h : History} (n : ℕ) → (n ≡ 2) ⊎ (n ≡ 5) → StoreRecovered n h h
idle_recovered {h = h} n is = record {
  grows = record { on = goes_none h; calls = within_none (most_settling (present h)) (Met Any h) h.called };
  faults = elim is [ inl two ↦ stayed n 2 two refl refl | inr five ↦ stayed n 5 five refl refl ];
  consistent = λ met seven. elim is [ inl two ↦ omega arith | inr five ↦ omega arith ];
  same = λ met. none_made refl met.sound;
  settled = λ observable told. elim is [
    | inl two ↦ elim told [ inl zero ↦ absurd (omega arith) | inr six ↦ absurd (omega arith) ]
    | inr five ↦ elim told [ inl zero ↦ absurd (omega arith) | inr six ↦ absurd (omega arith) ]
  ];
}

pub store_recovered : {keys : List ℕ} {ended : RunOutcome} {old new : History} (n : ℕ) → Exits ended n → RunRecovers keys ended old new → StoreRecovered n old new
store_recovered {old = old} n x (nothing_done same idle) = subst (StoreRecovered n old) (sym same) (idle_recovered n (idle_status n idle x))
store_recovered {old = old} {new = new} n x (was_settled result settles is) =
    let exits = subst (λ how. Exits how n) is x in
    record {
      grows = settles.asks.grows;
      faults = faults_by old.faults new.faults result n exits settles.asks.cause;
      consistent = λ met. never_seven new old.called new.called result n exits (settles.asks.effect met);
      same = λ met. quiet_of result (settles.asks.effect met);
      settled = λ observable told. settles.done observable (settled_by result n exits told);
    }
