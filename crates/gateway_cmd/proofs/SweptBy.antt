-- A run that sweeps the account, by its exit status.
use Rattle.std.specs.Prelude.{◌≡◌, ◌⊎◌, ◌==◌, ◌≤◌, ◌+◌, ℕ, List, Result, Ok, Err}
use Rattle.std.proofs.Common.{refl, sym, ap, subst, ◌∙◌, inl, inr, arith}
use Rattle.gate_base.specs.Causes.{RisesIf}
use Rattle.gate_base.specs.Told.{SinkModel}
use Rattle.swift_calls.specs.History.{History}
use Rattle.upload_records.specs.Native.{IsSettled}
use Rattle.account_calls.specs.Calls.{Any, GoesOn, Met}
use Rattle.account_calls.specs.Fault.{CausesFault}
use Rattle.account_calls.proofs.lemmas.Idle.{goes_none, goes_trans, none_made}
use Rattle.sweep.specs.Swept.{Forgets, ForgetsBy, TellsForgotten, account_calls}
use Rattle.leftovers.specs.Faults.{as_plan}
use Rattle.leftovers.specs.declared.fault.SweepFault.{SweepFault}
use Rattle.leftovers.specs.declared.fault.SweepFault.TheVariants as sweeping
use Rattle.sweep.specs.declared.account.Swept.{Swept}
use Rattle.gateway_cmd.specs.declared.status.RunOutcome.{RunOutcome}
use Rattle.gateway_cmd.specs.declared.status.RunOutcome.TheVariants.{Told}
use Rattle.gateway_cmd.specs.declared.status.Told.TheVariants.{Sweep}
use Rattle.gateway_cmd.specs.Report.{Reports, Says, swept_line, swept_outcome}
use Rattle.gateway_cmd.specs.Session.{RunSweeps, none_swept, was_swept}
use Rattle.gateway_cmd.specs.Sweeps.{LeavesSwept, StoreSwept, Sweeps, SweepsWithin, not_settled, then_swept}
use Rattle.gateway_cmd.proofs.Exits.{Exits, says_exits}
use Rattle.gateway_cmd.proofs.Recoveries.{faults_by, idle_status, never_seven, settled_by, stayed}
use Rattle.gateway_cmd.proofs.SweepRuns.{met_settled, settled_kept, sweeps_gone}
use Rattle.gateway_cmd.proofs.Unforgotten.{forgets_none, forgets_still}
use Rattle.gateway_cmd.proofs.Unswept.{told_faults, told_never_seven, told_reports, unswept_faults, unswept_status}

-- ---- how sweeping ended

sweep_faults : (before now : ℕ) (result : Result Swept SweepFault) (n : ℕ) → Exits (swept_outcome result) n → CausesFault before now (as_plan result) → RisesIf (n == 4) before now
sweep_faults before now (Ok swept) n x cause = told_faults before now (Sweep swept) n x cause
sweep_faults before now (Err fault) n x cause = unswept_faults Swept before now fault n x cause

sweep_never_seven : (before : ℕ) (h : History) (p q : ℕ) (result : Result Swept SweepFault) (n : ℕ) → Exits (swept_outcome result) n → ForgetsBy before h p q (as_plan result) → n ≡ 7 → ⊥
sweep_never_seven before h p q (Ok swept) n x by e = told_never_seven (Sweep swept) n x e
sweep_never_seven before h p q (Err sweeping.Failed) n four by e = omega arith
sweep_never_seven before h p q (Err sweeping.Memory) n five by e = omega arith
sweep_never_seven before h p q (Err (sweeping.Inconsistent container name)) n x by e = by

-- by 0 and 6 it was done
sweep_tells : (before : ℕ) (h : History) (p q : ℕ) (result : Result Swept SweepFault) (n : ℕ) → Exits (swept_outcome result) n → (n ≡ 0) ⊎ (n ≡ 6) → ForgetsBy before h p q (as_plan result)
    → (swept : Swept) × (result ≡ Ok swept) × TellsForgotten before h p q swept
sweep_tells before h p q (Ok swept) n x e by = (swept, refl, by.2)
sweep_tells before h p q (Err fault) n x e by = absurd (unswept_status fault n x e)

-- ---- how the run did

sweeps_on : {before : ℕ} {ended : RunOutcome} {old new : History} → Sweeps before ended old new → GoesOn old new
sweeps_on (not_settled fault settles is) = settles.asks.grows.on
sweeps_on (then_swept settled settles result sweeps is) = goes_trans settles.asks.grows.on sweeps.grows.on

sweeps_within : {before : ℕ} {ended : RunOutcome} {old new : History} → Sweeps before ended old new → Met Any old → SweepsWithin old new
sweeps_within {new = new} (not_settled fault settles is) met = record {
  settled = new.called;
  since = settles.asks.grows.on.ordered;
  settling = settles.asks.grows.calls met;
  sweeping = omega arith;
}
sweeps_within {new = new} (then_swept settled settles result sweeps is) met = record {
  settled = settled.called;
  since = settles.asks.grows.on.ordered;
  settling = settles.asks.grows.calls met;
  sweeping = subst (λ tree. new.called ≤ settled.called + account_calls tree) (sym ((settled_kept settles sweeps met).accounts settled.called (omega arith))) (sweeps.grows.calls (met_settled settles met));
}

sweeps_faults : {before : ℕ} {ended : RunOutcome} {old new : History} (n : ℕ) → Exits ended n → Sweeps before ended old new → RisesIf (n == 4) old.faults new.faults
sweeps_faults {old = old} {new = new} n x (not_settled fault settles is) = faults_by old.faults new.faults (Err fault) n (subst (λ how. Exits how n) is x) settles.asks.cause
sweeps_faults {new = new} n x (then_swept settled settles result sweeps is) =
    subst (λ first. RisesIf (n == 4) first new.faults) settles.asks.cause (sweep_faults settled.faults new.faults result n (subst (λ how. Exits how n) is x) sweeps.cause)

sweeps_never_seven : {before : ℕ} {ended : RunOutcome} {old new : History} (n : ℕ) → Exits ended n → Sweeps before ended old new → Met Any old → n ≡ 7 → ⊥
sweeps_never_seven {old = old} {new = new} n x (not_settled fault settles is) met = never_seven new old.called new.called (Err fault) n (subst (λ how. Exits how n) is x) (settles.asks.effect met)
sweeps_never_seven {before = before} {new = new} n x (then_swept settled settles result sweeps is) met =
    sweep_never_seven before new settled.called new.called result n (subst (λ how. Exits how n) is x) (sweeps.effect (met_settled settles met))

idle_swept : {h : History} (before n : ℕ) → (n ≡ 2) ⊎ (n ≡ 5) → StoreSwept before n h h
idle_swept {h = h} before n is = record {
  on = goes_none h;
  calls = λ met. record { settled = h.called; since = omega arith; settling = omega arith; sweeping = omega arith };
  faults = elim is [ inl two ↦ stayed n 2 two refl refl | inr five ↦ stayed n 5 five refl refl ];
  consistent = λ met seven. elim is [ inl two ↦ omega arith | inr five ↦ omega arith ];
  forgets = λ met. forgets_none (none_made refl met.sound);
  same = λ met none. none_made refl met.sound;
}

pub store_swept : {before : ℕ} {keys : List ℕ} {ended : RunOutcome} {old new : History} (n : ℕ) → Exits ended n → RunSweeps before keys ended old new → StoreSwept before n old new
store_swept {before = before} {old = old} n x (none_swept same idle) = subst (StoreSwept before n old) (sym same) (idle_swept before n (idle_status n idle x))
store_swept {before = before} {old = old} {new = new} n x (was_swept sweeps) = record {
  on = sweeps_on sweeps;
  calls = λ met. sweeps_within sweeps met;
  faults = sweeps_faults n x sweeps;
  consistent = λ met. sweeps_never_seven n x sweeps met;
  forgets = λ met. sweeps_gone sweeps met;
  same = λ met none. forgets_still (subst (λ moment. Forgets moment new old.called new.called) none (sweeps_gone sweeps met));
}

-- ---- by 0 and 6

sweeps_leave : {before : ℕ} {ended : RunOutcome} {old new : History} (n : ℕ) → Exits ended n → (n ≡ 0) ⊎ (n ≡ 6) → Sweeps before ended old new → Met Any old
    → (leaves : LeavesSwept before old new) × (ended ≡ Told (Sweep leaves.swept))
sweeps_leave n x e (not_settled fault settles is) met =
    absurd (let no : Err fault ≡ Ok tt = settled_by (Err fault) n (subst (λ how. Exits how n) is x) e in cc)
sweeps_leave {before = before} {new = new} n x e (then_swept settled settles result sweeps is) met =
    let tells = sweep_tells before new settled.called new.called result n (subst (λ how. Exits how n) is x) e (sweeps.effect (met_settled settles met)) in (
      record {
        settled = settled.called;
        since = settles.asks.grows.on.ordered;
        until = sweeps.grows.on.ordered;
        is = subst IsSettled (sym ((settled_kept settles sweeps met).accounts settled.called (omega arith))) (met_settled settles met).has;
        swept = tells.0;
        tells = tells.2;
      },
      is ∙ ap swept_outcome tells.1,
    )

-- the account was swept, and the line has the counts
pub sweep_reports : {before : ℕ} {keys : List ℕ} {ended : RunOutcome} {old new : History} {sink sink' : SinkModel} (n : ℕ) (text : List ℕ) → Says ended n text → Reports text sink sink' → RunSweeps before keys ended old new → Met Any old
    → (n ≡ 0) ⊎ (n ≡ 6) → (leaves : LeavesSwept before old new) × Reports (swept_line leaves.swept) sink sink'
sweep_reports {ended = ended} n text says reports (none_swept same idle) met e =
    absurd (elim (idle_status n idle (says_exits ended n text says)) [
      | inl two ↦ elim e [ inl zero ↦ omega arith | inr six ↦ omega arith ]
      | inr five ↦ elim e [ inl zero ↦ omega arith | inr six ↦ omega arith ]
    ])
sweep_reports {ended = ended} {sink = sink} {sink' = sink'} n text says reports (was_swept sweeps) met e =
    let left = sweeps_leave n (says_exits ended n text says) e sweeps met in
    let said = subst (λ how. Says how n text) left.1 says in
    (left.0, told_reports {old = sink} {new = sink'} (Sweep left.0.swept) n text said e reports)
