-- A run that settles the store and sweeps its account: what becomes of the state, and of the kept completions.
use Rattle.std.specs.Prelude.{◌≡◌, ◌≢◌, ℕ, true, false, List, Result, Ok, Err}
use Rattle.std.proofs.Common.{refl, sym, subst, ◌∙◌, arith}
use Rattle.sigv4.specs.Keys.{keys_of, are_keys}
use Rattle.swift_calls.specs.History.{Extends, History}
use Rattle.upload_records.specs.Native.{IsSettled}
use Rattle.account_calls.specs.Calls.{Any, Met}
use Rattle.account_calls.proofs.lemmas.Agree.{quiet_agree}
use Rattle.account_calls.proofs.lemmas.Idle.{none_made}
use Rattle.recovery.specs.Settling.{Settles}
use Rattle.sweep.specs.Swept.{Forgets, ForgetsBy, SweepsBefore}
use Rattle.leftovers.specs.Faults.{as_plan}
use Rattle.leftovers.specs.declared.fault.SweepFault.{SweepFault}
use Rattle.leftovers.specs.declared.fault.SweepFault.TheVariants as sweeping
use Rattle.sweep.specs.declared.account.Swept.{Swept}
use Rattle.gateway_cmd.specs.declared.status.RunOutcome.{RunOutcome}
use Rattle.gateway_cmd.specs.declared.status.RunOutcome.TheVariants.{Plain}
use Rattle.gateway_cmd.specs.declared.status.Status.TheVariants.{Memory}
use Rattle.gateway_cmd.specs.Session.{RunSweeps, keys_refused, none_swept, out_of_memory, was_swept}
use Rattle.gateway_cmd.specs.Sweeps.{Sweeps, not_settled, then_swept}
use Rattle.gateway_cmd.proofs.Recoveries.{quiet_of}
use Rattle.gateway_cmd.proofs.Unforgotten.{forgets_after, forgets_none}

-- a store that was settled is one that may be swept
pub met_settled : {old settled : History} → Settles old settled (Ok tt) → Met Any old → Met IsSettled settled
met_settled {settled = settled} settles met =
    let still = quiet_of (Ok tt) (settles.asks.effect met) in
    let ordered = still.ordered in
    record {
      observable = settles.asks.grows.on.observable met.observable;
      sound = still.sound settled.called ordered (omega arith);
      has = settles.done met.observable refl;
    }

-- what was told of the account as it was settled stays
pub settled_kept : {old settled new : History} {before : ℕ} {result : Result Swept SweepFault} → Settles old settled (Ok tt) → SweepsBefore before settled new result → Met Any old → Extends settled.called settled new
settled_kept settles sweeps met = sweeps.grows.on.kept (settles.asks.grows.on.observable met.observable)

forgets_of : {before : ℕ} {h : History} {p q : ℕ} (result : Result Swept SweepFault) → ForgetsBy before h p q (as_plan result) → Forgets before h p q
forgets_of (Ok swept) by = by.0
forgets_of (Err sweeping.Failed) by = by.0
forgets_of (Err sweeping.Memory) by = by.0
forgets_of (Err (sweeping.Inconsistent container name)) by = absurd by

-- the first of the completions that are to be forgotten are gone, and no others
pub sweeps_gone : {before : ℕ} {ended : RunOutcome} {old new : History} → Sweeps before ended old new → Met Any old → Forgets before new old.called new.called
sweeps_gone (not_settled fault settles is) met = forgets_none (quiet_of (Err fault) (settles.asks.effect met))
sweeps_gone (then_swept settled settles result sweeps is) met =
    forgets_after (quiet_agree (settled_kept settles sweeps met) (quiet_of (Ok tt) (settles.asks.effect met))) (forgets_of result (sweeps.effect (met_settled settles met)))

pub sweeps_forget : {before : ℕ} {keys : List ℕ} {ended : RunOutcome} {old new : History} → RunSweeps before keys ended old new → Met Any old → Forgets before new old.called new.called
sweeps_forget {before = before} {old = old} (none_swept same idle) met = subst (λ h. Forgets before h old.called h.called) (sym same) (forgets_none (none_made refl met.sound))
sweeps_forget (was_swept sweeps) met = sweeps_gone sweeps met

-- where the keys are taken and memory did not run out, the account was swept, or could not be
pub was_cleared : {before : ℕ} {keys : List ℕ} {ended : RunOutcome} {old new : History} → RunSweeps before keys ended old new → are_keys (keys_of keys) ≡ true → ended ≢ Plain Memory → Sweeps before ended old new
was_cleared (none_swept same (out_of_memory memory)) good other = absurd (other memory)
was_cleared (none_swept same (keys_refused usage bad)) good other = absurd (let no : true ≡ false = sym good ∙ bad in cc)
was_cleared (was_swept sweeps) good other = sweeps
