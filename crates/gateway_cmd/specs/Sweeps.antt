-- A run that sweeps the account, and one that surveys it. Source: this profile.
use Rattle.std.specs.Prelude.{◌≡◌, ◌⊎◌, ◌≤◌, ◌+◌, ◌==◌, ℕ, Result, Ok, Err}
use Rattle.gate_base.specs.Causes.{RisesIf}
use Rattle.swift_calls.specs.History.{History, present}
use Rattle.upload_records.specs.Native.{IsSettled}
use Rattle.account_calls.specs.Answers.{most_settling}
use Rattle.account_calls.specs.Calls.{Any, GoesOn, Grows, Met, amount, by_account}
use Rattle.account_calls.specs.Stutters.{Stutters}
use Rattle.recovery.specs.declared.state.SettleFault.{SettleFault}
use Rattle.recovery.specs.Settling.{Settles}
use Rattle.sweep.specs.Swept.{Forgets, SurveysAccount, SweepsBefore, TellsForgotten, account_calls}
use Rattle.leftovers.specs.declared.fault.SweepFault.{SweepFault}
use Rattle.sweep.specs.declared.account.Swept.{Swept}
use Rattle.sweep.specs.declared.counting.Surveyed.{Surveyed}
use Rattle.gateway_cmd.specs.declared.status.RunOutcome.{RunOutcome}
use Rattle.gateway_cmd.specs.Report.{recovered, surveyed_outcome, swept_outcome}

-- the account was settled, and then swept; or one of both could not be done
pub data Sweeps (before : ℕ) (ended : RunOutcome) (old new : History) : Type 0 where
  not_settled : (fault : SettleFault) → Settles old new (Err fault) → ended ≡ recovered (Err fault) → Sweeps before ended old new
  then_swept : (settled : History) → Settles old settled (Ok tt) → (result : Result Swept SweepFault) → SweepsBefore before settled new result
      → ended ≡ swept_outcome result → Sweeps before ended old new

-- the account was surveyed, or could not be
pub record Surveys (ended : RunOutcome) (old new : History) : Type 0 where
  pub result : Result Surveyed SweepFault
  pub surveys : SurveysAccount old new result
  pub is : ended ≡ surveyed_outcome result

-- ---- by the exit status

-- the calls of a run that sweeps: those of settling, and then those of sweeping the account that was settled by then
pub record SweepsWithin (old new : History) : Type 0 where
  pub settled : ℕ
  pub since : old.called ≤ settled
  pub settling : settled ≤ old.called + amount (most_settling (present old))
  pub sweeping : new.called ≤ settled + account_calls (new.account_at settled)

-- from the number of calls at which the account was settled it was swept: nothing is left over, each record has its moment, and
-- what was removed, dated and forgotten is counted
pub record LeavesSwept (before : ℕ) (old new : History) : Type 0 where
  pub settled : ℕ
  pub since : old.called ≤ settled
  pub until : settled ≤ new.called
  pub is : IsSettled (new.account_at settled)
  pub swept : Swept
  pub tells : TellsForgotten before new settled new.called swept

-- what a run that sweeps does to the store, by its exit status: 4 comes where the store's count of faults rose, and only there; 7
-- never over a consistent account. Whatever the status, at each number of calls the state is the one at entry without the first of
-- the completions that are to be forgotten; where none is from before the moment, it stays
pub record StoreSwept (before status : ℕ) (old new : History) : Type 0 where
  pub on : GoesOn old new
  pub calls : Met Any old → SweepsWithin old new
  pub faults : RisesIf (status == 4) old.faults new.faults
  pub consistent : Met Any old → status ≡ 7 → ⊥
  pub forgets : Met Any old → Forgets before new old.called new.called
  pub same : Met Any old → before ≡ 0 → Stutters new old.called new.called

-- what a run that surveys does to the store, by its exit status: 4 comes where the store's count of faults rose, and only there; 7
-- never over a consistent account. Whatever the status, the state stays at each number of calls; by 0 and 6 the account is left as
-- it is
pub record StoreSurveyed (status : ℕ) (old new : History) : Type 0 where
  pub grows : Grows (by_account (account_calls (present old))) Any old new
  pub faults : RisesIf (status == 4) old.faults new.faults
  pub consistent : Met Any old → status ≡ 7 → ⊥
  pub same : Met Any old → Stutters new old.called new.called
  pub left : Met Any old → (status ≡ 0) ⊎ (status ≡ 6) → present new ≡ present old
