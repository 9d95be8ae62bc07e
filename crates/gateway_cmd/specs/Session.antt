-- One step of a session: a connection that was served, or its end; and what a run of each command does. Source: this profile.
use Rattle.std.specs.Prelude.{◌≡◌, ◌≢◌, ◌⊎◌, ℕ, ◌==◌, Bool, true, false, IsTrue, List, Option, None, Some}
use Rattle.std.specs.Prelude.{Result, Ok, Err}
use Rattle.gate_base.specs.Causes.{Rose, RisesIf}
use Rattle.gate_base.specs.Line.{LineModel}
use Rattle.gate_base.specs.Told.{SourceModel, ClockNow}
use Rattle.swift_calls.specs.History.{History, present}
use Rattle.upload_records.specs.Native.{IsSettled}
use Rattle.account_calls.specs.Answers.{most_settling}
use Rattle.account_calls.specs.Calls.{Any, Grows, Met}
use Rattle.account_calls.specs.declared.state.Known.{Known}
use Rattle.account_calls.specs.Stutters.{Stutters}
use Rattle.recovery.specs.declared.state.SettleFault.{SettleFault}
use Rattle.recovery.specs.Settling.{Settles}
use Rattle.sigv4.specs.Keys.{keys_of, are_keys, secret_of}
use Rattle.sigv4.specs.declared.keys.AccessKey.{AccessKey}
use Rattle.sign_cmd.specs.Signing.{AnswersFirst, SendsFirst, SignsOn}
use Rattle.sign_cmd.specs.declared.first.Signing.{Signing}
use Rattle.presign_cmd.specs.Presigning.{Presigns, AnswersFirst as UrlFirst, SendsFirst as UrlSends}
use Rattle.presign_cmd.specs.declared.first.Presigning.{Presigning}
use Rattle.trial_cmd.specs.declared.serve.Trial.{Trial}
use Rattle.trial_cmd.specs.Served.{TrialDoes}
use Rattle.gateway.specs.declared.service.Service.{Service}
use Rattle.gateway.specs.Exchange.{ReplyRelation, Span}
use Rattle.gateway.specs.World.{World, ServesOver}
use Rattle.http_service.specs.Running.{IsServedOut, BeginsAtMost, NoneFaulty}
use Rattle.http_service.specs.declared.run.Stopped.{Stopped}
use Rattle.gateway_cmd.specs.declared.status.Status.{Status}
use Rattle.gateway_cmd.specs.declared.status.Status.TheVariants.{Usage, Memory}
use Rattle.gateway_cmd.specs.declared.status.RunOutcome.{RunOutcome}
use Rattle.gateway_cmd.specs.declared.status.RunOutcome.TheVariants.{Plain}
use Rattle.gateway_cmd.specs.Report.{end_of, outcome_of_presigning, recovered, is_failed_run, is_done, outcome_of_trial}
use Rattle.gateway_cmd.specs.Tasks.{Serving, service_of}
use Rattle.gateway_cmd.specs.Run.{run_cursor_of, ServesNext, RunTraces}
use Rattle.gateway_cmd.specs.Sweeps.{Sweeps, Surveys}

-- the next connection was served, or nothing came between
abbrev pub NextCursor : Service → ReplyRelation → Option Stopped → World → World → Type 0
NextCursor service R None old new = (spans : List Span) × ServesNext service R (run_cursor_of old) spans (run_cursor_of new)
NextCursor service R (Some stopped) old new = run_cursor_of new ≡ run_cursor_of old

-- what a run that serves does to the line, by whether the line failed to give a connection, and whether all was done
pub record LineServed (serving : Serving) (failed done : Bool) (old new : LineModel) : Type 0 where
  pub next_faults : RisesIf failed old.next_faults new.next_faults
  pub served_out : IsTrue old.observable → done ≡ true → IsServedOut serving.most old.transcript new.transcript
  pub within : IsTrue old.observable → BeginsAtMost serving.most old.transcript new.transcript
  pub none_faulty : IsTrue old.observable → (Rose old.faults new.faults → ⊥) → NoneFaulty old.transcript new.transcript

-- ---- a run but for its report, by what is asked for

-- connections were served; what is known of the store at the end is the run's own
pub record RunServes (serving : Serving) (keys : List ℕ) (ended : RunOutcome) (old : World) (new : Known → World) : Type 0 where
  pub known : Known
  pub line : LineServed serving (is_failed_run ended) (is_done ended) old.line (new known).line
  pub serves : ServesOver serving.settings (RunTraces (service_of serving keys)) old (new known)

-- the first request was signed when the store had counted so many calls, or could not be; where the key is there, by its secret
pub record RunSigns (id region keys : List ℕ) (at : ℕ) (ended : RunOutcome) (old new : LineModel) : Type 0 where
  pub line : SignsOn (is_failed_run ended) at old new
  pub effect : (secret : List ℕ) → are_keys (keys_of keys) ≡ true → secret_of id (keys_of keys) ≡ Some secret → IsTrue old.observable → ended ≢ Plain Memory
      → (signing : Signing) × AnswersFirst secret region old.transcript.waiting signing × SendsFirst at old.transcript signing new.transcript
      × (ended ≡ end_of signing)

-- the same, a URL of the first request: it is for the moment that the clock gives
pub record RunPresigns (id region : List ℕ) (expires : ℕ) (keys : List ℕ) (at : ℕ) (ended : RunOutcome) (old new : LineModel) (clock clock' : SourceModel) : Type 0 where
  pub line : SignsOn (is_failed_run ended) at old new
  pub effect : (secret : List ℕ) → are_keys (keys_of keys) ≡ true → secret_of id (keys_of keys) ≡ Some secret → IsTrue old.observable → ended ≢ Plain Memory
      → (moment : ℕ) × ClockNow clock moment clock'
      × (presigning : Presigning) × UrlFirst (Presigns secret id region moment expires) old.transcript.waiting presigning
      × UrlSends at old.transcript presigning new.transcript × (ended ≡ outcome_of_presigning presigning)

-- nothing was done: memory ran out before, or the keys are refused
pub data IsIdle (keys : List ℕ) (ended : RunOutcome) : Type 0 where
  out_of_memory : ended ≡ Plain Memory → IsIdle keys ended
  keys_refused : ended ≡ Plain Usage → are_keys (keys_of keys) ≡ false → IsIdle keys ended

-- what a key text gives: its keys, each of the form and no id twice; or the status of a run that does nothing
abbrev pub Offers : List ℕ → Result (List AccessKey) Status → Type 0
Offers keys (Ok read) = (read ≡ keys_of keys) × (are_keys (keys_of keys) ≡ true)
Offers keys (Err status) = IsIdle keys (Plain status)

-- the store was settled, or could not be; or nothing was done
pub data RunRecovers (keys : List ℕ) (ended : RunOutcome) (old new : History) : Type 0 where
  nothing_done : new ≡ old → IsIdle keys ended → RunRecovers keys ended old new
  was_settled : (result : Result (Unit {0}) SettleFault) → Settles old new result → ended ≡ recovered result → RunRecovers keys ended old new

-- the store was tried, as one connection over it; or nothing was done
pub data RunTries (number requests : ℕ) (keys : List ℕ) (ended : RunOutcome) (old new : History) : Type 0 where
  nothing_tried : new ≡ old → IsIdle keys ended → RunTries number requests keys ended old new
  was_served : (trial : Trial) → TrialDoes number requests old (Ok trial) new → ended ≡ outcome_of_trial requests trial → RunTries number requests keys ended old new

-- what a run that settles does to the store, by its exit status: 4 comes where the store's count of faults rose, and only there; 7
-- never over a consistent account; by 0 and 6 no completion is sealed any more. Whatever the status, the state stays at each
-- number of calls
pub record StoreRecovered (status : ℕ) (old new : History) : Type 0 where
  pub grows : Grows (most_settling (present old)) Any old new
  pub faults : RisesIf (status == 4) old.faults new.faults
  pub consistent : Met Any old → status ≡ 7 → ⊥
  pub same : Met Any old → Stutters new old.called new.called
  pub settled : IsTrue old.observable → (status ≡ 0) ⊎ (status ≡ 6) → IsSettled (present new)

-- the account was settled and swept, or could not be; or nothing was done
pub data RunSweeps (before : ℕ) (keys : List ℕ) (ended : RunOutcome) (old new : History) : Type 0 where
  none_swept : new ≡ old → IsIdle keys ended → RunSweeps before keys ended old new
  was_swept : Sweeps before ended old new → RunSweeps before keys ended old new

-- the account was surveyed, or could not be; or nothing was done
pub data RunSurveys (keys : List ℕ) (ended : RunOutcome) (old new : History) : Type 0 where
  none_surveyed : new ≡ old → IsIdle keys ended → RunSurveys keys ended old new
  was_surveyed : Surveys ended old new → RunSurveys keys ended old new

-- what a run that tries the store does to it, by its exit status: 4 comes only where the store's count of faults rose, and 7 never
-- over a consistent account
pub record StoreTried (status : ℕ) (old new : History) : Type 0 where
  pub faults : status ≡ 4 → Rose old.faults new.faults
  pub consistent : Met Any old → status ≡ 7 → ⊥
