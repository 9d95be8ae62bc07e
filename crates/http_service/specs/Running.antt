-- One step of a run, and what the connections of a run do to the line. Source: this profile.
use Rattle.std.specs.Prelude.{◌≡◌, ◌<◌, ◌≤◌, ◌⊎◌, ℕ, ◌+◌, ◌-◌, ◌^◌, Bool, true, false, IsTrue, List, [], ◌++◌, replicate, Option, None, Some}
use Rattle.gate_base.specs.Causes.{Rose, RisesIf}
use Rattle.gate_base.specs.Line.{LineModel}
use Rattle.gate_base.specs.Transcript.{Transcript}
use Rattle.http_service.specs.declared.run.Stopped.{Stopped}
use Rattle.http_service.specs.declared.run.Stopped.TheVariants.{Done, Line}
use Rattle.http_service.specs.Trace.{AnswerRelation, RunCursor, ServesNext, progress}

-- the point between two connections at which a line and a state stand
abbrev pub run_cursor : {State : Type 0} → Transcript → State → RunCursor State
run_cursor line state = record { waiting = line.waiting; begun = line.begun; faulty = line.faulty; progress = progress state line.sent }

-- the next connection was served, or nothing came between
abbrev pub NextCursor : {State Note : Type 0} → (State → ℕ) → ℕ → List ℕ → AnswerRelation State Note → Option Stopped → RunCursor State → RunCursor State → Type 0
NextCursor {Note = Note} number limit memory R None old new = (notes : List Note) × ServesNext number limit memory R old notes new
NextCursor {Note = Note} number limit memory R (Some stopped) old new = new ≡ old

-- no connection is left, or as many as were asked for began
abbrev pub IsServedOut : Option ℕ → Transcript → Transcript → Type 0
IsServedOut most old new = (new.waiting ≡ []) ⊎ ((n : ℕ) × (most ≡ Some n) × (new.begun ≡ old.begun + n))

-- no more connections began than were asked for
abbrev pub BeginsAtMost : Option ℕ → Transcript → Transcript → Type 0
BeginsAtMost most old new = (n : ℕ) → most ≡ Some n → new.begun ≤ old.begun + n

-- connections began, and the line failed under none of them
pub record NoneFaulty (old new : Transcript) : Type 0 where
  pub begun : old.begun ≤ new.begun
  pub faulty : new.faulty ≡ old.faulty ++ replicate (new.begun - old.begun) false

abbrev pub is_failed_stop : Stopped → Bool
is_failed_stop Done = false
is_failed_stop Line = true

abbrev pub is_failed_next : Option Stopped → Bool
is_failed_next None = false
is_failed_next (Some stopped) = is_failed_stop stopped

-- how many connections began, by whether another did
abbrev pub begun_after : Option Stopped → ℕ → ℕ
begun_after None begun = begun + 1
begun_after (Some stopped) begun = begun

-- the next connection was served, or there is none
pub record LineServesNext (result : Option Stopped) (old new : LineModel) : Type 0 where
  pub falls : result ≡ None → 2 ^ 63 - new.spent < 2 ^ 63 - old.spent
  pub faults : old.faults ≤ new.faults
  pub next_faults : RisesIf (is_failed_next result) old.next_faults new.next_faults
  pub observable : IsTrue old.observable → IsTrue new.observable
  pub begun : IsTrue old.observable → new.transcript.begun ≡ begun_after result old.transcript.begun
  pub done : IsTrue old.observable → result ≡ Some Done → new.transcript.waiting ≡ []
  pub none_faulty : IsTrue old.observable → (Rose old.faults new.faults → ⊥) → NoneFaulty old.transcript new.transcript

-- the connections were, until there was none, or as many as were asked for had begun
pub record LineServesAll (most : Option ℕ) (stopped : Stopped) (old new : LineModel) : Type 0 where
  pub next_faults : RisesIf (is_failed_stop stopped) old.next_faults new.next_faults
  pub observable : IsTrue old.observable → IsTrue new.observable
  pub done : IsTrue old.observable → stopped ≡ Done → IsServedOut most old.transcript new.transcript
  pub within : IsTrue old.observable → BeginsAtMost most old.transcript new.transcript
  pub none_faulty : IsTrue old.observable → (Rose old.faults new.faults → ⊥) → NoneFaulty old.transcript new.transcript
