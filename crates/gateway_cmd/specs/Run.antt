-- A whole run: the connections of the line, in order, none skipped. Source: this profile.
use Rattle.std.specs.Prelude.{◌≡◌, ℕ, ◌+◌, ◌-◌, Bool, true, false, List, [], ◌∷◌, ◌++◌, slice_set, if◌then◌else◌}
use Rattle.s3_machine.specs.declared.operation.Settings.{Settings}
use Rattle.account_calls.specs.declared.state.Known.{Known}
use Rattle.gateway.specs.declared.service.Service.{Service}
use Rattle.swift_calls.specs.History.{History}
use Rattle.gateway.specs.declared.ended.Ended.{Ended}
use Rattle.gateway.specs.Exchange.{ReplyRelation, Span, Replies, RepliesAny}
use Rattle.gateway.specs.Connection.{Progress, ConnectionTrace, is_failed_end}
use Rattle.gateway.specs.World.{World, progress_of}
use Rattle.gateway.specs.Stands.{Follows, AllPass, StandsThroughout}

-- a point between two connections
pub record RunCursor : Type 0 where
  -- the bytes of each connection that has not begun
  pub waiting : List (List ℕ)
  -- how many have begun, and for each whether the line failed under it
  pub begun : ℕ
  pub faulty : List Bool
  pub progress : Progress

abbrev pub run_cursor_of : World → RunCursor
run_cursor_of w = record { waiting = w.line.transcript.waiting; begun = w.line.transcript.begun; faulty = w.line.transcript.faulty; progress = progress_of w }

-- which connections were faulty, after one more, which is the last that began
abbrev pub faulty_after : List Bool → ℕ → Ended → List Bool
faulty_after faulty begun ended = if is_failed_end ended then slice_set (faulty ++ false ∷ []) (begun - 1) true else faulty ++ false ∷ []

-- the next connection was served
pub record ServesNext (service : Service) (R : ReplyRelation) (old : RunCursor) (spans : List Span) (new : RunCursor) : Type 0 where
  pub bytes : List ℕ
  pub ended : Ended
  pub waiting : old.waiting ≡ bytes ∷ new.waiting
  pub begun : new.begun ≡ old.begun + 1
  pub faulty : new.faulty ≡ faulty_after old.faulty new.begun ended
  pub trace : ConnectionTrace service R new.begun ended (record { rest = bytes; place = 0; progress = old.progress }) spans new.progress

-- any number of connections, each begun where the one before it ended, with the spans of all their requests
pub data RunTrace (service : Service) (R : ReplyRelation) : RunCursor → List Span → RunCursor → Type 0 where
  none : (cursor : RunCursor) → RunTrace service R cursor [] cursor
  more : (old middle new : RunCursor) (spans next : List Span)
      → RunTrace service R old spans middle → ServesNext service R middle next new → RunTrace service R old (spans ++ next) new

-- they were, with some spans
abbrev pub RunTraces : Service → ReplyRelation → World → World → Type 0
RunTraces service R old new = (spans : List Span) × RunTrace service R (run_cursor_of old) spans (run_cursor_of new)

-- ---- what a run promises

-- what is known of the store at a run's end is the run's own; the world is then that

-- over every store: it is a trace, in which a request without an operation gets its code without a call
pub record RunTraced (service : Service) (old : World) (new : Known → World) : Type 0 where
  pub known : Known
  pub spans : List Span
  pub trace : RunTrace service RepliesAny (run_cursor_of old) spans (run_cursor_of (new known))
  pub follows : Follows old.store.called spans (new known).store.called

-- over an observable store, whose account was consistent at entry: it is a trace by the machine's replies, and at each number
-- of calls the account is one that the request which has the number goes through
pub record RunRefines (service : Service) (h : History) (old : World) (new : Known → World) : Type 0 where
  pub known : Known
  pub spans : List Span
  pub trace : RunTrace service (Replies service.settings h) (run_cursor_of old) spans (run_cursor_of (new known))
  pub follows : Follows old.store.called spans (new known).store.called
  pub passes : AllPass service.settings h spans
  pub stands : StandsThroughout service.settings h spans old.store.called (new known).store.called

-- over such a store, whatever the line tells: requests were answered, and the account went through their steps
pub record RunStands (settings : Settings) (h : History) (entry exit : ℕ) : Type 0 where
  pub spans : List Span
  pub follows : Follows entry spans exit
  pub passes : AllPass settings h spans
  pub stands : StandsThroughout settings h spans entry exit
