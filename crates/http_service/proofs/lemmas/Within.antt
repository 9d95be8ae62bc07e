-- A trace by one relation of answers is one by each wider relation.
use Rattle.std.specs.Prelude.{ℕ, List, Option}
use Rattle.gate_base.specs.declared.outside.Piece.{Piece}
use Rattle.http_service.specs.declared.received.Received.{Received}
use Rattle.http_service.specs.declared.ended.Ended.{Ended}
use Rattle.http_service.specs.Trace.{AnswerRelation, Progress, Cursor, Serves, Exchanges, Ends, over, cut, served, unread, unheard, untold, ConnectionTrace, RunCursor, ServesNext, RunTrace}
use Rattle.http_service.specs.Trace as steps

-- one relation of answers is within another
abbrev pub Within : {State Note : Type 0} → AnswerRelation State Note → AnswerRelation State Note → Type 0
Within {State = State} {Note = Note} R R' = (connection : ℕ) → (received : Received) → (s : State) → (sent : List Piece) → (note : Note) → (end : Option Ended) → (s' : State) → (sent' : List Piece)
    → R connection received s sent note end s' sent' → R' connection received s sent note end s' sent'

module _ {State Note : Type 0} {number : State → ℕ} {limit : ℕ} {R R' : AnswerRelation State Note} (within : Within R R') where
  pub serves_map : {connection : ℕ} {end : Option Ended} {old new : Cursor State} {note : Note} → Serves number limit R connection end old note new → Serves number limit R' connection end old note new
  serves_map {connection = connection} {end = end} {old = old} {new = new} {note = note} s = record {
    received = s.received;
    heard = s.heard;
    receives = s.receives;
    owed = s.owed;
    answers = within connection s.received old.progress.state s.heard note end new.progress.state new.progress.sent s.answers;
  }

  pub exchanges_map : {connection : ℕ} {old new : Cursor State} {notes : List Note} → Exchanges number limit R connection old notes new → Exchanges number limit R' connection old notes new
  exchanges_map (steps.none here) = steps.none here
  exchanges_map (steps.more old middle new notes note exchanges serves) = steps.more old middle new notes note (exchanges_map exchanges) (serves_map serves)

  pub ends_map : {memory : List ℕ} {connection : ℕ} {ended : Ended} {last : Cursor State} {new : Progress State} {notes : List Note} → Ends number limit memory R connection ended last new notes → Ends number limit memory R' connection ended last new notes
  ends_map (over is front same) = over is front same
  ends_map (cut is front same) = cut is front same
  ends_map (served here note serves same) = served here note (serves_map serves) same
  ends_map (unread heard is same owed sent) = unread heard is same owed sent
  ends_map (unheard is same owed) = unheard is same owed
  ends_map (untold heard is same owed sent) = untold heard is same owed sent

  pub connection_map : {memory : List ℕ} {connection : ℕ} {ended : Ended} {old : Cursor State} {new : Progress State} {notes : List Note} → ConnectionTrace number limit memory R connection ended old notes new → ConnectionTrace number limit memory R' connection ended old notes new
  connection_map whole = record { last = whole.last; before = whole.before; after = whole.after; exchanges = exchanges_map whole.exchanges; ends = ends_map whole.ends; all = whole.all }

module _ {State Note : Type 0} {number : State → ℕ} {limit : ℕ} {memory : List ℕ} {R R' : AnswerRelation State Note} (within : Within R R') where
  pub next_map : {old new : RunCursor State} {notes : List Note} → ServesNext number limit memory R old notes new → ServesNext number limit memory R' old notes new
  next_map next = record { bytes = next.bytes; ended = next.ended; waiting = next.waiting; begun = next.begun; faulty = next.faulty; trace = connection_map within next.trace }

  pub run_map : {old new : RunCursor State} {notes : List Note} → RunTrace number limit memory R old notes new → RunTrace number limit memory R' old notes new
  run_map (steps.none here) = steps.none here
  run_map (steps.more old middle new notes next before serves) = steps.more old middle new notes next (run_map before) (next_map serves)
