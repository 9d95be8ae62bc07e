-- A run, connection by connection, over a service that goes on.
use Rattle.std.proofs.Common.{◌≡◌, ◌++◌, ◌∷◌, ℕ, true, List, None, Some, sym, ap, subst, ◌∙◌}
use Rattle.gate_base.specs.Line.{TranscriptServes}
use Rattle.gate_base.specs.Transcript.{Transcript, Begins}
use Rattle.gate_base.specs.declared.outside.Piece.{Piece}
use Rattle.http_service.specs.declared.ended.Ended.{Ended}
use Rattle.http_service.specs.declared.run.Stopped.{Stopped}
use Rattle.http_service.specs.Trace.{AnswerRelation, RunCursor, RunTrace, more, ConnectionTrace, progress, cursor, is_failed_end}
use Rattle.http_service.specs.Answering.{start_of}
use Rattle.http_service.specs.Running.{run_cursor, NextCursor}
use Rattle.http_service.proofs.lemmas.NoneFaulty.{faulty_then}
use Rattle.http_service.proofs.lemmas.Within.{Within, run_map}

abbrev pub Served : {State Note : Type 0} → (State → ℕ) → ℕ → List ℕ → AnswerRelation State Note → RunCursor State → RunCursor State → Type 0
Served {Note = Note} number limit memory R begin present = (notes : List Note) × RunTrace number limit memory R begin notes present

module _ {State Note : Type 0} (number : State → ℕ) (limit : ℕ) (memory : List ℕ) where
  -- they are so of a service that went on
  pub served_on : {R R' : AnswerRelation State Note} → Within R R' → (begin present : RunCursor State) → Served number limit memory R begin present → Served number limit memory R' begin present
  served_on within begin present served = (served.0, run_map within served.1)

  -- one connection more
  pub served_more : (R : AnswerRelation State Note) (begin present next : RunCursor State) → Served number limit memory R begin present → NextCursor number limit memory R None present next → Served number limit memory R begin next
  served_more R begin present next served one = (served.0 ++ one.0, more begin present next served.0 one.0 served.1 one.1)

  -- nothing more
  pub served_end : (R : AnswerRelation State Note) (begin present next : RunCursor State) (stopped : Stopped) → Served number limit memory R begin present → NextCursor number limit memory R (Some stopped) present next → Served number limit memory R begin next
  served_end R begin present next stopped served same = (served.0, subst (RunTrace number limit memory R begin served.0) (sym same) served.1)

  -- a connection that began was served
  pub next_served : (R : AnswerRelation State Note) (old middle new : Transcript) (state state' : State) (ended : Ended)
      → Begins true old middle → TranscriptServes (is_failed_end ended) middle new
      → ((notes : List Note) × ConnectionTrace number limit memory R middle.begun ended (start_of middle state) notes (progress state' new.sent))
      → NextCursor number limit memory R None (run_cursor old state) (run_cursor new state')
  next_served R old middle new state state' ended begins serves trace =
      let P : (ℕ × List Piece) → Type 0 = λ x. ConnectionTrace number limit memory R x.0 ended (cursor middle.rest 0 (progress state x.1)) trace.0 (progress state' new.sent) in (
        trace.0,
        record {
          bytes = middle.rest;
          ended = ended;
          waiting = begins.0 ∙ ap (λ w. middle.rest ∷ w) (sym serves.waiting);
          begun = serves.begun ∙ begins.1;
          faulty = faulty_then (is_failed_end ended) old.faulty middle.faulty new.faulty middle.begun new.begun begins.3 serves.begun serves.faulty;
          trace = subst P (λ i. (sym serves.begun i, begins.2 i)) trace.1;
        },
      )

-- none began
pub next_none : {State : Type 0} (old new : Transcript) (state : State) → new ≡ old → run_cursor new state ≡ run_cursor old state
next_none old new state same = ap (λ w. run_cursor w state) same
