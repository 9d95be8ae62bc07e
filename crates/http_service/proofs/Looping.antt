-- A connection, request by request, over a service that goes on.
use Rattle.std.proofs.Common.{◌≡◌, ℕ, List, [], ◌∷◌, ◌++◌, false, None, Some, refl, sym, subst, inl}
use Rattle.gate_base.specs.Transcript.{Transcript}
use Rattle.http_wire.specs.Reading.{Pending}
use Rattle.http_service.specs.declared.ended.Ended.{Ended}
use Rattle.http_service.specs.Trace.{AnswerRelation, Cursor, progress, Exchanges, none, more, ConnectionTrace}
use Rattle.http_service.specs.Answering.{NextOne, EndsUnread, start_of, cursor_of}
use Rattle.http_service.proofs.Stepping.{next_unread}
use Rattle.http_service.proofs.lemmas.Within.{Within, exchanges_map}

-- ---- the requests answered since the connection began

abbrev pub Answered : {State Note : Type 0} → (State → ℕ) → ℕ → AnswerRelation State Note → ℕ → Cursor State → Cursor State → Type 0
Answered {Note = Note} number limit R connection begin present = (notes : List Note) × Exchanges number limit R connection begin notes present

module _ {State Note : Type 0} (number : State → ℕ) (limit : ℕ) (memory : List ℕ) where
  -- they are so of a service that went on
  pub answered_on : {R R' : AnswerRelation State Note} → Within R R' → (connection : ℕ) (begin present : Cursor State) → Answered number limit R connection begin present → Answered number limit R' connection begin present
  answered_on within connection begin present answered = (answered.0, exchanges_map within answered.1)

  -- one request more
  pub answered_more : (R : AnswerRelation State Note) (connection : ℕ) (begin present next : Cursor State)
      → Answered number limit R connection begin present → NextOne number limit memory R connection present None next → Answered number limit R connection begin next
  answered_more R connection begin present next answered serves = (answered.0 ++ serves.0 ∷ [], more begin present next answered.0 serves.0 answered.1 serves.1)

  -- and the end
  pub answered_ends : (R : AnswerRelation State Note) (connection : ℕ) (begin present next : Cursor State) (ended : Ended)
      → Answered number limit R connection begin present → NextOne number limit memory R connection present (Some ended) next → (notes : List Note) × ConnectionTrace number limit memory R connection ended begin notes next.progress
  answered_ends R connection begin present next ended answered ends =
      (answered.0 ++ ends.0, record { last = present; before = answered.0; after = ends.0; exchanges = answered.1; ends = ends.1; all = refl })

  -- none yet
  pub answered_none : (R : AnswerRelation State Note) (connection : ℕ) (transcript : Transcript) (state : State) (reader : Pending) → reader ≡ record { bytes = []; place = 0; ended = false }
      → Answered number limit R connection (start_of transcript state) (cursor_of reader transcript state)
  answered_none R connection transcript state reader fresh =
      subst (λ (r : Pending). Answered number limit R connection (start_of transcript state) (cursor_of r transcript state)) (sym fresh) ([], none (start_of transcript state))

  -- memory ran out before any request was read
  pub unread_at_once : (R : AnswerRelation State Note) (state : State) (transcript transcript' : Transcript) (ended : Ended) → EndsUnread (number state) memory transcript ended transcript'
      → (notes : List Note) × ConnectionTrace number limit memory R transcript.begun ended (start_of transcript state) notes (progress state transcript'.sent)
  unread_at_once R state transcript transcript' ended ends =
      let fresh : Pending = record { bytes = []; place = 0; ended = false } in
      let last = next_unread number limit memory R state transcript.begun transcript.sent fresh fresh transcript.rest transcript transcript' ended transcript.rest refl (inl refl) ends in
      (last.0, record { last = start_of transcript state; before = []; after = last.0; exchanges = none (start_of transcript state); ends = last.1; all = refl })
