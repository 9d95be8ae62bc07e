-- The connections of a run, from the bytes that are left of each to how it ends. The definitions take as parameters the number
-- of calls that the service's store had counted, by its state; the most bytes that a body may have; the bytes that are sent where
-- memory runs out; and what is said of an answer. Source: RFC 9112 section 9 and this profile.
use Rattle.std.specs.Prelude.{◌≡◌, ◌⊎◌, ℕ, ◌+◌, ◌-◌, Bool, true, false, List, [], ◌∷◌, ◌++◌, drop, take, slice_set, if◌then◌else◌, Option, None, Some}
use Rattle.gate_base.specs.declared.outside.Piece.{Piece}
use Rattle.http_wire.specs.declared.message.Message.{Message}
use Rattle.http_wire.specs.declared.message.Kind.{Kind}
use Rattle.http_wire.specs.FirstMessage.{BeginsWith, asks, nothing, cut_short, refused}
use Rattle.http_wire.specs.Reading.{place_after}
use Rattle.http_wire.specs.Interim.{OwesInterim, SendsInterim, MaySendInterim, CutsInterim, piece_on}
use Rattle.http_service.specs.declared.received.Received.{Received}
use Rattle.http_service.specs.declared.received.Received.TheVariants as what
use Rattle.http_service.specs.declared.ended.Ended.{Ended}
use Rattle.http_service.specs.declared.ended.Ended.TheVariants.{End, Closed, CutShort, Refused, ServiceFailed, LineFailed, Memory}

-- whether the line failed under this connection
abbrev pub is_failed_end : Ended → Bool
is_failed_end End = false
is_failed_end Closed = false
is_failed_end (CutShort place) = false
is_failed_end (Refused kind place) = false
is_failed_end ServiceFailed = false
is_failed_end LineFailed = true
is_failed_end Memory = false

-- the same of an answer, behind which the connection may go on
abbrev pub is_failed_step : Option Ended → Bool
is_failed_step None = false
is_failed_step (Some ended) = is_failed_end ended

-- what is said of an answer: on which connection, to what, the state and the pieces sent before it, what is noted of it, how
-- the connection ends by it, if it does, and the state and the pieces after it. The end of a failed line says that the line
-- failed under it
abbrev pub AnswerRelation : Type 0 → Type 0 → Type 1
AnswerRelation State Note = ℕ → Received → State → List Piece → Note → Option Ended → State → List Piece → Type 0

-- what goes on from one connection to the next
pub record Progress (State : Type 0) : Type 0 where
  pub state : State
  pub sent : List Piece

-- a point between two requests of a connection: the bytes that are left, and how many came before them
pub record Cursor (State : Type 0) : Type 0 where
  pub rest : List ℕ
  pub place : ℕ
  pub progress : Progress State

-- each of these, of its parts
abbrev pub progress : {State : Type 0} → State → List Piece → Progress State
progress state sent = record { state = state; sent = sent }

abbrev pub cursor : {State : Type 0} → List ℕ → ℕ → Progress State → Cursor State
cursor rest place so_far = record { rest = rest; place = place; progress = so_far }

-- what stands first was received, and what is left behind it
pub data Receives (limit : ℕ) (all : List ℕ) (at : ℕ) (received : Received) (rest : List ℕ) (place : ℕ) : Type 0 where
  read : (message : Message) (size : ℕ) → BeginsWith limit all (asks message size) → received ≡ what.Message message
      → rest ≡ drop size all → place ≡ place_after at size → Receives limit all at received rest place
  rejected : (kind : Kind) (head : Bool) → BeginsWith limit all (refused kind head) → received ≡ what.Refused kind at head
      → rest ≡ all → place ≡ at → Receives limit all at received rest place

-- first bytes of these were sent: none, or one piece with some or all
abbrev pub CutsPiece : ℕ → ℕ → List ℕ → List Piece → List Piece → Type 0
CutsPiece connection at bytes old new = (new ≡ old) ⊎ ((n : ℕ) × (new ≡ old ++ piece_on connection at (take n bytes) ∷ []))

-- the next request was answered
pub record Serves {State Note : Type 0} (number : State → ℕ) (limit : ℕ) (R : AnswerRelation State Note) (connection : ℕ) (end : Option Ended)
    (old : Cursor State) (note : Note) (new : Cursor State) : Type 0 where
  pub received : Received
  -- the pieces sent once it was read: the interim line, before any call for it, exactly where it is owed
  pub heard : List Piece
  pub receives : Receives limit old.rest old.place received new.rest new.place
  pub owed : SendsInterim (OwesInterim limit old.rest) connection (number old.progress.state) old.progress.sent heard
  pub answers : R connection received old.progress.state heard note end new.progress.state new.progress.sent

-- any number of requests, none of which ended the connection, with what is noted of each
pub data Exchanges {State Note : Type 0} (number : State → ℕ) (limit : ℕ) (R : AnswerRelation State Note) (connection : ℕ)
    : Cursor State → List Note → Cursor State → Type 0 where
  none : (cursor : Cursor State) → Exchanges number limit R connection cursor [] cursor
  more : (old middle new : Cursor State) (notes : List Note) (note : Note) → Exchanges number limit R connection old notes middle
      → Serves number limit R connection None middle note new → Exchanges number limit R connection old (notes ++ note ∷ []) new

-- how a connection ends, from the last point before its end, with what is noted of a request that ends it
pub data Ends {State Note : Type 0} (number : State → ℕ) (limit : ℕ) (memory : List ℕ) (R : AnswerRelation State Note) (connection : ℕ)
    (ended : Ended) (last : Cursor State) (new : Progress State) : List Note → Type 0 where
  -- no byte is left
  over : ended ≡ End → BeginsWith limit last.rest nothing → new ≡ last.progress → Ends number limit memory R connection ended last new []
  -- the bytes end inside a head
  cut : ended ≡ CutShort last.place → BeginsWith limit last.rest cut_short → new ≡ last.progress → Ends number limit memory R connection ended last new []
  -- an answer ended it, or the line failed under one
  served : (cursor : Cursor State) (note : Note) → Serves number limit R connection (Some ended) last note cursor
      → new ≡ cursor.progress → Ends number limit memory R connection ended last new (note ∷ [])
  -- memory ran out while a request was read
  unread : (heard : List Piece) → ended ≡ Memory → new.state ≡ last.progress.state
      → MaySendInterim (OwesInterim limit last.rest) connection (number last.progress.state) last.progress.sent heard
      → new.sent ≡ heard ++ piece_on connection (number last.progress.state) memory ∷ [] → Ends number limit memory R connection ended last new []
  -- the line failed while a request was read
  unheard : ended ≡ LineFailed → new.state ≡ last.progress.state
      → CutsInterim (OwesInterim limit last.rest) connection (number last.progress.state) last.progress.sent new.sent → Ends number limit memory R connection ended last new []
  -- memory ran out while a request was read, and the line failed under the answer for that
  untold : (heard : List Piece) → ended ≡ LineFailed → new.state ≡ last.progress.state
      → MaySendInterim (OwesInterim limit last.rest) connection (number last.progress.state) last.progress.sent heard
      → CutsPiece connection (number last.progress.state) memory heard new.sent → Ends number limit memory R connection ended last new []

-- one connection: its requests in order, none skipped, and its end
pub record ConnectionTrace {State Note : Type 0} (number : State → ℕ) (limit : ℕ) (memory : List ℕ) (R : AnswerRelation State Note) (connection : ℕ)
    (ended : Ended) (old : Cursor State) (notes : List Note) (new : Progress State) : Type 0 where
  pub last : Cursor State
  pub before : List Note
  pub after : List Note
  pub exchanges : Exchanges number limit R connection old before last
  pub ends : Ends number limit memory R connection ended last new after
  pub all : notes ≡ before ++ after

-- ---- runs

-- a point between two connections
pub record RunCursor (State : Type 0) : Type 0 where
  -- the bytes of each connection that has not begun
  pub waiting : List (List ℕ)
  -- how many have begun, and for each whether the line failed under it
  pub begun : ℕ
  pub faulty : List Bool
  pub progress : Progress State

-- which connections were faulty, after one more, which is the last that began
abbrev pub faulty_after : List Bool → ℕ → Ended → List Bool
faulty_after faulty begun ended = if is_failed_end ended then slice_set (faulty ++ false ∷ []) (begun - 1) true else faulty ++ false ∷ []

-- the next connection was served
pub record ServesNext {State Note : Type 0} (number : State → ℕ) (limit : ℕ) (memory : List ℕ) (R : AnswerRelation State Note)
    (old : RunCursor State) (notes : List Note) (new : RunCursor State) : Type 0 where
  pub bytes : List ℕ
  pub ended : Ended
  pub waiting : old.waiting ≡ bytes ∷ new.waiting
  pub begun : new.begun ≡ old.begun + 1
  pub faulty : new.faulty ≡ faulty_after old.faulty new.begun ended
  pub trace : ConnectionTrace number limit memory R new.begun ended (cursor bytes 0 old.progress) notes new.progress

-- any number of connections, each begun where the one before it ended
pub data RunTrace {State Note : Type 0} (number : State → ℕ) (limit : ℕ) (memory : List ℕ) (R : AnswerRelation State Note)
    : RunCursor State → List Note → RunCursor State → Type 0 where
  none : (cursor : RunCursor State) → RunTrace number limit memory R cursor [] cursor
  more : (old middle new : RunCursor State) (notes next : List Note)
      → RunTrace number limit memory R old notes middle → ServesNext number limit memory R middle next new → RunTrace number limit memory R old (notes ++ next) new
