-- One connection, from the bytes that are left of it to how it ends. The definitions take first what is said of replies, and
-- then the number of the connection. Source: RFC 9112 section 9 and this profile.
use Rattle.std.specs.Prelude.{◌≡◌, ◌<◌, ℕ, Bool, IsTrue, true, false, List, [], ◌∷◌, ◌++◌, drop, Option, None, Some}
use Rattle.gate_base.specs.declared.outside.Piece.{Piece}
use Rattle.gate_base.specs.declared.caller.Caller.{Caller}
use Rattle.gate_base.specs.Told.{SourceModel, GivesMoment, GivesDraw, moment_limit}
use Rattle.s3_machine.specs.declared.operation.Label.{Label}
use Rattle.gateway.specs.declared.service.Service.{Service}
use Rattle.http_wire.specs.declared.message.Message.{Message}
use Rattle.http_wire.specs.declared.message.Kind.{Kind}
use Rattle.http_wire.specs.FirstMessage.{BeginsWith, asks, nothing, cut_short, refused}
use Rattle.http_wire.specs.Reading.{place_after}
use Rattle.http_wire.specs.Interim.{OwesInterim, SendsInterim, MaySendInterim, CutsInterim}
use Rattle.http_wire.specs.Print.{memory_reply}
use Rattle.gateway.specs.declared.ended.Ended.{Ended}
use Rattle.gateway.specs.declared.ended.Ended.TheVariants.{End, Closed, CutShort, Refused, LineFailed, StoreFailed, Inconsistent, Memory}
use Rattle.gateway.specs.Request.{Request, request_of, refused_request}
use Rattle.gateway.specs.Exchange.{ReplyRelation, StoreCursor, Span, Exchange, CutExchange, PartExchange, Sends, SendsPart}

-- what goes on from one connection to the next
pub record Progress : Type 0 where
  -- the store
  pub store : StoreCursor
  -- the moments and the draws still to come
  pub moments : List ℕ
  pub draws : List ℕ
  -- the pieces sent
  pub sent : List Piece

abbrev pub progress : StoreCursor → List ℕ → List ℕ → List Piece → Progress
progress store moments draws sent = record { store = store; moments = moments; draws = draws; sent = sent }

-- a point between two requests of a connection
pub record ConnectionCursor : Type 0 where
  -- the bytes that are left, and how many came before them
  pub rest : List ℕ
  pub place : ℕ
  pub progress : Progress

abbrev pub cursor : List ℕ → ℕ → Progress → ConnectionCursor
cursor rest place so_far = record { rest = rest; place = place; progress = so_far }

-- the request that stands first, as it is resolved at a moment, and what is left behind it
pub data Resolves (service : Service) (moment : ℕ) (old : ConnectionCursor) (request : Request) (rest : List ℕ) (place : ℕ) : Type 0 where
  read : (message : Message) (size : ℕ) → BeginsWith service.settings.largest_body old.rest (asks message size) → request ≡ request_of service moment message
      → rest ≡ drop size old.rest → place ≡ place_after old.place size → Resolves service moment old request rest place
  rejected : (kind : Kind) (head : Bool) → BeginsWith service.settings.largest_body old.rest (refused kind head) → request ≡ refused_request kind old.place head
      → rest ≡ old.rest → place ≡ old.place → Resolves service moment old request rest place

-- the label of a request: its caller, the next moment, and the next two draws as its id and its word of chance
pub record LabelGiven (moments draws moments' draws' : List ℕ) (from : Caller) (label : Label) : Type 0 where
  pub between : List ℕ
  pub caller : label.caller ≡ from
  pub moment : GivesMoment moments label.moment moments'
  pub id : GivesDraw draws label.request_id between
  pub draw : GivesDraw between label.draw draws'

-- the label with this caller
abbrev pub sent_by : Caller → Label → Label
sent_by caller label = record label { caller = caller }

-- a clock and a source of draws gave what a label has but for its caller
pub record NextLabel (clock draws clock' draws' : SourceModel) (next : Label) : Type 0 where
  pub moment : next.moment < moment_limit
  pub clock_observable : IsTrue clock.observable → IsTrue clock'.observable
  pub draws_observable : IsTrue draws.observable → IsTrue draws'.observable
  pub effect : IsTrue clock.observable → IsTrue draws.observable → (from : Caller)
      → LabelGiven clock.values draws.values clock'.values draws'.values from (sent_by from next)

abbrev pub Labels : Progress → Progress → Caller → Label → Type 0
Labels old new from label = LabelGiven old.moments old.draws new.moments new.draws from label

-- the interim line was sent for what comes first, before any call for it, exactly where it is owed
abbrev pub OwedIsSent : Service → ℕ → ConnectionCursor → List Piece → Type 0
OwedIsSent service connection old heard = SendsInterim (OwesInterim service.settings.largest_body old.rest) connection old.progress.store.number old.progress.sent heard

-- memory ran out while the first was read: the line was sent, or not, where it is owed
abbrev pub OwedMayBeSent : Service → ℕ → ConnectionCursor → List Piece → Type 0
OwedMayBeSent service connection old heard = MaySendInterim (OwesInterim service.settings.largest_body old.rest) connection old.progress.store.number old.progress.sent heard

-- the line failed while the first was read: first bytes of it were sent, or none, where it is owed
abbrev pub OwedIsCut : Service → ℕ → ConnectionCursor → List Piece → Type 0
OwedIsCut service connection old heard = CutsInterim (OwesInterim service.settings.largest_body old.rest) connection old.progress.store.number old.progress.sent heard

-- the next request was resolved and answered in whole
pub record Serves (service : Service) (R : ReplyRelation) (connection : ℕ) (end : Option Ended)
    (old : ConnectionCursor) (span : Span) (new : ConnectionCursor) : Type 0 where
  pub request : Request
  pub label : Label
  -- the pieces sent once it was read
  pub heard : List Piece
  pub resolves : Resolves service label.moment old request new.rest new.place
  pub owed : OwedIsSent service connection old heard
  pub labels : Labels old.progress new.progress request.caller label
  pub exchange : Exchange R connection old.progress.store span new.progress.store request label end heard new.progress.sent

-- any number of requests, none of which ended the connection, with their spans
pub data Exchanges (service : Service) (R : ReplyRelation) (connection : ℕ) : ConnectionCursor → List Span → ConnectionCursor → Type 0 where
  none : (cursor : ConnectionCursor) → Exchanges service R connection cursor [] cursor
  more : (old middle new : ConnectionCursor) (spans : List Span) (span : Span) → Exchanges service R connection old spans middle
      → Serves service R connection None middle span new
      → Exchanges service R connection old (spans ++ span ∷ []) new

-- the next request was resolved and answered, and the line failed under its reply
pub record Breaks (service : Service) (R : ReplyRelation) (connection : ℕ) (old : ConnectionCursor) (span : Span) (new : Progress) : Type 0 where
  pub request : Request
  pub label : Label
  pub rest : List ℕ
  pub place : ℕ
  pub heard : List Piece
  pub resolves : Resolves service label.moment old request rest place
  pub owed : OwedIsSent service connection old heard
  pub labels : Labels old.progress new request.caller label
  pub exchange : CutExchange R connection old.progress.store span new.store request label heard new.sent

-- the next request was resolved and answered, and the read that it was broke off
pub record Parts (service : Service) (R : ReplyRelation) (connection : ℕ) (ended : Ended) (old : ConnectionCursor) (span : Span) (new : Progress) : Type 0 where
  pub request : Request
  pub label : Label
  pub rest : List ℕ
  pub place : ℕ
  pub heard : List Piece
  pub resolves : Resolves service label.moment old request rest place
  pub owed : OwedIsSent service connection old heard
  pub labels : Labels old.progress new request.caller label
  pub exchange : PartExchange R connection old.progress.store span new.store request label ended heard new.sent

-- of the progress only the pieces sent may differ
pub record OnlySent (old new : Progress) : Type 0 where
  pub store : new.store ≡ old.store
  pub moments : new.moments ≡ old.moments
  pub draws : new.draws ≡ old.draws

-- how a connection ends, from the last point before its end, with the span of a request that ends it
pub data Ends (service : Service) (R : ReplyRelation) (connection : ℕ) (ended : Ended) (last : ConnectionCursor) (new : Progress) : List Span → Type 0 where
  -- no byte is left
  over : ended ≡ End → BeginsWith service.settings.largest_body last.rest nothing → new ≡ last.progress → Ends service R connection ended last new []
  -- the bytes end inside a head
  cut : ended ≡ CutShort last.place → BeginsWith service.settings.largest_body last.rest cut_short → new ≡ last.progress → Ends service R connection ended last new []
  -- a reply ended it
  served : (cursor : ConnectionCursor) (span : Span) → Serves service R connection (Some ended) last span cursor
      → new ≡ cursor.progress → Ends service R connection ended last new (span ∷ [])
  -- memory ran out while a request was read
  unread : (heard : List Piece) → ended ≡ Memory → OnlySent last.progress new → OwedMayBeSent service connection last heard
      → Sends connection last.progress.store.number last.progress.store.number (memory_reply false) heard new.sent
      → Ends service R connection ended last new []
  -- the line failed while a request was read
  unheard : ended ≡ LineFailed → OnlySent last.progress new → OwedIsCut service connection last new.sent → Ends service R connection ended last new []
  -- memory ran out while a request was read, and the line failed under the reply for that
  untold : (heard : List Piece) → ended ≡ LineFailed → OnlySent last.progress new → OwedMayBeSent service connection last heard
      → SendsPart connection last.progress.store.number last.progress.store.number (memory_reply false) heard new.sent
      → Ends service R connection ended last new []
  -- the line failed under the reply to a request
  broken : (span : Span) → ended ≡ LineFailed → Breaks service R connection last span new → Ends service R connection ended last new (span ∷ [])
  -- a read broke off
  parted : (span : Span) → Parts service R connection ended last span new → Ends service R connection ended last new (span ∷ [])

-- one connection: its requests in order, none skipped, with their spans, and its end
pub record ConnectionTrace (service : Service) (R : ReplyRelation) (connection : ℕ) (ended : Ended)
    (old : ConnectionCursor) (spans : List Span) (new : Progress) : Type 0 where
  pub last : ConnectionCursor
  pub before : List Span
  pub after : List Span
  pub exchanges : Exchanges service R connection old before last
  pub ends : Ends service R connection ended last new after
  pub all : spans ≡ before ++ after

-- whether the line failed under this connection
abbrev pub is_failed_end : Ended → Bool
is_failed_end End = false
is_failed_end Closed = false
is_failed_end (CutShort place) = false
is_failed_end (Refused kind place) = false
is_failed_end LineFailed = true
is_failed_end StoreFailed = false
is_failed_end (Inconsistent container name) = false
is_failed_end Memory = false

-- whether a read broke off because the store failed or was found inconsistent
abbrev pub is_store_end : Ended → Bool
is_store_end End = false
is_store_end Closed = false
is_store_end (CutShort place) = false
is_store_end (Refused kind place) = false
is_store_end LineFailed = false
is_store_end StoreFailed = true
is_store_end (Inconsistent container name) = true
is_store_end Memory = false
