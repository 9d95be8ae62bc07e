-- One request with its reply. What is said of the reply is a relation of the store cursors before and after it. Source: this profile.
use Rattle.std.specs.Prelude.{◌≡◌, ◌≢◌, ◌⊎◌, ◌≤◌, ℕ, ◌+◌, Bool, true, false, IsTrue, List, [], ◌∷◌, ◌++◌, length, All, flat_map, Option, Some, None}
use Rattle.gate_base.specs.Causes.{Rose}
use Rattle.gate_base.specs.declared.outside.Piece.{Piece}
use Rattle.gate_base.specs.declared.page.Pair.{Pair}
use Rattle.s3_machine.specs.declared.code.Code.{Code}
use Rattle.s3_machine.specs.declared.code.Code.TheVariants.{ServiceUnavailable, InconsistentStore}
use Rattle.s3_machine.specs.declared.operation.Label.{Label}
use Rattle.s3_machine.specs.declared.operation.Settings.{Settings}
use Rattle.s3_machine.specs.declared.operation.Op.{Op}
use Rattle.s3_machine.specs.declared.operation.Op.TheVariants as op_as
use Rattle.s3_machine.specs.Ops as op
use Rattle.s3_machine.specs.declared.operation.Reply.{Reply}
use Rattle.s3_machine.specs.declared.operation.ObjectHead.{ObjectHead}
use Rattle.s3_machine.specs.declared.reading.Conditions.{Conditions}
use Rattle.s3_machine.specs.declared.reading.Range.{Range}
use Rattle.s3_machine.specs.declared.operation.Reply.TheVariants.{Refused, Memory}
use Rattle.s3_machine.specs.Replies.{Object}
use Rattle.s3_machine.specs.Shown.{IsShowable}
use Rattle.swift_calls.specs.History.{History, budget, present}
use Rattle.upload_records.specs.Native.{IsSettled}
use Rattle.upload_records.specs.Consistent.{IsConsistent}
use Rattle.account_calls.specs.declared.state.Known.{Known}
use Rattle.account_calls.specs.declared.state.Known.TheVariants as known
use Rattle.account_calls.specs.Answers.{Answers, SaysBeside, beside_of, most_calls, most_settling, steps_of, may_leave_unsure}
use Rattle.account_calls.specs.Calls.{GoesOn, Met, amount}
use Rattle.account_calls.specs.Known.{IsKnown}
use Rattle.account_calls.specs.Refusals.{IsWithinShown, most_refused}
use Rattle.account_calls.specs.Stutters.{Stutters, LastFailed}
use Rattle.planner.specs.Reading.{GivesNoByte, ReadsBytes}
use Rattle.http_wire.specs.FirstMessage.{is_head}
use Rattle.http_wire.specs.Print.{memory_reply}
use Rattle.gateway.specs.declared.ended.Ended.{Ended}
use Rattle.gateway.specs.declared.ended.Ended.TheVariants as ended
use Rattle.s3_requests.specs.declared.meant.Meant.{Meant}
use Rattle.s3_requests.specs.declared.meant.Meant.TheVariants as meant
use Rattle.gateway.specs.Request.{Request, print}
use Rattle.s3_machine.specs.Proper.{IsProperCode}

-- ---- between two requests

-- the store between two requests: the calls that it has counted, the faults that it counts itself, whether it tells or not,
-- and what is known of it
pub record StoreCursor : Type 0 where
  pub number : ℕ
  pub faults : ℕ
  pub known : Known

abbrev pub store_cursor : History → Known → StoreCursor
store_cursor h known = record { number = h.called; faults = h.faults; known = known }

-- what a store cursor says is known holds of the account at its number
abbrev pub IsKnownOf : History → StoreCursor → Type 0
IsKnownOf h m = IsKnown m.known (h.account_at m.number)

-- ---- one request

-- an operation with its label
pub record Asked : Type 0 where
  pub op : Op
  pub label : Label

abbrev pub asked_by : Meant → Label → Option Asked
asked_by (meant.Op op) label = Some (record { op = op; label = label })
asked_by (meant.Refused code) label = None
asked_by meant.Memory label = None

-- the span of one request: how many calls the store had counted before it, as its operation began on a store that was
-- settled by then, at its commit point, and after it; its operation, none where the request is refused with a code; and how many of
-- its operation's steps the account took
pub record Span : Type 0 where
  pub from : ℕ
  pub begins : ℕ
  pub committed : ℕ
  pub to : ℕ
  pub asked : Option Asked
  pub takes : ℕ

-- what is said of a reply: of the store cursor before the request, its span, the store cursor after it, the request, its label and the reply
abbrev pub ReplyRelation : Type 1
ReplyRelation = StoreCursor → Span → StoreCursor → Request → Label → Reply → Type 0

-- the span of a request that asks for this, between two store cursors
pub record IsSpan (old : StoreCursor) (span : Span) (new : StoreCursor) (asks : Option Asked) : Type 0 where
  pub from : span.from ≡ old.number
  pub settles : span.from ≤ span.begins
  pub first : span.begins ≤ span.committed
  pub last : span.committed ≤ span.to
  pub to : span.to ≡ new.number
  pub asked : span.asked ≡ asks
  -- no call makes the count of faults fall
  pub faults : old.faults ≤ new.faults

-- the calls by which the store was settled before an operation, none where it was known to be: they left the state, none of
-- them failed, and no completion is sealed after them
pub record SettledBy (h : History) (was : Known) (from begins : ℕ) : Type 0 where
  pub needs_none : was ≡ known.Settled → begins ≡ from
  pub quiet : Stutters h from begins
  pub no_fault : h.faults_at begins ≡ h.faults_at from
  pub within : begins ≤ from + amount (most_settling (h.account_at from))
  pub settled : IsSettled (h.account_at begins)

-- the calls by which the store should have been settled: they left the state, and the last one failed, or memory ran out
pub record NotSettledBy (h : History) (was : Known) (from to : ℕ) (reply : Reply) : Type 0 where
  pub needs_some : was ≡ known.Unsure
  pub quiet : Stutters h from to
  pub within : to ≤ from + amount (most_settling (h.account_at from))
  pub says : ((reply ≡ Refused ServiceUnavailable) × LastFailed h from to) ⊎ (reply ≡ Memory)

-- the replies of a store that failed or is inconsistent, or of a service that ran out of memory
abbrev pub IsFault : Reply → Type 0
IsFault reply = (reply ≡ Refused ServiceUnavailable) ⊎ ((reply ≡ Refused InconsistentStore) ⊎ (reply ≡ Memory))

-- the causes of a reply to an operation, over every store: ServiceUnavailable comes only where the store's own count of faults
-- rose; a refusal stops at the call that shows it, where the store was known to be settled; the store isn't known to be settled
-- afterwards only where it wasn't before and the reply is one of a fault, or where the operation leaves it so; and the reply gives a
-- byte of an object only where the operation reads one
pub record IsCaused (old new : StoreCursor) (op : Op) (reply : Reply) : Type 0 where
  pub unavailable : reply ≡ Refused ServiceUnavailable → Rose old.faults new.faults
  pub stops : old.known ≡ known.Settled → IsWithinShown (most_refused op reply) old.number new.number
  pub unsure : new.known ≡ known.Unsure → ((old.known ≡ known.Unsure) × IsFault reply) ⊎ (may_leave_unsure op reply ≡ true)
  pub bodiless : GivesNoByte reply ⊎ ReadsBytes op

-- what is said of the reply to an operation, over an observable store: the store could not be settled; or it was, and the
-- operation is answered, with no more calls than it may make, and of a refusal no more than show it
pub data Performs (settings : Settings) (h : History) (old : StoreCursor) (span : Span) (new : StoreCursor)
    (op : Op) (label : Label) (reply : Reply) : Type 0 where
  unsettled : NotSettledBy h old.known old.number new.number reply → span.begins ≡ new.number → span.takes ≡ 0 → Performs settings h old span new op label reply
  answered : SettledBy h old.known old.number span.begins → Answers settings h span.begins span.committed new.number op label span.takes reply
      → SaysBeside (beside_of op) label h span.begins new.number reply → new.number ≤ span.begins + amount (most_calls op (h.account_at span.begins))
      → IsWithinShown (most_refused op reply) span.begins new.number → Performs settings h old span new op label reply

-- what is said of the reply to a request, over an observable store: the code of one that is no operation, without any call;
-- or what its operation is answered
pub data Replies (settings : Settings) (h : History) (old : StoreCursor) (span : Span) (new : StoreCursor)
    (request : Request) (label : Label) (reply : Reply) : Type 0 where
  refused : (code : Code) → request.means ≡ meant.Refused code → reply ≡ Refused code → IsProperCode code → IsConsistent (h.account_at old.number)
      → new ≡ old → span.takes ≡ 0 → Replies settings h old span new request label reply
  performed : (op : Op) → request.means ≡ meant.Op op → Performs settings h old span new op label reply
      → IsCaused old new op reply → IsKnownOf h new → Replies settings h old span new request label reply

-- and over every store: the same code, without any call; or some reply to the operation
pub data RepliesAny (old : StoreCursor) (span : Span) (new : StoreCursor) (request : Request) (label : Label) (reply : Reply) : Type 0 where
  refused_any : (code : Code) → request.means ≡ meant.Refused code → reply ≡ Refused code → IsProperCode code → new ≡ old
      → RepliesAny old span new request label reply
  performed_any : (op : Op) → request.means ≡ meant.Op op → IsCaused old new op reply → RepliesAny old span new request label reply

-- what is said of replies: of an observable store, or of every store
abbrev pub RepliesBy : Bool → Settings → History → ReplyRelation
RepliesBy true settings h = Replies settings h
RepliesBy false settings h = RepliesAny

-- a reply other than ServiceUnavailable
pub record FaultFreeReplies (R : ReplyRelation) (old : StoreCursor) (span : Span) (new : StoreCursor)
    (request : Request) (label : Label) (reply : Reply) : Type 0 where
  pub replies : R old span new request label reply
  pub available : reply ≢ Refused ServiceUnavailable

-- a reply; and an operation that the service itself answered took all its steps
pub record CountedReplies (R : ReplyRelation) (old : StoreCursor) (span : Span) (new : StoreCursor)
    (request : Request) (label : Label) (reply : Reply) : Type 0 where
  pub replies : R old span new request label reply
  pub counted : (op : Op) → request.means ≡ meant.Op op → reply ≢ Memory → reply ≢ Refused ServiceUnavailable → span.takes ≡ steps_of op

-- P is a premise of what is said over an observable store (true), and not of what is said over every store (false)
abbrev pub Where : Bool → Type 0 → Type 0
Where true P = P
Where false P = Unit {0}

-- the bytes that are expected, and how the connection ends after them: the reply in print, or the out-of-memory reply, which
-- ends it
pub data ExpectedBytes (request : Request) (label : Label) (reply : Reply) (end : Option Ended) (bytes : List ℕ) : Type 0 where
  printed : reply ≢ Memory → bytes ≡ print reply label request → end ≡ request.end → ExpectedBytes request label reply end bytes
  out_of_memory : bytes ≡ memory_reply (is_head request.method) → end ≡ Some ended.Memory → ExpectedBytes request label reply end bytes

-- a piece of this connection, sent after at least t and at most q calls
pub record IsPiece (connection t q : ℕ) (piece : Piece) : Type 0 where
  pub on : piece.connection ≡ connection
  pub since : t ≤ piece.at
  pub until : piece.at ≤ q

abbrev pub joined : List Piece → List ℕ
joined pieces = flat_map (λ piece. piece.bytes) pieces

-- all the bytes were sent, the last of them after q calls
pub record Sends (connection t q : ℕ) (bytes : List ℕ) (old new : List Piece) : Type 0 where
  pub first : List Piece
  pub last : Piece
  pub sent : new ≡ old ++ (first ++ last ∷ [])
  pub whole : joined (first ++ last ∷ []) ≡ bytes
  pub each : All (IsPiece connection t q) (first ++ last ∷ [])
  pub ends : last.at ≡ q

-- first bytes of them were sent: some, none or all
pub record SendsPart (connection t q : ℕ) (bytes : List ℕ) (old new : List Piece) : Type 0 where
  pub pieces : List Piece
  pub unsent : List ℕ
  pub sent : new ≡ old ++ pieces
  pub part : joined pieces ++ unsent ≡ bytes
  pub each : All (IsPiece connection t q) pieces

-- the request reads an object
abbrev pub AsksBytes : Meant → Type 0
AsksBytes means = (bucket : List ℕ) × (key : List ℕ) × (range : Option Range) × (conditions : Conditions) × (part : Option ℕ) × (shown : List Pair)
    × (means ≡ meant.Op (op.GetObject bucket key range conditions part shown))

-- the reply has these bytes as its body
abbrev pub IsRead : Reply → List ℕ → Type 0
IsRead reply body = (head : ObjectHead) × (from : ℕ) × (length : ℕ) × (partial : Bool) × (shown : List Pair) × (parts : Option ℕ)
    × (reply ≡ Object head from length partial body shown parts)

-- pieces of a body, one for each number of calls from n on, each of at most 1 MiB
unfoldable pub Paced : ℕ → List Piece → Type 0
Paced n [] = Unit {0}
Paced n (piece ∷ pieces) = (piece.at ≡ n) × (length piece.bytes ≤ 1048576) × Paced (n + 1) pieces

-- the head was sent as one piece, and then bytes of the body as pieces, one for each call
pub record SendsPieces (connection t q : ℕ) (head body : List ℕ) (old new : List Piece) : Type 0 where
  pub first : Piece
  pub others : List Piece
  pub sent : new ≡ old ++ (first ∷ others)
  pub each : All (IsPiece connection t q) (first ∷ others)
  pub of_head : first.bytes ≡ head
  pub of_body : joined others ≡ body
  pub paced : Paced (first.at + 1) others

-- where the request reads an object and the reply has bytes of it as its body: the head was sent as one piece, and behind it the
-- body in pieces, the i-th after i calls more, so that none was sent later than the next was got
abbrev pub ReadIsPaced : ℕ → ℕ → ℕ → Meant → Reply → List ℕ → List Piece → List Piece → Type 0
ReadIsPaced connection t q means reply bytes old new =
    (body : List ℕ) → AsksBytes means → IsRead reply body → (head : List ℕ) × (bytes ≡ head ++ body) × SendsPieces connection t q head body old new

-- a request was answered, and the bytes of its reply were all sent; R is what is said of the reply
pub record Exchange (R : ReplyRelation) (connection : ℕ) (old : StoreCursor) (span : Span) (new : StoreCursor) (request : Request) (label : Label)
    (end : Option Ended) (sent sent' : List Piece) : Type 0 where
  pub reply : Reply
  pub bytes : List ℕ
  pub is_span : IsSpan old span new (asked_by request.means label)
  pub replies : R old span new request label reply
  pub due : ExpectedBytes request label reply end bytes
  pub sends : Sends connection span.committed new.number bytes sent sent'
  -- unless it is the out-of-memory reply that was sent, a read is sent as its bytes come
  pub paced : end ≢ Some ended.Memory → ReadIsPaced connection span.committed new.number request.means reply bytes sent sent'

-- a request was answered, and the line failed while the reply was written
pub record CutExchange (R : ReplyRelation) (connection : ℕ) (old : StoreCursor) (span : Span) (new : StoreCursor) (request : Request) (label : Label)
    (sent sent' : List Piece) : Type 0 where
  pub reply : Reply
  pub end : Option Ended
  pub bytes : List ℕ
  pub is_span : IsSpan old span new (asked_by request.means label)
  pub replies : R old span new request label reply
  pub due : ExpectedBytes request label reply end bytes
  pub sends : SendsPart connection span.committed new.number bytes sent sent'

-- ---- a read that broke off

-- what a read would have been answered that broke off, by how the connection ends
abbrev pub BreaksOff : Ended → Reply → Type 0
BreaksOff ended.End fault = ⊥
BreaksOff ended.Closed fault = ⊥
BreaksOff (ended.CutShort place) fault = ⊥
BreaksOff (ended.Refused kind place) fault = ⊥
BreaksOff ended.LineFailed fault = ⊥
BreaksOff ended.StoreFailed fault = fault ≡ Refused ServiceUnavailable
BreaksOff (ended.Inconsistent container name) fault = fault ≡ Refused InconsistentStore
BreaksOff ended.Memory fault = fault ≡ Memory

-- what broke off a read whose last piece was sent after p calls, by how the connection ends: the next call, which failed and was
-- counted as a fault, or none was left to make; or the next, which told of no such object, or of other bytes than are asked for; or
-- memory ran out, before the next call or after it. The store counted a fault only where it failed
abbrev pub IsBrokenBy : Ended → ℕ → ℕ → ℕ → ℕ → Type 0
IsBrokenBy ended.End p q faults faults' = ⊥
IsBrokenBy ended.Closed p q faults faults' = ⊥
IsBrokenBy (ended.CutShort place) p q faults faults' = ⊥
IsBrokenBy (ended.Refused kind place) p q faults faults' = ⊥
IsBrokenBy ended.LineFailed p q faults faults' = ⊥
IsBrokenBy ended.StoreFailed p q faults faults' = ((q ≡ p + 1) ⊎ ((budget ≤ p) × (q ≡ p))) × Rose faults faults'
IsBrokenBy (ended.Inconsistent container name) p q faults faults' = (q ≡ p + 1) × (faults' ≡ faults)
IsBrokenBy ended.Memory p q faults faults' = (p ≤ q) × (q ≤ p + 1) × (faults' ≡ faults)

-- the request reads an object, and where the store was found inconsistent, that is what the end names
abbrev pub ReadsObject : Meant → Ended → Type 0
ReadsObject (meant.Op (op_as.GetObject read)) (ended.Inconsistent container name) = (container ≡ read.bucket) × (name ≡ read.key)
ReadsObject (meant.Op (op_as.GetObject read)) end = Unit {0}
ReadsObject means end = ⊥

-- a read was answered whose head was sent, and of its body not all: then the store failed, or was found inconsistent, or memory
-- ran out, as `fault` says, which it would have been answered if it had not begun
pub record PartExchange (R : ReplyRelation) (connection : ℕ) (old : StoreCursor) (span : Span) (new : StoreCursor) (request : Request) (label : Label)
    (end : Ended) (sent sent' : List Piece) : Type 0 where
  pub reply : Reply
  pub fault : Reply
  pub breaks : BreaksOff end fault
  pub is_span : IsSpan old span new (asked_by request.means label)
  pub replies : R old span new request label reply
  pub fails : R old span new request label fault
  pub head : List ℕ
  pub part : List ℕ
  pub unsent : List ℕ
  pub read : IsRead reply (part ++ unsent)
  pub due : print reply label request ≡ head ++ (part ++ unsent)
  pub some_left : unsent ≢ []
  pub sends : SendsPieces connection span.committed new.number head part sent sent'
  -- by the number at which the last piece was sent, the head where none was behind it
  pub cause : IsBrokenBy end (sends.first.at + length sends.others) new.number old.faults new.faults
  -- the request reads the object that is named
  pub of_read : ReadsObject request.means end

-- ---- the functions that find a reply

-- some reply is expected, of which R says this, and unless memory ran out it is the reply given
pub record RepliesExpected (R : ReplyRelation) (old new : StoreCursor) (request : Request) (label : Label) (given : Reply) : Type 0 where
  pub span : Span
  pub due : Reply
  pub is_span : IsSpan old span new (asked_by request.means label)
  pub replies : R old span new request label due
  pub same : given ≢ Memory → given ≡ due

-- an operation was answered, over every store
pub record Operated (settings : Settings) (op : Op) (label : Label) (old new : History) (was now : Known) (reply : Reply) : Type 0 where
  pub on : GoesOn old new
  pub showable : IsShowable reply
  pub caused : IsCaused (store_cursor old was) (store_cursor new now) op reply
  pub effect : Met (IsKnown was) old
      → (span : Span) × IsSpan (store_cursor old was) span (store_cursor new now) (Some (record { op = op; label = label }))
      × Performs settings new (store_cursor old was) span (store_cursor new now) op label reply
  pub known : IsTrue old.observable → IsKnown was (present old) → IsKnown now (present new)
