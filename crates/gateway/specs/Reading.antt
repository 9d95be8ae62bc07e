-- An operation up to its reply, or up to the bytes of the object that it reads; and how an object is sent as its bytes come. Source:
-- this profile.
use Rattle.std.specs.Prelude.{◌≡◌, ◌≢◌, ◌<◌, ◌⊎◌, ℕ, ◌+◌, ◌*◌, min, Bool, false, IsTrue, is_some, List, [], ◌++◌, length, All, Option, None, Some, Ok, Err}
use Rattle.gate_base.specs.declared.outside.Piece.{Piece}
use Rattle.gate_base.specs.Line.{LineModel}
use Rattle.gate_base.specs.Transcript.{Transcript, with_piece, SendsPrefix}
use Rattle.http_wire.specs.FirstMessage.{is_head}
use Rattle.http_wire.specs.Print.{memory_reply}
use Rattle.s3_machine.specs.declared.operation.Label.{Label}
use Rattle.s3_machine.specs.declared.operation.Op.{Op}
use Rattle.s3_machine.specs.declared.operation.Reply.{Reply}
use Rattle.s3_machine.specs.declared.operation.Settings.{Settings}
use Rattle.s3_machine.specs.declared.operation.Reply.TheVariants as answer
use Rattle.s3_machine.specs.Shown.{IsShowable}
use Rattle.swift_calls.specs.Account.{SwiftAccount}
use Rattle.swift_calls.specs.History.{History, present}
use Rattle.upload_records.specs.Native.{IsSettled, s3_state}
use Rattle.account_calls.specs.declared.fault.PlanFault.{PlanFault}
use Rattle.account_calls.specs.declared.fault.PlanFault.TheVariants as fault
use Rattle.account_calls.specs.declared.state.Known.{Known}
use Rattle.account_calls.specs.declared.state.Known.TheVariants as known
use Rattle.account_calls.specs.Answers.{most_calls}
use Rattle.account_calls.specs.Calls.{always, Any, Asks, Given, GoesOn, Met, Tells}
use Rattle.account_calls.specs.Plan.{Answered}
use Rattle.account_calls.specs.Known.{IsKnown, Knows}
use Rattle.account_calls.specs.Told.{Told, CountsOne}
use Rattle.planner.specs.declared.reading.Found.{Found}
use Rattle.planner.specs.declared.reading.Reading.{Reading}
use Rattle.planner.specs.declared.reading.Reading.TheVariants.{Whole, Pieces}
use Rattle.planner.specs.Reading.{found_reply, IsReadBy, IsFound, HasFound, AreFirst, HasBody, Finds, TellsPiece}
use Rattle.s3_requests.specs.declared.meant.Meant.{Meant}
use Rattle.s3_requests.specs.declared.meant.Meant.TheVariants as meant
use Rattle.gateway.specs.declared.ended.Ended.{Ended}
use Rattle.gateway.specs.declared.ended.Ended.TheVariants as ended
use Rattle.gateway.specs.declared.handle.Handled.{Handled}
use Rattle.gateway.specs.declared.handle.Handled.TheVariants.{Served, Broken, Parted}
use Rattle.gateway.specs.declared.send.Stop.{Stop}
use Rattle.gateway.specs.declared.send.Stop.TheVariants as stop
use Rattle.gateway.specs.Connection.{sent_by}
use Rattle.gateway.specs.Exchange.{store_cursor, IsPiece, joined, Operated, Paced, RepliesBy, RepliesExpected, SettledBy, Where}
use Rattle.gateway.specs.Request.{Request, reply_text}
use Rattle.gateway.specs.ResolvedRequest.{Understands}
use Rattle.gateway.specs.Stands.{Stands}
use Rattle.gateway.specs.Write.{IsReplyText, CutsHead}

-- ---- up to the bytes of an object

-- the store as an operation finds it: it was settled, if that wasn't known to be needless
pub record Readied (old middle : History) (was : Known) : Type 0 where
  pub on : GoesOn old middle
  pub still : middle.faults ≡ old.faults
  pub needs_none : was ≡ known.Settled → middle.called ≡ old.called
  pub by : Met (IsKnown was) old → SettledBy middle was old.called middle.called
  pub settled : IsTrue old.observable → IsKnown was (present old) → IsSettled (present middle)

-- the object is there, and these are the first of the bytes that are asked for
pub record HasSoFar (settings : Settings) (op : Op) (label : Label) (found : Found) (done : List ℕ) (tree : SwiftAccount) : Type 0 where
  pub has : HasBody settings op label found tree
  pub first : AreFirst found done (s3_state tree)

-- an operation is answered as far as these bytes of the object that it reads, by so many pieces
pub record Reads (settings : Settings) (op : Op) (label : Label) (found : Found) (old new : History) (was : Known) (done : List ℕ) (count : ℕ) : Type 0 where
  pub middle : History
  pub readied : Readied old middle was
  pub told : Told middle new (Given Any) (HasSoFar settings op label found done) (2 + count)
  pub is : IsFound found
  pub reads : IsReadBy op found

-- an operation was answered on a settled store, or the object that it reads was found
abbrev pub PerformsOrFinds : History → History → Settings → Op → Label → Known → Reading → Type 0
PerformsOrFinds old new settings op label after (Whole reply) = Answered (most_calls op (present old)) old new settings op label after reply
PerformsOrFinds old new settings op label after (Pieces found) = (after ≡ known.Settled) × Finds 2 old new settings Any op label found

-- the same on a store that was settled first, or could not be
abbrev pub OperatedOrReads : Settings → Op → Label → History → History → Known → Known → Reading → Type 0
OperatedOrReads settings op label old new was now (Whole reply) = Operated settings op label old new was now reply
OperatedOrReads settings op label old new was now (Pieces found) = (now ≡ known.Settled) × Reads settings op label found old new was [] 0

-- what a request means was answered. Where memory ran out, some reply is expected, and it is not this one; then who sent the request
-- may be unknown
pub record Replied (settings : Settings) (means : Meant) (label : Label) (old new : History) (was now : Known) (given : Reply) : Type 0 where
  pub showable : IsShowable given
  pub on : GoesOn old new
  pub knows : Knows was old → Knows now new
  pub out_of_memory : means ≡ meant.Memory → given ≡ answer.Memory
  pub stands : Stands settings was now old new
  pub effect : (all : Bool) → Where all (Met (IsKnown was) old) → (request : Request) → Understands means request → (means ≢ meant.Memory → label.caller ≡ request.caller)
      → RepliesExpected (RepliesBy all settings new) (store_cursor old was) (store_cursor new now) request (sent_by request.caller label) given

-- it was, or the object that it reads was found
abbrev pub RepliedOrReads : Settings → Meant → Label → History → History → Known → Known → Reading → Type 0
RepliedOrReads settings means label old new was now (Whole reply) = Replied settings means label old new was now reply
RepliedOrReads settings means label old new was now (Pieces found) =
    (op : Op) × (means ≡ meant.Op op) × (now ≡ known.Settled) × Reads settings op label found old new was [] 0

-- what is to be sent can be: the reply has a page, or it is bytes of an object, and the store is settled
abbrev pub IsReady : History → Reading → Type 0
IsReady h (Whole reply) = IsShowable reply
IsReady h (Pieces found) = IsFound found × (IsTrue h.observable → IsSettled (present h))

-- ---- the pieces of an object

-- so many pieces of the object were got, each by one call that did not fail, and these bytes in all; each piece has 1 MiB, but for
-- the last, and none more was got than is needed
pub record Got (found : Found) (old new : History) (done : List ℕ) (count : ℕ) : Type 0 where
  pub told : Told old new (Given (HasFound found)) (λ tree. AreFirst found done (s3_state tree)) count
  pub counted : new.called ≡ old.called + count
  pub sized : length done ≡ min (1048576 * count) found.length
  pub needed : 1048576 * count < found.length + 1048576

-- these bytes were sent as so many pieces, one for each call behind the h-th
pub record BodySent (connection h : ℕ) (done : List ℕ) (count : ℕ) (old new : List Piece) : Type 0 where
  pub others : List Piece
  pub sent : new ≡ old ++ others
  pub whole : joined others ≡ done
  pub counted : length others ≡ count
  pub each : All (IsPiece connection h (h + count)) others
  pub paced : Paced (h + 1) others

-- the first of them were, and the line failed under the last piece
pub record BodyCut (connection h q : ℕ) (done : List ℕ) (old new : List Piece) : Type 0 where
  pub others : List Piece
  pub unsent : List ℕ
  pub sent : new ≡ old ++ others
  pub part : joined others ++ unsent ≡ done
  pub each : All (IsPiece connection h q) others

-- a piece was got and sent, or the line failed under it, or it wasn't got
abbrev pub SendsPiece : Found → ℕ → ℕ → LineModel → History → Option Stop → LineModel → History → Type 0
SendsPiece found at size line old None line' new =
    (bytes : List ℕ) × (length bytes ≡ size) × (new.called ≡ old.called + 1) × Asks (always 1) old new (Given (HasFound found)) (Tells (TellsPiece found at size)) (Ok bytes)
    × (IsTrue line.observable → line'.transcript ≡ with_piece line.transcript new.called bytes)
SendsPiece found at size line old (Some stop.Line) line' new =
    (bytes : List ℕ) × (length bytes ≡ size) × (new.called ≡ old.called + 1) × Asks (always 1) old new (Given (HasFound found)) (Tells (TellsPiece found at size)) (Ok bytes)
    × (IsTrue line.observable → SendsPrefix line.transcript new.called bytes line'.transcript)
SendsPiece found at size line old (Some (stop.Fault fault)) line' new =
    (line' ≡ line) × CountsOne {T = List ℕ} old.called new.called (Err fault) × Asks (always 1) old new (Given (HasFound found)) (Tells (TellsPiece found at size)) (Err fault)

-- so far these bytes were got and sent
pub record SentSoFar (found : Found) (line : LineModel) (old : History) (line' : LineModel) (new : History) (at : ℕ) : Type 0 where
  pub done : List ℕ
  pub count : ℕ
  pub length_is : length done ≡ at
  pub got : Got found old new done count
  pub sent : IsTrue line.observable → BodySent line.transcript.begun old.called done count line.transcript.sent line'.transcript.sent

-- all were, or the line failed under the last piece that was got, or a call failed for the next, or memory ran out
abbrev pub SendsBody : Found → LineModel → History → Option Stop → LineModel → History → Type 0
SendsBody found line old None line' new = SentSoFar found line old line' new found.length
SendsBody found line old (Some stop.Line) line' new =
    (done : List ℕ) × (count : ℕ) × Got found old new done count × (IsTrue line.observable → BodyCut line.transcript.begun old.called new.called done line.transcript.sent line'.transcript.sent)
SendsBody found line old (Some (stop.Fault fault)) line' new =
    (middle : History) × (at : ℕ) × (size : ℕ) × (at < found.length) × SentSoFar found line old line' middle at
    × CountsOne {T = List ℕ} middle.called new.called (Err fault) × Asks (always 1) middle new (Given (HasFound found)) (Tells (TellsPiece found at size)) (Err fault)

-- ---- an object

-- the head of the reply
abbrev pub head_text : Found → Label → List ℕ → List ℕ → Bool → List ℕ
head_text found label method resource closing = reply_text (found_reply found []) label method resource closing

-- how a connection ends whose read broke off
abbrev pub ended_by : Found → PlanFault → Ended
ended_by found fault.Failed = ended.StoreFailed
ended_by found fault.Memory = ended.Memory
ended_by found fault.Inconsistent = ended.Inconsistent found.bucket found.key

-- behind the head: all the bytes were sent, or the line failed under a piece, or a piece wasn't got
abbrev pub SendsBehind : Found → Option Ended → LineModel → History → Handled → LineModel → History → Type 0
SendsBehind found end line old (Served end') line' new = (end' ≡ end) × SendsBody found line old None line' new
SendsBehind found end line old Broken line' new = SendsBody found line old (Some stop.Line) line' new
SendsBehind found end line old (Parted ended) line' new =
    (fault : PlanFault) × (ended ≡ ended_by found fault) × SendsBody found line old (Some (stop.Fault fault)) line' new

-- the head was sent, of a reply to another method than HEAD, and then what is behind it; or memory ran out before the head was, and
-- no call was made; or the line failed under one or the other
pub data SendsObject (found : Found) (label : Label) (method resource : List ℕ) (end : Option Ended) (line : LineModel) (old : History) (handled : Handled) (line' : LineModel) (new : History) : Type 0 where
  head_sent : (then : LineModel) → is_head method ≡ false → (IsTrue line.observable → IsTrue then.observable)
      → (IsTrue line.observable → then.transcript ≡ with_piece line.transcript old.called (head_text found label method resource (is_some end)))
      → SendsBehind found end then old handled line' new → SendsObject found label method resource end line old handled line' new
  head_unsent : new ≡ old → handled ≡ Served (Some ended.Memory) → (IsTrue line.observable → line'.transcript ≡ with_piece line.transcript old.called (memory_reply (is_head method)))
      → SendsObject found label method resource end line old handled line' new
  head_cut : new ≡ old → handled ≡ Broken → (IsTrue line.observable → CutsHead line.transcript old.called (head_text found label method resource (is_some end)) method line'.transcript)
      → SendsObject found label method resource end line old handled line' new

-- a whole reply was sent, or the out-of-memory reply in its place, or the line failed under either
abbrev pub SendsReply : Reply → Label → List ℕ → List ℕ → Option Ended → Transcript → ℕ → Handled → Transcript → Type 0
SendsReply reply label method resource end old at (Served end') new =
    ((reply ≢ answer.Memory) × (end' ≡ end) × (new ≡ with_piece old at (reply_text reply label method resource (is_some end))))
    ⊎ ((end' ≡ Some ended.Memory) × (new ≡ with_piece old at (memory_reply (is_head method))))
SendsReply reply label method resource end old at Broken new =
    (bytes : List ℕ) × IsReplyText reply label method resource (is_some end) bytes × SendsPrefix old at bytes new
SendsReply reply label method resource end old at (Parted ended) new = ⊥

-- what was answered was sent
abbrev pub SendsReading : Reading → Label → List ℕ → List ℕ → Option Ended → LineModel → History → Handled → LineModel → History → Type 0
SendsReading (Whole reply) label method resource end line old handled line' new =
    (new ≡ old) × (IsTrue line.observable → SendsReply reply label method resource end line.transcript old.called handled line'.transcript)
SendsReading (Pieces found) label method resource end line old handled line' new = SendsObject found label method resource end line old handled line' new
