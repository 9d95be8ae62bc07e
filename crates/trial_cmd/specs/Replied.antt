-- What was written on a connection that was served to its end where nothing failed: the replies in print, and nothing else.
-- Source: this profile.
use Rattle.std.specs.Prelude.{◌≡◌, ◌≢◌, ◌⊎◌, ℕ, Bool, true, false, List, [], ◌∷◌, ◌++◌, flat_map, Option, None, Some}
use Rattle.gate_base.specs.declared.outside.Piece.{Piece}
use Rattle.s3_machine.specs.declared.code.Code.TheVariants.{ServiceUnavailable}
use Rattle.s3_machine.specs.declared.operation.Label.{Label}
use Rattle.s3_machine.specs.declared.operation.Op.{Op}
use Rattle.s3_machine.specs.declared.operation.Reply.{Reply}
use Rattle.s3_machine.specs.declared.operation.Reply.TheVariants as reply
use Rattle.s3_machine.specs.declared.operation.Settings.{Settings}
use Rattle.s3_machine.specs.Step.{S3Step}
use Rattle.swift_calls.specs.History.{History}
use Rattle.upload_records.specs.Native.{s3_state}
use Rattle.http_wire.specs.FirstMessage.{BeginsWith, nothing, cut_short}
use Rattle.http_wire.specs.Interim.{OwesInterim, interim_line}
use Rattle.s3_requests.specs.declared.meant.Meant.TheVariants as meant
use Rattle.gateway.specs.declared.ended.Ended.{Ended}
use Rattle.gateway.specs.declared.ended.Ended.TheVariants.{End, Closed, CutShort, Refused, LineFailed, StoreFailed, Inconsistent, Memory}
use Rattle.gateway.specs.declared.service.Service.{Service}
use Rattle.gateway.specs.Request.{Request, print}
use Rattle.gateway.specs.Exchange.{ReplyRelation, StoreCursor, Span, RepliesBy}
use Rattle.gateway.specs.Connection.{Progress, ConnectionCursor, Serves}

-- what was written, piece by piece
abbrev pub output_of : List Piece → List ℕ
output_of pieces = flat_map (λ piece. piece.bytes) pieces

-- the connection ended by its bytes or by a reply: neither the line nor the store failed under it, and memory did not run out
abbrev pub is_replied_end : Ended → Bool
is_replied_end End = true
is_replied_end Closed = true
is_replied_end (CutShort place) = true
is_replied_end (Refused kind place) = true
is_replied_end LineFailed = false
is_replied_end StoreFailed = false
is_replied_end (Inconsistent container name) = false
is_replied_end Memory = false

-- the reply is neither ServiceUnavailable nor the out-of-memory reply; and that to an operation, where it is said over an observable
-- store, is the machine's, by whose step the state before the request becomes the one after it
pub record OwnReplies (all : Bool) (settings : Settings) (h : History) (old : StoreCursor) (span : Span) (new : StoreCursor)
    (request : Request) (label : Label) (given : Reply) : Type 0 where
  pub replies : RepliesBy all settings h old span new request label given
  pub available : given ≢ reply.Refused ServiceUnavailable
  pub in_memory : given ≢ reply.Memory
  pub stepped : all ≡ true → (op : Op) → request.means ≡ meant.Op op → S3Step settings (s3_state (h.account_at old.number)) op label given (s3_state (h.account_at new.number))

-- the interim line where it is owed for what comes first, and else nothing
abbrev pub IsOwedLine : Service → ConnectionCursor → List ℕ → Type 0
IsOwedLine service old line =
    (OwesInterim service.settings.largest_body old.rest × (line ≡ interim_line)) ⊎ (¬ OwesInterim service.settings.largest_body old.rest × (line ≡ []))

-- requests that were answered in whole, one behind the other, and what was written for them: for each the interim line where it is
-- owed, and the reply in print. Only the last may end the connection
pub data Replied (service : Service) (R : ReplyRelation) (connection : ℕ) : ConnectionCursor → List Span → List ℕ → Option Ended → ConnectionCursor → Type 0 where
  none_replied : (cursor : ConnectionCursor) → Replied service R connection cursor [] [] None cursor
  one_replied : (old middle new : ConnectionCursor) (spans : List Span) (span : Span) (output owed : List ℕ) (end : Option Ended)
      → Replied service R connection old spans output None middle → (serves : Serves service R connection end middle span new) → IsOwedLine service middle owed
      → Replied service R connection old (spans ++ span ∷ []) (output ++ (owed ++ print serves.exchange.reply serves.label serves.request)) end new

-- why the connection ended, by whether the last reply ended it: it did; or else no byte is left, or they end inside a head
pub data IsOver (service : Service) (ended : Ended) (last : ConnectionCursor) : Option Ended → Type 0 where
  by_reply : IsOver service ended last (Some ended)
  at_end : ended ≡ End → BeginsWith service.settings.largest_body last.rest nothing → IsOver service ended last None
  inside_head : ended ≡ CutShort last.place → BeginsWith service.settings.largest_body last.rest cut_short → IsOver service ended last None

-- a connection that was served to its end: each request of it was answered in whole, and what was written are these replies alone
pub record RepliesAlone (service : Service) (R : ReplyRelation) (connection : ℕ) (ended : Ended) (old : ConnectionCursor) (output : List ℕ) (new : Progress) : Type 0 where
  pub spans : List Span
  pub end : Option Ended
  pub last : ConnectionCursor
  pub replied : Replied service R connection old spans output end last
  pub over : IsOver service ended last end
  pub same : new ≡ last.progress
  pub written : output_of new.sent ≡ output_of old.progress.sent ++ output
