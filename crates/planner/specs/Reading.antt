-- A read of an object before its bytes are got, and piece by piece. Source: this profile.
use Rattle.s3_machine.specs.declared.operation.Reply.TheVariants as reply_as
use Rattle.std.specs.Prelude.{◌≡◌, ◌==◌, ◌≤◌, ◌+◌, ◌-◌, ℕ, IsTrue, IfOk, if◌then◌else◌, List, [], length, take, drop, Option, None, Some, Result, Ok, Err, Bool, true, false}
use Rattle.gate_base.specs.declared.page.Pair.{Pair}
use Rattle.s3_machine.specs.declared.operation.Label.{Label}
use Rattle.s3_machine.specs.declared.operation.ObjectHead.{ObjectHead}
use Rattle.s3_machine.specs.declared.operation.Op.{Op}
use Rattle.s3_machine.specs.Ops.{GetObject}
use Rattle.s3_machine.specs.declared.operation.Reply.{Reply}
use Rattle.s3_machine.specs.declared.operation.Reply.TheVariants.{Refused, NotModified}
use Rattle.s3_machine.specs.Replies.{Object}
use Rattle.s3_machine.specs.declared.code.Code.TheVariants as code
use Rattle.s3_machine.specs.declared.operation.Settings.{Settings}
use Rattle.s3_machine.specs.declared.reading.Conditions.{Conditions}
use Rattle.s3_machine.specs.declared.reading.Judged.{Judged}
use Rattle.s3_machine.specs.declared.reading.Range.{Range}
use Rattle.s3_machine.specs.declared.reading.Judged.TheVariants as judged_as
use Rattle.s3_machine.specs.Shown.{IsShown}
use Rattle.s3_machine.specs.State.{Object as StoredObject, State}
use Rattle.s3_machine.specs.Step.{S3Step}
use Rattle.swift_calls.specs.Account.{SwiftAccount}
use Rattle.swift_calls.specs.History.{History, present}
use Rattle.upload_records.specs.Native.{object_at, s3_state}
use Rattle.std.specs.FinMap.{get}
use Rattle.account_calls.specs.declared.fault.PlanFault.{PlanFault}
use Rattle.account_calls.specs.declared.fault.PlanFault.TheVariants.{Inconsistent}
use Rattle.account_calls.specs.declared.state.Known.TheVariants as known
use Rattle.account_calls.specs.Answers.{most_calls, pieces}
use Rattle.account_calls.specs.Calls.{Bound, amount, Any, Given, HasObject, IsStoredAs}
use Rattle.account_calls.specs.Plan.{reply_of, Plans, Answered}
use Rattle.account_calls.specs.Refusals.{Stops}
use Rattle.account_calls.specs.Shows.{alone}
use Rattle.account_calls.specs.Told.{Told}
use Rattle.planner.specs.declared.reading.Found.{Found}
use Rattle.planner.specs.declared.reading.Reading.{Reading}
use Rattle.planner.specs.declared.reading.Reading.TheVariants.{Whole, Pieces}

-- the reply that gives these bytes of the object
abbrev pub found_reply : Found → List ℕ → Reply
found_reply found body = Object found.head found.from found.length found.partial body found.shown found.parts

-- the object is the one that the operation reads
abbrev pub IsReadBy : Op → Found → Type 0
IsReadBy op found = (range : Option Range) × (conditions : Conditions) × (part : Option ℕ) × (op ≡ GetObject found.bucket found.key range conditions part found.shown)

-- the bytes that are asked for: what is replied with them can be shown, and they are bytes of the object
pub record IsFound (found : Found) : Type 0 where
  pub shown : IsShown found.head found.from found.length found.partial
  pub within : found.from + found.length ≤ found.head.size

-- the object is there, as HEAD told of it
abbrev pub HasFound : Found → State → Type 0
HasFound found state = HasObject found.bucket found.key found.head.etag found.head.size state

-- these are the first of the bytes that are asked for
abbrev pub AreFirst : Found → List ℕ → State → Type 0
AreFirst found done state = (o : StoredObject) → object_at (get state found.bucket) found.key ≡ Some o → done ≡ take (length done) (drop found.from o.bytes)

-- the object is there, and these are the bytes that are asked for, with which the service itself replies: in as many pieces as the
-- operation may make calls behind the first two
pub record HasBody (settings : Settings) (op : Op) (label : Label) (found : Found) (tree : SwiftAccount) : Type 0 where
  pub body : List ℕ
  pub sized : length body ≡ found.length
  pub has : HasFound found (s3_state tree)
  pub first : AreFirst found body (s3_state tree)
  pub step : S3Step settings (s3_state tree) op label (found_reply found body) (s3_state tree)
  pub most : amount (most_calls op tree) ≡ 2 + pieces found.length

-- an object was found that the operation reads, by at most so many calls, none of which failed
pub record Finds (count : ℕ) (old new : History) (settings : Settings) (given : State → Type 0) (op : Op) (label : Label) (found : Found) : Type 0 where
  pub told : Told old new (Given given) (HasBody settings op label found) count
  pub is : IsFound found
  pub reads : IsReadBy op found

-- the calls of a plan, or of the rest of one, amount to the operation, or found the object that it reads
abbrev pub EndsOrFinds : Bound → ℕ → History → History → Settings → (State → Type 0) → Op → Label → Result Reading PlanFault → Type 0
EndsOrFinds most count old new settings given op label (Ok (Whole reply)) = Plans most old new settings (Given given) op label known.Settled (Ok reply)
EndsOrFinds most count old new settings given op label (Ok (Pieces found)) = Finds count old new settings given op label found
EndsOrFinds most count old new settings given op label (Err fault) = Plans most old new settings (Given given) op label known.Settled (Err fault)

-- an operation was answered, or the object that it reads was found
abbrev pub AnsweredOrFound : Bound → History → History → Settings → Op → Label → Reading → Type 0
AnsweredOrFound most old new settings op label (Whole reply) = Answered most old new settings op label known.Settled reply
AnsweredOrFound most old new settings op label (Pieces found) = Finds 2 old new settings Any op label found

-- a read, before which so many calls were made, stops at the call that shows why it is refused
abbrev pub StopsOrFinds : ℕ → History → History → Result Reading PlanFault → Type 0
StopsOrFinds before old new (Ok (Whole reply)) = Stops alone before old new (Ok reply)
StopsOrFinds before old new (Ok (Pieces found)) = Unit {0}
StopsOrFinds before old new (Err fault) = Unit {0}

-- what a read comes to that asks for no part, by the head of an object that may be read
abbrev pub reading_of : List ℕ → List ℕ → List Pair → ObjectHead → Judged → Reading
reading_of bucket key shown head judged_as.PreconditionFailed = Whole (Refused code.PreconditionFailed)
reading_of bucket key shown head judged_as.NotModified = Whole (NotModified head)
reading_of bucket key shown head judged_as.InvalidRange = Whole (Refused (code.InvalidRange (Some head.size)))
reading_of bucket key shown head (judged_as.Bytes span partial) =
    Pieces (record { bucket = bucket; key = key; head = head; from = span.from; length = span.length; partial = partial; shown = shown; parts = None })

-- the reply where no object was found
abbrev pub reading_end : Result Reading PlanFault → Reading
reading_end (Ok reading) = reading
reading_end (Err fault) = Whole (reply_of (Err fault))

-- ---- what isn't replied as a whole

-- the operation reads an object
abbrev pub ReadsBytes : Op → Type 0
ReadsBytes op = (bucket : List ℕ) × (key : List ℕ) × (range : Option Range) × (conditions : Conditions) × (part : Option ℕ) × (shown : List Pair)
    × (op ≡ GetObject bucket key range conditions part shown)

-- whether the reply gives bytes of an object
abbrev pub gives_bytes : Reply → Bool
gives_bytes (reply_as.Object object) = true
gives_bytes reply = false

-- no bytes were got: a whole reply gives none of an object
abbrev pub LeavesBytes : Reading → Type 0
LeavesBytes (Whole reply) = gives_bytes reply ≡ false
LeavesBytes (Pieces found) = Unit {0}

-- a reply gives no byte of an object: the one to HeadObject has its head alone
abbrev pub GivesNoByte : Reply → Type 0
GivesNoByte (reply_as.Object object) = object.body ≡ []
GivesNoByte reply = Unit {0}

-- so it is with a whole reply; the bytes that a read found are still to be got
abbrev pub HasNoByte : Reading → Type 0
HasNoByte (Whole reply) = GivesNoByte reply
HasNoByte (Pieces found) = Unit {0}

-- ---- a piece

-- the range of so many bytes from one on, by its first and its last
abbrev pub piece_range : ℕ → ℕ → ℕ × ℕ
piece_range from size = (from, from + (size - 1))

-- these are so many of the bytes that are asked for, from one of them on
abbrev pub TellsPiece : Found → ℕ → ℕ → State → List ℕ → Type 0
TellsPiece found at size state bytes = (o : StoredObject) → object_at (get state found.bucket) found.key ≡ Some o → bytes ≡ take size (drop (found.from + at) o.bytes)

-- where the store is observable, a piece is given of the file that HEAD told of alone, whether its account is consistent or not
abbrev pub GivesPieceOf : History → Found → Result (List ℕ) PlanFault → Type 0
GivesPieceOf h found result = IsTrue h.observable → IfOk result (λ bytes. IsStoredAs (present h) found.bucket found.key found.head.etag found.head.size)

-- what was told of a piece, where it is as long as it should be
abbrev pub piece_end : Option (List ℕ) → ℕ → Result (List ℕ) PlanFault
piece_end None size = Err Inconsistent
piece_end (Some bytes) size = if length bytes == size then Ok bytes else Err Inconsistent
