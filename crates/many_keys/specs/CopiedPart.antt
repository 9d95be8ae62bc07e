-- What the calls of a part's copy told before the last one: of the upload that the part is put into, and of the object that its
-- bytes are of. Source: this profile.
use Rattle.std.specs.Prelude.{◌≡◌, ◌≤◌, ℕ, true, IsTrue, IfOk, List, length, Option, Some, Result}
use Rattle.std.specs.FinMap.{get}
use Rattle.s3_machine.specs.Copies.{copied_span, has_last}
use Rattle.s3_machine.specs.Reading.{taken}
use Rattle.s3_machine.specs.State.{Object, State}
use Rattle.s3_machine.specs.declared.operation.Label.{Label}
use Rattle.s3_machine.specs.declared.operation.ObjectHead.{ObjectHead}
use Rattle.s3_machine.specs.declared.operation.Op.{Op}
use Rattle.s3_machine.specs.Ops.{CopyPart}
use Rattle.s3_machine.specs.declared.operation.Op.TheVariants.{OnCopies}
use Rattle.s3_machine.specs.declared.operation.CopiesOp.TheVariants as copies_op
use Rattle.s3_machine.specs.declared.operation.Reply.{Reply}
use Rattle.s3_machine.specs.declared.reading.Conditions.{Conditions}
use Rattle.swift_calls.specs.Account.{SwiftAccount}
use Rattle.swift_calls.specs.History.{History, present}
use Rattle.swift_calls.specs.declared.calls.SwiftRequest.{SwiftRequest}
use Rattle.upload_records.specs.Native.{object_at, s3_state}
use Rattle.account_calls.specs.Calls.{HasBucket, TellsObject}
use Rattle.account_calls.specs.Interpret.{IsShownHead}
use Rattle.account_calls.specs.Puts.{StandsIn}
use Rattle.account_calls.specs.declared.fault.PlanFault.{PlanFault}
use Rattle.upload_calls.specs.Found.{IsOpenUpload}
use Rattle.upload_calls.specs.Interpret.{put_part_of}
use Rattle.upload_calls.specs.Records.{StandsPart}
use Rattle.many_keys.specs.Copies.{IsOfStored}
use Rattle.many_keys.specs.OwnSegments.{StandsCopy}
use Rattle.upload_calls.specs.declared.parts.PartPlace.{PartPlace}
use Rattle.many_keys.specs.declared.copied_part.CopyIntoPart.{CopyIntoPart}

-- ---- what is copied, and where it is put

-- so many bytes are wanted of a source with this head: it has the last of them, and a body may have as many
pub record IsWanted (limit : ℕ) (copy : CopyIntoPart) (head : ObjectHead) (wanted : ℕ) : Type 0 where
  pub shown : IsShownHead (Some head)
  pub ends : has_last copy.range head.size ≡ true
  pub are : wanted ≡ (copied_span copy.range head.size).length
  pub sized : wanted ≤ limit

-- the operation that copies it, of an upload of that key whose id this text writes
abbrev pub part_copied : CopyIntoPart → List ℕ → List ℕ → Conditions → Op
part_copied copy key text conditions =
    CopyPart copy.into.bucket key text copy.into.number copy.from_bucket copy.from_key copy.range conditions

-- ---- what was told

-- the upload is open, and the bucket of the source is there
pub record MayCopyFrom (bucket key text : List ℕ) (id : ℕ) (from_bucket : List ℕ) (tree : SwiftAccount) : Type 0 where
  pub opened : IsOpenUpload bucket key text id tree
  pub from : HasBucket from_bucket (s3_state tree)

-- the upload is open, and the source has this head
pub record MayCopyOf (bucket key text : List ℕ) (id : ℕ) (from_bucket from_key : List ℕ) (head : ObjectHead) (tree : SwiftAccount) : Type 0 where
  pub opened : IsOpenUpload bucket key text id tree
  pub source : TellsObject from_bucket from_key (s3_state tree) (Some head)

-- the upload that the part is of is open
abbrev pub IsOpenFor : PartPlace → List ℕ → List ℕ → SwiftAccount → Type 0
IsOpenFor into key text tree = IsOpenUpload into.bucket key text into.id tree

-- and the bucket of what is copied is there
abbrev pub MayCopyPart : CopyIntoPart → List ℕ → List ℕ → SwiftAccount → Type 0
MayCopyPart copy key text tree = MayCopyFrom copy.into.bucket key text copy.into.id copy.from_bucket tree

-- and what is copied has this head
abbrev pub MayCopyPartOf : CopyIntoPart → List ℕ → List ℕ → ObjectHead → SwiftAccount → Type 0
MayCopyPartOf copy key text head tree = MayCopyOf copy.into.bucket key text copy.into.id copy.from_bucket copy.from_key head tree

-- these bytes are those of a source that has the last byte of the range, and as many as the range
pub record AreCopied (from_bucket from_key : List ℕ) (range : Option (ℕ × ℕ)) (body : List ℕ) (state : State) : Type 0 where
  pub object : Object
  pub there : object_at (get state from_bucket) from_key ≡ Some object
  pub ends : has_last range (length object.bytes) ≡ true
  pub are : body ≡ taken (copied_span range (length object.bytes)) object.bytes
  pub counted : length body ≡ (copied_span range (length object.bytes)).length

-- the upload is open, and these are the bytes of the part
pub record MayPutCopy (bucket key text : List ℕ) (id : ℕ) (from_bucket from_key : List ℕ) (range : Option (ℕ × ℕ)) (body : List ℕ) (tree : SwiftAccount) : Type 0 where
  pub opened : IsOpenUpload bucket key text id tree
  pub bytes : AreCopied from_bucket from_key range body (s3_state tree)

abbrev pub MayPutPart : PartPlace → List ℕ → List ℕ → List ℕ → List ℕ → Option (ℕ × ℕ) → List ℕ → SwiftAccount → Type 0
MayPutPart into key text from_bucket from_key range body tree = MayPutCopy into.bucket key text into.id from_bucket from_key range body tree

-- the PUT of the part's file, of these bytes
abbrev pub part_put : PartPlace → List ℕ → SwiftRequest
part_put into body = put_part_of into.bucket into.id into.number body into.label.moment

-- ---- what stands, over every observable store, whether its account is consistent or not

-- the file of a part of some bytes stands as it was put
pub record StandsCopiedPart (into : PartPlace) (tree : SwiftAccount) : Type 0 where
  pub body : List ℕ
  pub stands : StandsIn tree (part_put into body)

-- into the upload whose id this text writes
pub record StandsPartCopy (bucket text : List ℕ) (number moment : ℕ) (tree : SwiftAccount) : Type 0 where
  pub body : List ℕ
  pub part : StandsPart bucket text number body moment tree

-- what an operation that was done leaves where it stands: the file of a copy, or that of a part; of any other operation nothing is said
abbrev pub CopyStands : Op → Label → SwiftAccount → Type 0
CopyStands (OnCopies (copies_op.CopyObject copy)) label tree = StandsCopy copy.bucket copy.key label.moment tree
CopyStands (OnCopies (copies_op.CopyPart copy)) label tree = StandsPartCopy copy.bucket copy.id copy.number label.moment tree
CopyStands _ label tree = Unit {0}

-- ---- of what it was copied

-- a copy of a whole object is of a file with the ETag that is replied; of any other operation nothing is said
abbrev pub IsOfSource : Op → SwiftAccount → Reply → Type 0
IsOfSource (OnCopies (copies_op.CopyObject copy)) tree reply = IsOfStored tree copy.from_bucket copy.from_key reply
IsOfSource _ tree reply = Unit {0}

-- so it is with what the plan of the operation copied
pub record OfCopiedSource (op : Op) (h : History) (end : Result Reply PlanFault) : Type 0 where
  pub so : IsTrue h.observable → IfOk end (IsOfSource op (present h))
