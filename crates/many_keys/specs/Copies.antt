-- What the calls of a copy told of its source, and what the copy is put with. Source: Amazon S3 API Reference, "CopyObject", and
-- this profile.
use Rattle.s3_machine.specs.declared.operation.Reply.TheVariants as reply_as
use Rattle.std.specs.Prelude.{◌≡◌, ◌≤◌, ◌<◌, ◌==◌, ◌^◌, ℕ, Bool, true, false, IsTrue, IfOk, ◌&&◌, if◌then◌else◌, nat_le, bytes_eq, List, length, Option, None, Some, Result, Ok, Err}
use Rattle.gate_base.specs.declared.page.Pair.{Pair}
use Rattle.s3_names.specs.declared.acl.Acl.{Acl}
use Rattle.s3_machine.specs.declared.operation.ObjectHead.{ObjectHead}
use Rattle.s3_machine.specs.declared.operation.Described.{Described}
use Rattle.s3_machine.specs.declared.operation.Reply.{Reply}
use Rattle.s3_machine.specs.Replies.{Copied}
use Rattle.s3_machine.specs.ETag.{body_etag}
use Rattle.s3_machine.specs.Limits.{is_content_type, is_proper_meta, most_body_bytes}
use Rattle.s3_machine.specs.State.{State}
use Rattle.swift_calls.specs.Account.{SwiftAccount}
use Rattle.swift_calls.specs.History.{History, present}
use Rattle.swift_marks.specs.Tag.{is_etag}
use Rattle.account_calls.specs.Calls.{HasBucket, IsStoredAs, TellsBucket, TellsBytes, TellsObject}
use Rattle.account_calls.specs.declared.fault.PlanFault.{PlanFault}
use Rattle.account_calls.specs.declared.fault.PlanFault.TheVariants.{Inconsistent}

-- ---- the head of a source

-- what HEAD tells of an object that may be put again as it is
pub record IsProperHead (head : ObjectHead) : Type 0 where
  pub typed : is_content_type head.content_type ≡ true
  pub described : is_proper_meta head.meta ≡ true
  pub etag : is_etag head.etag ≡ true
  pub sized : head.size < 2 ^ 63

-- whether its marks are such
abbrev pub is_head_to_copy : ObjectHead → Bool
is_head_to_copy head = is_content_type head.content_type && is_proper_meta head.meta && is_etag head.etag

-- what HEAD of a source comes to, by what it told: a head that no object has is the store's fault
abbrev pub proper_due : Option ObjectHead → Result (Option ObjectHead) PlanFault
proper_due None = Ok None
proper_due (Some head) = if is_head_to_copy head then Ok (Some head) else Err Inconsistent

-- ---- its bytes

-- whether a body may be that of a source with this head, which was put in one piece: with its size, which a body may have, and
-- its ETag
abbrev pub is_body_to_copy : ObjectHead → List ℕ → Bool
is_body_to_copy head body = length body == head.size && nat_le (length body) most_body_bytes && bytes_eq head.etag (body_etag body)

-- what GET of a source that was put in one piece comes to, by what it told: an object that is gone is the store's fault too
abbrev pub body_due : ObjectHead → Option (List ℕ) → Result (List ℕ) PlanFault
body_due head None = Err Inconsistent
body_due head (Some body) = if is_body_to_copy head body then Ok body else Err Inconsistent

-- ---- over every observable store, whether its account is consistent or not

-- this was done only of a file that is what its tag says, of an object with this ETag and this size
abbrev pub OfStored : {T : Type 0} → History → List ℕ → List ℕ → List ℕ → ℕ → Result T PlanFault → Type 0
OfStored h bucket key etag size result = IsTrue h.observable → IfOk result (λ told. IsStoredAs (present h) bucket key etag size)

-- a copy of an object that was put in one piece is of a file that is what its tag says, of an object with the ETag that is replied
abbrev pub IsOfStored : SwiftAccount → List ℕ → List ℕ → Reply → Type 0
IsOfStored tree bucket key (reply_as.Copied copied) = length copied.etag ≤ 32 → (size : ℕ) × IsStoredAs tree bucket key copied.etag size
IsOfStored tree bucket key reply = Unit {0}

-- so is what a plan, or the rest of one, copied: the file stood as its calls began
pub record CopiesStored (h : History) (bucket key : List ℕ) (end : Result Reply PlanFault) : Type 0 where
  pub so : IsTrue h.observable → IfOk end (IsOfStored (present h) bucket key)

-- ---- what is told

-- the reply to a copy that was put, over every store: it has this ETag and this moment
abbrev pub TellsCopied : List ℕ → ℕ → Result Reply PlanFault → Type 0
TellsCopied etag moment end = IfOk end (λ reply. reply ≡ Copied false etag moment)

-- ---- what is given of the state

-- the bucket that a copy goes to has this list, and the bucket of its source is there
pub record IsFoundBucket (bucket : List ℕ) (acl : Acl) (from_bucket : List ℕ) (state : State) : Type 0 where
  pub listed : TellsBucket bucket state (Some acl)
  pub from : HasBucket from_bucket state

-- the bucket that a copy goes to has this list, and the source has this head
pub record IsFoundSource (bucket : List ℕ) (acl : Acl) (from_bucket from_key : List ℕ) (head : ObjectHead) (state : State) : Type 0 where
  pub listed : TellsBucket bucket state (Some acl)
  pub source : TellsObject from_bucket from_key state (Some head)

-- and these bytes
pub record IsReadSource (bucket : List ℕ) (acl : Acl) (from_bucket from_key : List ℕ) (head : ObjectHead) (bytes : List ℕ) (state : State) : Type 0 where
  pub listed : TellsBucket bucket state (Some acl)
  pub source : TellsObject from_bucket from_key state (Some head)
  pub read : TellsBytes from_bucket from_key None state (Some bytes)

-- ---- what is put

-- what a copy is put with: with what is given in place of the source's, or with the content type and the metadata of its source
abbrev pub content_of : Option Described → List ℕ → List Pair → Described
content_of None content_type meta = record { content_type = content_type; meta = meta }
content_of (Some replaced) content_type meta = replaced
