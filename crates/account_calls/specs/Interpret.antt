-- What an answer of the store comes to, by the call that it answers. Over a consistent account no other answer comes than
-- one that tells of the state. Source: Object Storage API v1 and this profile.
use Rattle.std.specs.Prelude.{◌≡◌, ◌⊎◌, ◌<◌, ◌==◌, ◌^◌, ℕ, Bool, true, false, cond, if◌then◌else◌, not, ◌&&◌, ◌||◌, nat_le, nat_lt, List, length, bytes_eq, Option, None, Some, is_none, Result, Ok, Err}
use Rattle.gate_base.specs.Told.{moment_limit}
use Rattle.gate_base.specs.declared.page.Pair.{Pair}
use Rattle.s3_names.specs.declared.acl.Acl.{Acl}
use Rattle.s3_machine.specs.declared.operation.ObjectHead.{ObjectHead}
use Rattle.s3_machine.specs.ETag.{body_etag}
use Rattle.s3_machine.specs.Limits.{most_body_bytes}
use Rattle.slo_manifest.specs.declared.Segment.{Segment}
use Rattle.swift_calls.specs.declared.calls.SwiftRequest.{SwiftRequest}
use Rattle.swift_calls.specs.Files.{PutObject}
use Rattle.swift_calls.specs.declared.calls.SwiftReply.{SwiftReply}
use Rattle.swift_calls.specs.declared.calls.SwiftReply.TheVariants.{Made, Gone, Stored, NotFound, NotEmpty, Readers, Head, Bytes, Manifest, Unsatisfiable}
use Rattle.swift_calls.specs.declared.heads.StoredHead.{StoredHead}
use Rattle.swift_marks.specs.declared.tag.Tag.{Tag}
use Rattle.swift_marks.specs.Tag.{read_tag, tag_text}
use Rattle.swift_marks.specs.Pack.{unpacked, pack_of}
use Rattle.upload_records.specs.Layout.{acl_of}
use Rattle.account_calls.specs.declared.bucket.Dropped.{Dropped}
use Rattle.account_calls.specs.declared.bucket.Dropped.TheVariants as dropped
use Rattle.account_calls.specs.declared.fault.PlanFault.{PlanFault}
use Rattle.account_calls.specs.declared.fault.PlanFault.TheVariants as fault

-- the answer that is expected, or the word that memory ran out
abbrev pub Gives : {T : Type 0} → Result T PlanFault → Result T PlanFault → Type 0
Gives result due = (result ≡ Err fault.Memory) ⊎ (result ≡ due)

-- HEAD of a bucket's container: who may read the bucket, which has the moment at which it was made
abbrev pub bucket_due : SwiftReply → Result (Option Acl) PlanFault
bucket_due (Readers readers (Some created)) = Ok (Some (acl_of readers))
bucket_due NotFound = Ok None
bucket_due _ = Err fault.Inconsistent

-- whether a file is what its tag says that was put in one piece: with bytes of its own, as many as a body may have, and with
-- their ETag
abbrev pub object_head_agrees_whole : StoredHead → Tag → Bool
object_head_agrees_whole head tag = not head.manifest && bytes_eq head.etag tag.etag && nat_le head.size most_body_bytes

-- whether it is what its tag says that was completed from parts: with an ETag of parts, and a list of segments where it has a
-- byte. Numbers hold its size
abbrev pub object_head_agrees_parts : StoredHead → Tag → Bool
object_head_agrees_parts head tag = nat_lt 32 (length tag.etag) && (head.manifest || (head.size == 0)) && nat_lt head.size (2 ^ 63)

-- whether a file is what its tag says
abbrev pub object_head_agrees_with_tag : StoredHead → Tag → Bool
object_head_agrees_with_tag head tag = cond (is_none tag.id) (object_head_agrees_whole head tag) (object_head_agrees_parts head tag)

-- the head of an object, by what its tag and its pack read as
abbrev pub head_by : StoredHead → Option Tag → Option (List Pair) → Option ObjectHead
head_by head None meta = None
head_by head (Some tag) None = None
head_by head (Some tag) (Some meta) =
    cond (object_head_agrees_with_tag head tag) (Some (record { etag = tag.etag; modified = tag.moment; size = head.size; content_type = tag.content_type; meta = meta })) None

-- what the head of a file says of the object
abbrev pub head_from : StoredHead → Option ObjectHead
head_from head = head_by head (read_tag head.content_type) (unpacked head.meta)

-- a head that a page can give: its moment has a date, and numbers hold its size
abbrev pub IsShownHead : Option ObjectHead → Type 0
IsShownHead None = Unit {0}
IsShownHead (Some head) = (head.modified < moment_limit) × (head.size < 2 ^ 63)

abbrev pub known : {T : Type 0} → Option T → Result (Option T) PlanFault
known None = Err fault.Inconsistent
known (Some x) = Ok (Some x)

-- HEAD of an object's file
abbrev pub head_due : SwiftReply → Result (Option ObjectHead) PlanFault
head_due (Head head) = known (head_from head)
head_due NotFound = Ok None
head_due _ = Err fault.Inconsistent

-- whether a file with this tag is what the tag says, of an object with this ETag and this size
abbrev pub unchanged_by : List ℕ → ℕ → StoredHead → Option Tag → Bool
unchanged_by etag size head None = false
unchanged_by etag size head (Some tag) = object_head_agrees_with_tag head tag && bytes_eq tag.etag etag && (head.size == size)

abbrev pub is_unchanged : List ℕ → ℕ → StoredHead → Bool
is_unchanged etag size head = unchanged_by etag size head (read_tag head.content_type)

-- GET of an object's file, or of a range of it, of which it may have no byte: HEAD told this ETag and this size of the object
abbrev pub bytes_due : List ℕ → ℕ → SwiftReply → Result (Option (List ℕ)) PlanFault
bytes_due etag size (Bytes head body) = if is_unchanged etag size head then Ok (Some body) else Err fault.Inconsistent
bytes_due etag size Unsatisfiable = Ok None
bytes_due etag size NotFound = Ok None
bytes_due etag size _ = Err fault.Inconsistent

-- PUT of a file whose bytes have this ETag: the store has them with the same
abbrev pub stored_due : List ℕ → SwiftReply → Result (Unit {0}) PlanFault
stored_due etag (Stored stored) = cond (bytes_eq stored etag) (Ok tt) (Err fault.Inconsistent)
stored_due etag _ = Err fault.Inconsistent

-- DELETE of a file: also one that isn't there is gone
abbrev pub gone_due : SwiftReply → Result (Unit {0}) PlanFault
gone_due Gone = Ok tt
gone_due NotFound = Ok tt
gone_due _ = Err fault.Inconsistent

-- PUT of a container that is missing
abbrev pub made_due : SwiftReply → Result (Unit {0}) PlanFault
made_due Made = Ok tt
made_due _ = Err fault.Inconsistent

-- DELETE of a bucket's container
abbrev pub dropped_due : SwiftReply → Result Dropped PlanFault
dropped_due Gone = Ok dropped.Gone
dropped_due NotEmpty = Ok dropped.Full
dropped_due NotFound = Ok dropped.Missing
dropped_due _ = Err fault.Inconsistent

-- POST of a bucket's container: whether it is there
abbrev pub set_due : SwiftReply → Result Bool PlanFault
set_due Gone = Ok true
set_due NotFound = Ok false
set_due _ = Err fault.Inconsistent

-- ---- what is put

-- the tag of an object that is put in one piece, with the ETag of its bytes
abbrev pub plain_tag : List ℕ → List ℕ → ℕ → Tag
plain_tag content_type etag moment = record { content_type = content_type; etag = etag; moment = moment; id = None }

-- the PUT of an object's file
abbrev pub put_of : List ℕ → List ℕ → List ℕ → List Pair → List ℕ → ℕ → SwiftRequest
put_of bucket key content_type meta body moment = PutObject bucket key (tag_text (plain_tag content_type (body_etag body) moment)) (pack_of meta) body

-- GET of the list of a file's segments
abbrev pub listed_due : SwiftReply → Result (List Segment) PlanFault
listed_due (Manifest segments) = Ok segments
listed_due _ = Err fault.Inconsistent
