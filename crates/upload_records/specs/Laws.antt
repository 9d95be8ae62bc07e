-- What the laws of this crate say.
use Rattle.std.specs.Prelude.{◌≡◌, ◌<◌, ◌≤◌, ◌+◌, ◌^◌, ℕ, Bool, List, [], ◌∷◌, map, length, sum_by, true, is_some, Option, None, Some}
use Rattle.std.specs.List.{All}
use Rattle.std.specs.Option.{option_map}
use Rattle.std.specs.FinMap.{empty, get, insert, remove}
use Rattle.gate_base.specs.Maps.{Names, adjust}
use Rattle.gate_base.specs.Told.{moment_limit}
use Rattle.gate_base.specs.declared.page.Pair.{Pair}
use Rattle.s3_names.specs.declared.acl.Acl.{Acl}
use Rattle.s3_names.specs.Bucket.{is_bucket}
use Rattle.s3_names.specs.Id.{id_digits}
use Rattle.s3_names.specs.Key.{is_key}
use Rattle.s3_names.specs.Meta.{names_ascend}
use Rattle.s3_machine.specs.ETag.{body_etag}
use Rattle.s3_machine.specs.Limits.{is_content_type, is_proper_meta, most_body_bytes}
use Rattle.slo_manifest.specs.declared.Segment.{Segment}
use Rattle.swift_marks.specs.Tag.{has_text, is_etag}
use Rattle.swift_marks.specs.Pack.{has_pack}
use Rattle.s3_machine.specs.State.{Object, Part, Upload, State}
use Rattle.s3_machine.specs.Step.{new_bucket, with_acl, put_object, drop_object}
use Rattle.s3_machine.specs.Finish.{finished}
use Rattle.s3_machine.specs.Step as machine
use Rattle.s3_machine.specs.Uploads.{new_upload, open_upload, drop_upload, on_upload, new_part, with_part, greatest_part, most_parts, rises_from}
use Rattle.swift_calls.specs.Account.{SwiftObject, SwiftAccount, files, find_object, put_file}
use Rattle.swift_calls.specs.Bodies.{outer_bytes, joined}
use Rattle.swift_calls.specs.Step.{swift_step, only_reads}
use Rattle.swift_calls.specs.Step as store
use Rattle.swift_calls.specs.declared.account.Content.TheVariants.{Plain, Segments}
use Rattle.swift_calls.specs.declared.account.ReadList.TheVariants.{Nobody}
use Rattle.swift_calls.specs.declared.calls.SwiftRequest.{SwiftRequest}
use Rattle.swift_calls.specs.Files.{PutFile, PutObject}
use Rattle.swift_calls.specs.declared.calls.SwiftRequest.TheVariants.{PutContainer, PostContainer, DeleteContainer, DeleteObject}
use Rattle.upload_texts.specs.Records.{read_record}
use Rattle.upload_texts.specs.Sealed.{read_sealed}
use Rattle.upload_texts.specs.declared.sealed.Sealed.{Sealed}
use Rattle.upload_texts.specs.declared.sealed.SealedPart.{SealedPart}
use Rattle.upload_texts.specs.declared.record.Record.TheVariants.{Open}
use Rattle.upload_records.specs.Layout.{uploads_name, segments_name, gateway_name, sealed_name, writer_name, segment_name, sub_manifest_name, readers_of}
use Rattle.upload_records.specs.Native.{within, sealed_bytes, listed_of, filled_parts, part_segments, sealed_segments, sealed_sub_manifests, sub_file_at, object_of, object_at, record_at, seal_of, sealed_object, sealed_record, sealed_tag, completed_file, finished_from, SameGateway, IsUnsealed, s3_state}
use Rattle.upload_records.specs.Consistent.{IsBeside, HasBareSides, IsConsistent, IsPlainObject, IsObject, IsPart, IsOpen, IsListOf, HasList, AreParts, HasSubManifests, IsSegmentList, IsSubManifest, IsSegment, AreSealedParts, IsStored, IsThere, SealedIn}

-- a call is quiet on an account: the account after it is consistent, and represents the same state
pub record DoesStutter (tree : SwiftAccount) (request : SwiftRequest) : Type 0 where
  pub sound : IsConsistent (swift_step request tree).tree
  pub same : s3_state (swift_step request tree).tree ≡ s3_state tree

-- a call that only reads is quiet
abbrev pub ReadsStutter : Type 0
ReadsStutter = (tree : SwiftAccount) (request : SwiftRequest) → only_reads request ≡ true → IsConsistent tree → DoesStutter tree request

-- the account after a call is consistent, it represents the state that is changed by f, and the gateway's own container is as
-- it was, so that an account that was settled still is
pub record ChangesBy (tree : SwiftAccount) (request : SwiftRequest) (f : State → State) : Type 0 where
  pub sound : IsConsistent (swift_step request tree).tree
  pub state : s3_state (swift_step request tree).tree ≡ f (s3_state tree)
  pub gateway : SameGateway tree (swift_step request tree).tree

-- the PUT of a bucket's container that is missing, beside which both containers are there and empty, makes the bucket
abbrev pub BucketMade : Type 0
BucketMade = (tree : SwiftAccount) (name : List ℕ) (acl : Acl) (moment : ℕ) → is_bucket name ≡ true → moment < moment_limit → IsConsistent tree
    → IsUnsealed tree → get tree name ≡ None → HasBareSides tree name
    → ChangesBy tree (PutContainer name (readers_of acl) (Some moment)) (λ state. insert state name (new_bucket moment acl))

-- a bucket is there exactly where its container is
abbrev pub BucketThere : Type 0
BucketThere = (tree : SwiftAccount) (name : List ℕ) → is_bucket name ≡ true → IsUnsealed tree → is_some (get (s3_state tree) name) ≡ is_some (get tree name)

-- a bucket has no object exactly where its container has none
abbrev pub BucketBare : Type 0
BucketBare = (tree : SwiftAccount) (name : List ℕ) → is_bucket name ≡ true → IsConsistent tree → IsUnsealed tree
    → option_map machine.is_bare (get (s3_state tree) name) ≡ option_map store.is_bare (get tree name)

-- the DELETE of a bucket's container that has no object takes the bucket away
abbrev pub BucketGone : Type 0
BucketGone = (tree : SwiftAccount) (name : List ℕ) → is_bucket name ≡ true → IsConsistent tree → IsUnsealed tree
    → option_map store.is_bare (get tree name) ≡ Some true → ChangesBy tree (DeleteContainer name) (λ state. remove state name)

-- the POST of a bucket's container replaces who may read it
abbrev pub AclReplaced : Type 0
AclReplaced = (tree : SwiftAccount) (name : List ℕ) (acl : Acl) → is_bucket name ≡ true → IsConsistent tree → IsUnsealed tree
    → ChangesBy tree (PostContainer name (readers_of acl)) (adjust name (with_acl acl))

-- the empty account is consistent, no completion is sealed on it, and it represents the state without a bucket
abbrev pub EmptyConsistent : Type 0
EmptyConsistent = IsConsistent empty × IsUnsealed empty × (s3_state empty ≡ empty)

-- the object that a file put in one piece is
abbrev pub object_in : {file : SwiftObject} → IsPlainObject file → Object
object_in plain = record { bytes = plain.bytes; etag = body_etag plain.bytes; content_type = plain.content_type; meta = plain.meta; modified = plain.moment }

-- the file that a PUT with these leaves
abbrev pub file_put : List ℕ → List (List ℕ) → List ℕ → SwiftObject
file_put content_type meta body = record { content_type = content_type; meta = meta; content = Plain body }

-- the PUT of an object's file into a bucket puts the object
abbrev pub ObjectPut : Type 0
ObjectPut = (tree : SwiftAccount) (bucket key content_type : List ℕ) (meta : List (List ℕ)) (body : List ℕ)
    (plain : IsPlainObject (file_put content_type meta body))
    → is_bucket bucket ≡ true → is_key key ≡ true → IsStored key (file_put content_type meta body) → IsConsistent tree → IsUnsealed tree
    → ChangesBy tree (PutObject bucket key content_type meta body) (adjust bucket (put_object key (object_in plain)))

-- the DELETE of a file of a bucket takes the object away
abbrev pub ObjectGone : Type 0
ObjectGone = (tree : SwiftAccount) (bucket key : List ℕ) → is_bucket bucket ≡ true → IsConsistent tree → IsUnsealed tree
    → ChangesBy tree (DeleteObject bucket key) (adjust bucket (drop_object key))

-- an object of the state is what the file of its key represents, which has the form of one
abbrev pub FindsObject : SwiftAccount → List ℕ → List ℕ → Option SwiftObject → Type 0
FindsObject tree bucket key None = object_at (get (s3_state tree) bucket) key ≡ None
FindsObject tree bucket key (Some file) = IsObject (files tree (segments_name bucket)) (segments_name bucket) key file
    × (o : Object) × (object_of (files tree (segments_name bucket)) key file ≡ Some o) × (object_at (get (s3_state tree) bucket) key ≡ Some o)

-- over a consistent account an object of the state is what the file of its key represents
abbrev pub ObjectFound : Type 0
ObjectFound = (tree : SwiftAccount) (bucket key : List ℕ) → is_bucket bucket ≡ true → IsConsistent tree → IsUnsealed tree
    → FindsObject tree bucket key (find_object tree bucket key)

-- ---- uploads

-- a call leaves the state as it is: the account after it is consistent, and the gateway's own container is as it was
abbrev pub IsQuiet : SwiftAccount → SwiftRequest → Type 0
IsQuiet tree request = ChangesBy tree request (λ state. state)

-- the part that a file is
abbrev pub part_in : {name : List ℕ} {file : SwiftObject} → IsPart name file → Part
part_in part = new_part part.moment part.bytes

-- the PUT of a part's file under an upload that is open puts the part in place of the one of its number
abbrev pub PartPut : Type 0
PartPut = (tree : SwiftAccount) (bucket name content_type : List ℕ) (meta : List (List ℕ)) (body : List ℕ) (part : IsPart name (file_put content_type meta body))
    → is_bucket bucket ≡ true → IsOpen (record_at (files tree (uploads_name bucket)) (id_digits part.id)) → IsStored name (file_put content_type meta body)
    → IsConsistent tree → IsUnsealed tree
    → ChangesBy tree (PutObject (segments_name bucket) name content_type meta body) (adjust bucket (on_upload (id_digits part.id) (with_part part.number (part_in part))))

-- nothing stands beside a bucket under the text of an id, neither a record nor a segment nor a sub-manifest
pub record IsUnused (tree : SwiftAccount) (bucket id : List ℕ) : Type 0 where
  pub unrecorded : get (files tree (uploads_name bucket)) id ≡ None
  pub bare : (number : ℕ) → get (files tree (segments_name bucket)) (segment_name id number) ≡ None
  pub unlisted : (number : ℕ) → get (files tree (segments_name bucket)) (sub_manifest_name id number) ≡ None

-- a text that is the record of an upload that is open
pub record IsOpenText (text : List ℕ) : Type 0 where
  pub key : List ℕ
  pub content_type : List ℕ
  pub meta : List Pair
  pub started : ℕ
  pub reads : read_record text ≡ Some (Open key content_type meta started)

-- the upload, as it is created
abbrev pub upload_in : {text : List ℕ} → IsOpenText text → Upload
upload_in opens = new_upload opens.key opens.content_type opens.meta opens.started

-- the PUT of an open record under an id under which nothing stands opens the upload, without parts
abbrev pub UploadOpened : Type 0
UploadOpened = (tree : SwiftAccount) (bucket : List ℕ) (id : ℕ) (content_type : List ℕ) (meta : List (List ℕ)) (text : List ℕ) (opens : IsOpenText text)
    → is_bucket bucket ≡ true → id < 2 ^ 128 → IsUnused tree bucket (id_digits id) → IsStored (id_digits id) (file_put content_type meta text)
    → IsConsistent tree → IsUnsealed tree
    → ChangesBy tree (PutObject (uploads_name bucket) (id_digits id) content_type meta text) (adjust bucket (open_upload (id_digits id) (upload_in opens)))

-- the DELETE of an open record drops the upload
abbrev pub UploadDropped : Type 0
UploadDropped = (tree : SwiftAccount) (bucket id : List ℕ) → is_bucket bucket ≡ true → IsOpen (record_at (files tree (uploads_name bucket)) id)
    → IsConsistent tree → IsUnsealed tree → ChangesBy tree (DeleteObject (uploads_name bucket) id) (adjust bucket (drop_upload id))

-- what is there stays there
abbrev pub StaysThere : SwiftAccount → SwiftAccount → Type 0
StaysThere tree new = (name : List ℕ) → IsThere tree name → IsThere new name

-- a call that leaves the state and the files of each container, and after which a container is there
pub record MakesSide (tree : SwiftAccount) (request : SwiftRequest) (name : List ℕ) : Type 0 where
  pub quiet : IsQuiet tree request
  pub there : IsThere (swift_step request tree).tree name
  pub stays : StaysThere tree (swift_step request tree).tree
  pub holds : (folder : List ℕ) → files (swift_step request tree).tree folder ≡ files tree folder

-- the PUT of a container beside a bucket, which may be there
abbrev pub SideMade : Type 0
SideMade = (tree : SwiftAccount) (bucket name : List ℕ) (created : Option ℕ) → IsBeside name bucket → IsConsistent tree → IsUnsealed tree
    → MakesSide tree (PutContainer name Nobody created) name

-- a call that leaves the state, and each container where it is
pub record LeavesContainers (tree : SwiftAccount) (request : SwiftRequest) : Type 0 where
  pub quiet : IsQuiet tree request
  pub stays : StaysThere tree (swift_step request tree).tree

-- the DELETE of a file beside a bucket that is missing leaves the state
abbrev pub SideFileGone : Type 0
SideFileGone = (tree : SwiftAccount) (bucket folder name : List ℕ) → IsBeside folder bucket → get tree bucket ≡ None → IsConsistent tree → IsUnsealed tree
    → LeavesContainers tree (DeleteObject folder name) × (get (swift_step (DeleteObject folder name) tree).tree bucket ≡ None)

-- no upload is open under the text of an id, and no object of the bucket lists its segments
pub record IsAbandoned (tree : SwiftAccount) (bucket id : List ℕ) : Type 0 where
  pub closed : IsOpen (record_at (files tree (uploads_name bucket)) id) → ⊥
  pub unlisted : (j : ℕ) → id_digits j ≡ id → HasList (files tree bucket) (files tree (segments_name bucket)) j → ⊥

-- the DELETE of an open record leaves the segments of the upload to be deleted
abbrev pub UploadAbandoned : Type 0
UploadAbandoned = (tree : SwiftAccount) (bucket id : List ℕ) → is_bucket bucket ≡ true → IsThere tree bucket → IsOpen (record_at (files tree (uploads_name bucket)) id)
    → IsConsistent tree → IsUnsealed tree → IsAbandoned (swift_step (DeleteObject (uploads_name bucket) id) tree).tree bucket id

-- a name under the text of an id: of a part, or of a sub-manifest
pub data IsNameUnder (id name : List ℕ) : Type 0 where
  of_part : (number : ℕ) → name ≡ segment_name id number → IsNameUnder id name
  of_sub_manifest : (number : ℕ) → name ≡ sub_manifest_name id number → IsNameUnder id name

-- the DELETE of a segment of an upload that nothing names, or of a sub-manifest, leaves the state, and the other segments as such
abbrev pub OrphanGone : Type 0
OrphanGone = (tree : SwiftAccount) (bucket id name : List ℕ) → is_bucket bucket ≡ true → IsNameUnder id name → IsAbandoned tree bucket id → IsConsistent tree → IsUnsealed tree
    → IsQuiet tree (DeleteObject (segments_name bucket) name)
    × IsAbandoned (swift_step (DeleteObject (segments_name bucket) name) tree).tree bucket id

-- ---- copies

-- a call that puts a segment under the text of an id that nothing names: it leaves the state, the bucket and its records, and the
-- segments of the id as such
pub record PutsOrphan (tree : SwiftAccount) (request : SwiftRequest) (bucket id name : List ℕ) (file : SwiftObject) : Type 0 where
  pub quiet : IsQuiet tree request
  pub abandoned : IsAbandoned (swift_step request tree).tree bucket id
  pub there : IsThere (swift_step request tree).tree bucket
  pub objects : files (swift_step request tree).tree bucket ≡ files tree bucket
  pub records : files (swift_step request tree).tree (uploads_name bucket) ≡ files tree (uploads_name bucket)
  pub holds : files (swift_step request tree).tree (segments_name bucket) ≡ insert (files tree (segments_name bucket)) name file

-- the PUT of a part's file under an id that nothing names
abbrev pub OrphanPut : Type 0
OrphanPut = (tree : SwiftAccount) (bucket name content_type : List ℕ) (meta : List (List ℕ)) (body : List ℕ) (part : IsPart name (file_put content_type meta body))
    → is_bucket bucket ≡ true → IsThere tree bucket → IsAbandoned tree bucket (id_digits part.id) → IsStored name (file_put content_type meta body)
    → IsConsistent tree → IsUnsealed tree
    → PutsOrphan tree (PutObject (segments_name bucket) name content_type meta body) bucket (id_digits part.id) name (file_put content_type meta body)

-- an account after which a file is put under the text of an id that nothing names: it has the same state, the bucket and its records,
-- and nothing names the id
pub record KeepsOrphan (tree new : SwiftAccount) (bucket id name : List ℕ) (file : SwiftObject) : Type 0 where
  pub sound : IsConsistent new
  pub same : s3_state new ≡ s3_state tree
  pub gateway : SameGateway tree new
  pub abandoned : IsAbandoned new bucket id
  pub there : IsThere new bucket
  pub objects : files new bucket ≡ files tree bucket
  pub records : files new (uploads_name bucket) ≡ files tree (uploads_name bucket)
  pub holds : files new (segments_name bucket) ≡ insert (files tree (segments_name bucket)) name file

-- the PUT of a sub-manifest under an id that nothing names
abbrev pub OrphanListed : Type 0
OrphanListed = (tree : SwiftAccount) (bucket name : List ℕ) (file : SwiftObject) (sub : IsSubManifest name file) → is_bucket bucket ≡ true → IsThere tree bucket
    → IsAbandoned tree bucket (id_digits sub.id) → IsStored name file → IsConsistent tree → IsUnsealed tree
    → KeepsOrphan tree (put_file (segments_name bucket) name file tree) bucket (id_digits sub.id) name file

-- nothing names the segments of an id under which nothing stands: those that an object lists are there
abbrev pub UnusedIsAbandoned : Type 0
UnusedIsAbandoned = (tree : SwiftAccount) (bucket id : List ℕ) → is_bucket bucket ≡ true → IsUnused tree bucket id → IsConsistent tree → IsAbandoned tree bucket id

-- an account after which an object is put
pub record PutsFile (tree : SwiftAccount) (bucket key : List ℕ) (o : Object) (new : SwiftAccount) : Type 0 where
  pub sound : IsConsistent new
  pub state : s3_state new ≡ adjust bucket (put_object key o) (s3_state tree)
  pub gateway : SameGateway tree new

-- the PUT of a file that is an object of a bucket, of whose list no upload is open, puts the object that it represents
abbrev pub FilePut : Type 0
FilePut = (tree : SwiftAccount) (bucket key : List ℕ) (file : SwiftObject) (o : Object) → is_bucket bucket ≡ true
    → IsObject (files tree (segments_name bucket)) (segments_name bucket) key file → object_of (files tree (segments_name bucket)) key file ≡ Some o
    → ((id : ℕ) → IsListOf file id → IsOpen (record_at (files tree (uploads_name bucket)) (id_digits id)) → ⊥)
    → IsStored key file → IsConsistent tree → IsUnsealed tree → PutsFile tree bucket key o (put_file bucket key file tree)

-- what an object has, so that it may be put again: its content type, its ETag, its moment and its metadata keep their limits, and
-- one without an ETag of parts has the ETag and the size of a body
pub record IsProperStored (o : Object) : Type 0 where
  pub typed : is_content_type o.content_type ≡ true
  pub etag : is_etag o.etag ≡ true
  pub dated : o.modified < moment_limit
  pub described : is_proper_meta o.meta ≡ true
  pub ordered : names_ascend o.meta ≡ true
  pub whole : length o.etag ≤ 32 → (o.etag ≡ body_etag o.bytes) × (length o.bytes ≤ most_body_bytes)

-- over a consistent account each object may be put again
abbrev pub ObjectProper : Type 0
ObjectProper = (tree : SwiftAccount) (bucket key : List ℕ) (o : Object) → is_bucket bucket ≡ true → IsConsistent tree → IsUnsealed tree
    → object_at (get (s3_state tree) bucket) key ≡ Some o → IsProperStored o

-- a list of parts of one id, with numbers that ascend, each of them with some bytes and no more than a body has, by themselves or by
-- their sub-manifests; in a row they are the bytes of an object, whose ETag is one of parts
pub record ListsParts (segments : Names SwiftObject) (folder : List ℕ) (listed : List Segment) (o : Object) : Type 0 where
  pub id : ℕ
  pub list : IsSegmentList segments folder (id_digits id) listed
  pub sized : All (λ s. (0 < s.size) × (s.size ≤ most_body_bytes)) list.parts
  pub of_upload : 32 < length o.etag
  pub bytes : joined (outer_bytes (within segments)) list.parts ≡ Some o.bytes
  pub whole : sum_by (λ s. s.size) list.parts ≡ length o.bytes

-- what the segments are that the file of an object lists
abbrev pub ObjectListed : Type 0
ObjectListed = (tree : SwiftAccount) (bucket key : List ℕ) (file : SwiftObject) (listed : List Segment) (o : Object) → is_bucket bucket ≡ true → IsConsistent tree → IsUnsealed tree
    → find_object tree bucket key ≡ Some file → file.content ≡ Segments listed → object_at (get (s3_state tree) bucket) key ≡ Some o
    → ListsParts (files tree (segments_name bucket)) (segments_name bucket) listed o

-- the file of an object lists segments
pub record HasListing (tree : SwiftAccount) (bucket key : List ℕ) : Type 0 where
  pub file : SwiftObject
  pub listed : List Segment
  pub there : find_object tree bucket key ≡ Some file
  pub lists : file.content ≡ Segments listed

-- the file of an object with an ETag of parts lists segments, unless the object is empty
abbrev pub ListingFound : Type 0
ListingFound = (tree : SwiftAccount) (bucket key : List ℕ) (o : Object) → is_bucket bucket ≡ true → IsConsistent tree → IsUnsealed tree
    → object_at (get (s3_state tree) bucket) key ≡ Some o → 32 < length o.etag → 0 < length o.bytes → HasListing tree bucket key

-- ---- the gateway's own container

-- a call that leaves the state, be a completion sealed or not, and after which the gateway's own container is there
pub record MakesGateway (tree : SwiftAccount) (request : SwiftRequest) : Type 0 where
  pub sound : IsConsistent (swift_step request tree).tree
  pub same : s3_state (swift_step request tree).tree ≡ s3_state tree
  pub there : IsThere (swift_step request tree).tree gateway_name

-- the PUT of the gateway's own container, which may be there
abbrev pub GatewayMade : Type 0
GatewayMade = (tree : SwiftAccount) (created : Option ℕ) → IsConsistent tree → MakesGateway tree (PutContainer gateway_name Nobody created)

-- a call that seals a completion: the account after it is consistent, and in its state the completion is finished
pub record SealsCompletion (tree : SwiftAccount) (request : SwiftRequest) (s : Sealed) : Type 0 where
  pub sound : IsConsistent (swift_step request tree).tree
  pub state : s3_state (swift_step request tree).tree ≡ finished (finished_from (files tree (segments_name s.bucket)) s) (s3_state tree)
  pub seals : seal_of (swift_step request tree).tree ≡ Some s

-- the PUT, fresh or not, of a text that reads as a completion which stands beside its bucket, where none is sealed and the container is
-- there
abbrev pub CompletionSealed : Type 0
CompletionSealed = (tree : SwiftAccount) (content_type : List ℕ) (meta : List (List ℕ)) (text : List ℕ) (fresh : Bool) (s : Sealed) → read_sealed text ≡ Some s
    → IsThere tree gateway_name → SealedIn tree s → IsStored sealed_name (file_put content_type meta text) → IsConsistent tree → IsUnsealed tree
    → SealsCompletion tree (PutFile gateway_name sealed_name content_type meta text fresh) s

-- an account after which nothing has changed of the state, nor of what is sealed, whatever else the gateway's own container has
pub record KeepsSealed (tree new : SwiftAccount) : Type 0 where
  pub sound : IsConsistent new
  pub same : s3_state new ≡ s3_state tree
  pub sealed : seal_of new ≡ seal_of tree
  pub there : is_some (get new gateway_name) ≡ is_some (get tree gateway_name)

-- the PUT of the word of the program that writes, fresh or not, also where the container is missing
abbrev pub WordPut : Type 0
WordPut = (tree : SwiftAccount) (content_type : List ℕ) (meta : List (List ℕ)) (text : List ℕ) (fresh : Bool) → IsStored writer_name (file_put content_type meta text)
    → IsConsistent tree → KeepsSealed tree (swift_step (PutFile gateway_name writer_name content_type meta text fresh) tree).tree

-- ---- rolling a sealed completion forward

-- an account after which nothing has changed of the state, nor of what is sealed
pub record Rolls (tree new : SwiftAccount) : Type 0 where
  pub sound : IsConsistent new
  pub same : s3_state new ≡ s3_state tree
  pub gateway : SameGateway tree new

-- while a completion is sealed, the PUT of one of its sub-manifests
abbrev pub SubRolled : Type 0
SubRolled = (tree : SwiftAccount) (s : Sealed) (n : ℕ) → seal_of tree ≡ Some s → n < sealed_sub_manifests s
    → IsSubManifest (sub_manifest_name (id_digits s.id) (n + 1)) (sub_file_at s n) → IsStored (sub_manifest_name (id_digits s.id) (n + 1)) (sub_file_at s n) → IsConsistent tree
    → Rolls tree (put_file (segments_name s.bucket) (sub_manifest_name (id_digits s.id) (n + 1)) (sub_file_at s n) tree)

-- while a completion is sealed, the PUT of a file under its key that is an object, and lists segments of its id if any
abbrev pub ObjectRolled : Type 0
ObjectRolled = (tree : SwiftAccount) (s : Sealed) (file : SwiftObject) → seal_of tree ≡ Some s → IsObject (files tree (segments_name s.bucket)) (segments_name s.bucket) s.key file
    → ((id : ℕ) → IsListOf file id → id ≡ s.id) → IsStored s.key file → IsConsistent tree → Rolls tree (put_file s.bucket s.key file tree)

-- while a completion is sealed, the PUT of its record
abbrev pub RecordRolled : Type 0
RecordRolled = (tree : SwiftAccount) (s : Sealed) (content_type : List ℕ) (meta : List (List ℕ)) (text : List ℕ) → seal_of tree ≡ Some s → read_record text ≡ Some (sealed_record s)
    → IsStored (id_digits s.id) (file_put content_type meta text) → IsConsistent tree
    → Rolls tree (swift_step (PutObject (uploads_name s.bucket) (id_digits s.id) content_type meta text) tree).tree

-- the object and the record of a completion are there
pub record IsRolled (tree : SwiftAccount) (s : Sealed) : Type 0 where
  pub file : SwiftObject
  pub there : find_object tree s.bucket s.key ≡ Some file
  pub stands : object_of (files tree (segments_name s.bucket)) s.key file ≡ Some (sealed_object (files tree (segments_name s.bucket)) s)
  pub recorded : record_at (files tree (uploads_name s.bucket)) (id_digits s.id) ≡ Some (sealed_record s)

-- a call that leaves the state, and after which no completion is sealed
pub record Unseals (tree : SwiftAccount) (request : SwiftRequest) : Type 0 where
  pub sound : IsConsistent (swift_step request tree).tree
  pub same : s3_state (swift_step request tree).tree ≡ s3_state tree
  pub none : IsUnsealed (swift_step request tree).tree

-- the DELETE of the file of a sealed completion whose object and record are there
abbrev pub SealGone : Type 0
SealGone = (tree : SwiftAccount) (s : Sealed) → seal_of tree ≡ Some s → IsRolled tree s → IsConsistent tree → Unseals tree (DeleteObject gateway_name sealed_name)

-- each part of a list has a number that a part may have
abbrev pub AreCounted : List SealedPart → Type 0
AreCounted [] = Unit {0}
AreCounted (p ∷ list) = (p.number ≤ greatest_part) × AreCounted list

-- the parts that a completion lists, but the empty ones, make a list of segments of its id, whose bytes are those of its object
abbrev pub ListingStands : Type 0
ListingStands = (segments : Names SwiftObject) (folder id : List ℕ) (above : ℕ) (list : List SealedPart) → rises_from above (map listed_of list) ≡ true → AreCounted list
    → ((name : List ℕ) (file : SwiftObject) → get segments name ≡ Some file → IsSegment name file) → AreSealedParts segments id list
    → AreParts segments folder id above (part_segments folder id (filled_parts list))
    × (joined (outer_bytes (within segments)) (part_segments folder id (filled_parts list)) ≡ Some (sealed_bytes segments id list))

-- a sealed completion whose object may stand on the store: its tag and its pack have a text, and its parts and sub-manifests are there
pub record MayStand (segments : Names SwiftObject) (s : Sealed) : Type 0 where
  pub keyed : is_key s.key ≡ true
  pub tagged : has_text (sealed_tag s) ≡ true
  pub of_upload : 32 < length s.etag
  pub packed : has_pack s.meta ≡ true
  pub described : is_proper_meta s.meta ≡ true
  pub ascends : rises_from 0 (map listed_of s.list) ≡ true
  pub counted : AreCounted s.list
  pub few : length s.list ≤ most_parts
  pub filed : (name : List ℕ) (file : SwiftObject) → get segments name ≡ Some file → IsSegment name file
  pub parts : AreSealedParts segments (id_digits s.id) s.list
  pub subs : HasSubManifests segments (id_digits s.id) (sealed_segments s) (sealed_sub_manifests s)

-- a file that is the object of a sealed completion
pub record Stands (segments : Names SwiftObject) (s : Sealed) (file : SwiftObject) : Type 0 where
  pub is : IsObject segments (segments_name s.bucket) s.key file
  pub reads : object_of segments s.key file ≡ Some (sealed_object segments s)
  pub lists : (id : ℕ) → IsListOf file id → id ≡ s.id

-- the file that rolling forward puts is the completion's object
abbrev pub CompletedStands : Type 0
CompletedStands = (segments : Names SwiftObject) (s : Sealed) → MayStand segments s → Stands segments s (completed_file s)
