-- What holds of each account that only the gateway writes. Source: this profile.
use Rattle.std.specs.Prelude.{◌≡◌, ◌⊎◌, ◌<◌, ◌≤◌, ◌+◌, ◌^◌, ℕ, List, [], ◌∷◌, map, cond, true, false, bytes_eq, length, Contains, IsUtf8, is_some, Option, Some, None, IfSome}
use Rattle.std.specs.Option.{option_map}
use Rattle.std.specs.FinMap.{get, empty}
use Rattle.gate_base.specs.Maps.{Names}
use Rattle.gate_base.specs.Told.{moment_limit}
use Rattle.gate_base.specs.declared.page.Pair.{Pair}
use Rattle.s3_names.specs.Bucket.{is_bucket}
use Rattle.s3_names.specs.Id.{id_digits}
use Rattle.s3_names.specs.Key.{is_key}
use Rattle.s3_machine.specs.ETag.{body_etag}
use Rattle.s3_machine.specs.Limits.{is_proper_meta, most_body_bytes}
use Rattle.s3_machine.specs.Uploads.{greatest_part, most_parts, IsPartNumber, upload_etag, rises}
use Rattle.slo_manifest.specs.declared.manifest.TheConstants.{MOST_SEGMENTS}
use Rattle.slo_manifest.specs.declared.Segment.{Segment}
use Rattle.swift_marks.specs.Tag.{read_tag}
use Rattle.swift_marks.specs.Pack.{unpacked}
use Rattle.swift_calls.specs.declared.account.ReadList.{ReadList}
use Rattle.swift_calls.specs.declared.account.ReadList.TheVariants.{Nobody}
use Rattle.swift_calls.specs.declared.account.Content.{Content}
use Rattle.swift_calls.specs.declared.account.Content.TheVariants.{Plain, Segments}
use Rattle.swift_calls.specs.Account.{SwiftObject, SwiftContainer, SwiftAccount, files, find_object, size_of}
use Rattle.swift_calls.specs.Bodies.{etag_of, etag_text, is_list}
use Rattle.upload_texts.specs.Records.{read_record}
use Rattle.upload_texts.specs.Sealed.{read_sealed}
use Rattle.upload_texts.specs.declared.record.Record.{Record}
use Rattle.upload_texts.specs.declared.record.Record.TheVariants.{Open, Done}
use Rattle.upload_texts.specs.declared.sealed.Sealed.{Sealed}
use Rattle.upload_texts.specs.declared.sealed.SealedPart.{SealedPart}
use Rattle.upload_records.specs.Layout.{uploads_name, segments_name, gateway_name, sealed_name, writer_name, segment_name, sub_manifest_name}
use Rattle.upload_records.specs.Native.{record_at, seal_of, listed_of, run, sub_manifests, listing_by, sealed_sub_manifests, sub_file_at}

-- ---- containers

-- a container, but for its objects
pub record Head : Type 0 where
  pub readers : ReadList
  pub created : Option ℕ

abbrev pub head_of : SwiftContainer → Head
head_of folder = record { readers = folder.readers; created = folder.created }

abbrev pub heads : SwiftAccount → List ℕ → Option Head
heads tree name = option_map head_of (get tree name)

-- a container beside a bucket
pub record IsBeside (name bucket : List ℕ) : Type 0 where
  pub of_bucket : is_bucket bucket ≡ true
  pub is : (name ≡ uploads_name bucket) ⊎ (name ≡ segments_name bucket)

-- the names that containers have: a bucket's, one beside a bucket, or the gateway's own
abbrev pub IsFolderName : List ℕ → Type 0
IsFolderName name = (is_bucket name ≡ true) ⊎ (((bucket : List ℕ) × IsBeside name bucket) ⊎ (name ≡ gateway_name))

-- something stands under the name
abbrev pub IsHere : (List ℕ → Option Head) → List ℕ → Type 0
IsHere at name = is_some (at name) ≡ true

-- the containers: their names, that only a bucket can be read by others, that each bucket has the moment at which it was made,
-- and that beside each bucket both containers stand
pub record ConsistentContainers (at : List ℕ → Option Head) : Type 0 where
  pub names : (name : List ℕ) (head : Head) → at name ≡ Some head → IsFolderName name
  pub hidden : (name : List ℕ) (head : Head) → at name ≡ Some head → is_bucket name ≡ false → head.readers ≡ Nobody
  pub timed : (name : List ℕ) (head : Head) → at name ≡ Some head → is_bucket name ≡ true
      → (moment : ℕ) × (head.created ≡ Some moment) × (moment < moment_limit)
  pub records_beside : (name : List ℕ) → is_bucket name ≡ true → IsHere at name → IsHere at (uploads_name name)
  pub segments_beside : (name : List ℕ) → is_bucket name ≡ true → IsHere at name → IsHere at (segments_name name)

-- ---- objects

-- a file that is an object as it was put: its bytes are its own, its type is the tag of the object, with the MD5 of the
-- bytes and no upload, and its metadata is the pack of the object's
pub record IsPlainObject (file : SwiftObject) : Type 0 where
  pub bytes : List ℕ
  pub content_type : List ℕ
  pub meta : List Pair
  pub moment : ℕ
  pub own : file.content ≡ Plain bytes
  pub sized : length bytes ≤ most_body_bytes
  pub tagged : read_tag file.content_type ≡ Some (record { content_type = content_type; etag = body_etag bytes; moment = moment; id = None })
  pub packed : unpacked file.meta ≡ Some meta
  pub described : is_proper_meta meta ≡ true

-- a segment of a list that is the part of a number, by the text of the upload's id: it stands in the container of that name
-- with bytes of its own, of which there are some, and as the list says
pub record IsListedPart (segments : Names SwiftObject) (folder id : List ℕ) (number : ℕ) (s : Segment) : Type 0 where
  pub file : SwiftObject
  pub bytes : List ℕ
  pub contained : s.container ≡ folder
  pub named : s.name ≡ segment_name id number
  pub there : get segments (segment_name id number) ≡ Some file
  pub own : file.content ≡ Plain bytes
  pub etag : s.etag ≡ etag_text bytes
  pub size : s.size ≡ length bytes
  pub filled : 0 < length bytes

-- segments that are parts of one upload, with numbers that ascend strictly and are above this one
abbrev pub AreParts : Names SwiftObject → List ℕ → List ℕ → ℕ → List Segment → Type 0
AreParts segments folder id above [] = Unit {0}
AreParts segments folder id above (s ∷ list) =
    (number : ℕ) × (above < number) × (number ≤ greatest_part) × IsListedPart segments folder id number s × AreParts segments folder id number list

-- the sub-manifest of a number, counted from 0, is there, and lists the run of these segments
pub record IsSubManifestOf (segments : Names SwiftObject) (id : List ℕ) (parts : List Segment) (n : ℕ) : Type 0 where
  pub file : SwiftObject
  pub there : get segments (sub_manifest_name id (n + 1)) ≡ Some file
  pub own : file.content ≡ Segments (run n parts)

-- each of the first sub-manifests is
abbrev pub HasSubManifests : Names SwiftObject → List ℕ → List Segment → ℕ → Type 0
HasSubManifests segments id parts count = (n : ℕ) → n < count → IsSubManifestOf segments id parts n

-- the segments that a completed object lists: the parts themselves, or the sub-manifests of which each lists a run of them, and which
-- are there
pub record IsSegmentList (segments : Names SwiftObject) (folder id : List ℕ) (listed : List Segment) : Type 0 where
  pub parts : List Segment
  pub some : 0 < length parts
  pub few : length parts ≤ most_parts
  pub are : AreParts segments folder id 0 parts
  pub lists : listed ≡ listing_by folder id parts
  pub subs : HasSubManifests segments id parts (sub_manifests (length parts))

-- what a completed object has as its body: nothing, or the segments of its upload
pub data IsCompletedBody (segments : Names SwiftObject) (folder id : List ℕ) (content : Content) : Type 0 where
  of_none : content ≡ Plain [] → IsCompletedBody segments folder id content
  of_segments : (listed : List Segment) → content ≡ Segments listed → IsSegmentList segments folder id listed → IsCompletedBody segments folder id content

-- a file that is the object of a completed upload: its type is the tag of the object, with an ETag of parts and the upload
pub record IsCompletedObject (segments : Names SwiftObject) (folder : List ℕ) (file : SwiftObject) : Type 0 where
  pub content_type : List ℕ
  pub etag : List ℕ
  pub meta : List Pair
  pub moment : ℕ
  pub id : ℕ
  pub tagged : read_tag file.content_type ≡ Some (record { content_type = content_type; etag = etag; moment = moment; id = Some id })
  pub of_upload : 32 < length etag
  pub packed : unpacked file.meta ≡ Some meta
  pub described : is_proper_meta meta ≡ true
  pub body : IsCompletedBody segments folder (id_digits id) file.content

-- an object of a bucket, beside which stand these segments in the container of that name, by the form of its file: put
-- in one piece, or completed from parts
pub data IsObject (segments : Names SwiftObject) (folder key : List ℕ) (file : SwiftObject) : Type 0 where
  in_one_piece : is_key key ≡ true → IsPlainObject file → IsObject segments folder key file
  in_parts : is_key key ≡ true → IsCompletedObject segments folder file → IsObject segments folder key file

-- ---- beside a bucket

-- a file that is the part of an upload: its name is the id and the number, its type a tag with the MD5 of its bytes and the id
pub record IsPart (name : List ℕ) (file : SwiftObject) : Type 0 where
  pub id : ℕ
  pub number : ℕ
  pub bytes : List ℕ
  pub content_type : List ℕ
  pub moment : ℕ
  pub named : name ≡ segment_name (id_digits id) number
  pub fits : id < 2 ^ 128
  pub counted : IsPartNumber number
  pub own : file.content ≡ Plain bytes
  pub sized : length bytes ≤ most_body_bytes
  pub tagged : read_tag file.content_type ≡ Some (record { content_type = content_type; etag = body_etag bytes; moment = moment; id = Some id })

-- the most sub-manifests that an object has: as many as there are runs of the most parts
abbrev pub most_sub_manifests : ℕ
most_sub_manifests = 10

-- a file that is a sub-manifest: its name is the id and the number, it lists segments, and its type is a tag with the ETag of the list
-- and the id
pub record IsSubManifest (name : List ℕ) (file : SwiftObject) : Type 0 where
  pub id : ℕ
  pub number : ℕ
  pub listed : List Segment
  pub content_type : List ℕ
  pub moment : ℕ
  pub named : name ≡ sub_manifest_name (id_digits id) number
  pub fits : id < 2 ^ 128
  pub from_one : 1 ≤ number
  pub within : number ≤ most_sub_manifests
  pub own : file.content ≡ Segments listed
  pub some : 0 < length listed
  pub few : length listed ≤ MOST_SEGMENTS
  pub tagged : read_tag file.content_type ≡ Some (record { content_type = content_type; etag = etag_of (Segments listed); moment = moment; id = Some id })

-- a file beside a bucket, by its form: a part, or a sub-manifest
pub data IsSegment (name : List ℕ) (file : SwiftObject) : Type 0 where
  is_part : IsPart name file → IsSegment name file
  is_sub_manifest : IsSubManifest name file → IsSegment name file

-- a file that is the record of an upload, whose id is its name
pub record IsRecord (name : List ℕ) (file : SwiftObject) : Type 0 where
  pub id : ℕ
  pub text : List ℕ
  pub is : Record
  pub named : name ≡ id_digits id
  pub fits : id < 2 ^ 128
  pub own : file.content ≡ Plain text
  pub reads : read_record text ≡ Some is

abbrev pub IsOpen : Option Record → Type 0
IsOpen None = ⊥
IsOpen (Some (Open key content_type meta started)) = Unit {0}
IsOpen (Some (Done key list etag started moment)) = ⊥

-- a file whose segments are listed under an id
pub record IsListOf (file : SwiftObject) (id : ℕ) : Type 0 where
  pub content_type : List ℕ
  pub etag : List ℕ
  pub moment : ℕ
  pub tagged : read_tag file.content_type ≡ Some (record { content_type = content_type; etag = etag; moment = moment; id = Some id })
  pub lists : is_list file.content ≡ true

-- the segments of an id are listed in a bucket: by an object
pub data HasList (objects segments : Names SwiftObject) (id : ℕ) : Type 0 where
  by_object : (key : List ℕ) (file : SwiftObject) → get objects key ≡ Some file → IsListOf file id → HasList objects segments id

-- a bucket: its objects, the records and the segments beside it, and the id of a completion that is sealed in it. No upload is
-- open whose segments are listed, by an object or by a sub-manifest, but that one
pub record ConsistentBucket (folder : List ℕ) (objects records segments : Names SwiftObject) (sealed : Option ℕ) : Type 0 where
  pub of_objects : (key : List ℕ) (file : SwiftObject) → get objects key ≡ Some file → IsObject segments folder key file
  pub of_segments : (name : List ℕ) (file : SwiftObject) → get segments name ≡ Some file → IsSegment name file
  pub of_records : (name : List ℕ) (file : SwiftObject) → get records name ≡ Some file → IsRecord name file
  pub apart : (id : ℕ) → HasList objects segments id → IsOpen (record_at records (id_digits id)) → sealed ≡ Some id
  pub subs_apart : (name : List ℕ) (file : SwiftObject) (sub : IsSubManifest name file) → get segments name ≡ Some file
      → IsOpen (record_at records (id_digits sub.id)) → sealed ≡ Some sub.id

-- ---- a completion that is sealed

abbrev pub sealed_in : Option Sealed → List ℕ → Option ℕ
sealed_in None bucket = None
sealed_in (Some s) bucket = cond (bytes_eq s.bucket bucket) (Some s.id) None

-- the id of a completion that is sealed in a bucket
abbrev pub sealed_id : SwiftAccount → List ℕ → Option ℕ
sealed_id tree bucket = sealed_in (seal_of tree) bucket

-- a part that is sealed is there with its ETag and its size
pub record IsSealedPart (segments : Names SwiftObject) (id : List ℕ) (p : SealedPart) : Type 0 where
  pub file : SwiftObject
  pub bytes : List ℕ
  pub there : get segments (segment_name id p.number) ≡ Some file
  pub own : file.content ≡ Plain bytes
  pub etag : p.etag ≡ etag_text bytes
  pub size : p.size ≡ length bytes

abbrev pub AreSealedParts : Names SwiftObject → List ℕ → List SealedPart → Type 0
AreSealedParts segments id [] = Unit {0}
AreSealedParts segments id (p ∷ list) = IsSealedPart segments id p × AreSealedParts segments id list

-- the record of its id, open or done, says the same in each field that both have
abbrev pub Agrees : Sealed → Option Record → Type 0
Agrees s None = ⊥
Agrees s (Some (Open key content_type meta started)) = (key ≡ s.key) × (content_type ≡ s.content_type) × (meta ≡ s.meta) × (started ≡ s.started)
Agrees s (Some (Done key list etag started moment)) =
    (key ≡ s.key) × (list ≡ map listed_of s.list) × (etag ≡ s.etag) × (started ≡ s.started) × IfSome moment (λ m. m ≡ s.moment)

-- a sub-manifest of its id is the one of its number that rolling it forward puts
pub record IsSealedSub (s : Sealed) (number : ℕ) (file : SwiftObject) : Type 0 where
  pub n : ℕ
  pub is : number ≡ n + 1
  pub within : n < sealed_sub_manifests s
  pub same : file ≡ sub_file_at s n

-- a completion that is sealed in a bucket, by the records and the segments beside it
pub record ConsistentSealed (records segments : Names SwiftObject) (s : Sealed) : Type 0 where
  pub ascends : rises (map listed_of s.list) ≡ true
  pub parts : AreSealedParts segments (id_digits s.id) s.list
  pub etag : s.etag ≡ upload_etag (map (λ p. p.etag) s.list)
  pub agrees : Agrees s (record_at records (id_digits s.id))
  pub subs : (number : ℕ) (file : SwiftObject) → get segments (sub_manifest_name (id_digits s.id) number) ≡ Some file → IsSealedSub s number file

-- a file of the gateway's own container that is a completion which is sealed. That it lists a part is said by its text
pub record IsSealedFile (name : List ℕ) (file : SwiftObject) : Type 0 where
  pub text : List ℕ
  pub is : Sealed
  pub named : name ≡ sealed_name
  pub own : file.content ≡ Plain text
  pub reads : read_sealed text ≡ Some is

-- a file of that container: what is sealed, or the word of the program that writes, of which nothing is asked
abbrev pub IsGatewayFile : List ℕ → SwiftObject → Type 0
IsGatewayFile name file = IsSealedFile name file ⊎ (name ≡ writer_name)

-- ---- the account

abbrev pub bucket_sound : SwiftAccount → List ℕ → Type 0
bucket_sound tree bucket =
    ConsistentBucket (segments_name bucket) (files tree bucket) (files tree (uploads_name bucket)) (files tree (segments_name bucket)) (sealed_id tree bucket)

-- the name of an object, as a store takes it
pub record IsFileName (name : List ℕ) : Type 0 where
  pub filled : 0 < length name
  pub within : length name ≤ 1024
  pub text : IsUtf8 name
  pub no_zero : ¬ (Contains name 0)

-- what holds of each object, wherever it stands
pub record IsStored (name : List ℕ) (file : SwiftObject) : Type 0 where
  pub named : IsFileName name
  pub sized : size_of file.content < 2 ^ 63

-- a bucket is where its container is
abbrev pub IsThere : SwiftAccount → List ℕ → Type 0
IsThere tree bucket = is_some (get tree bucket) ≡ true

-- a container that is there and has no file
pub record IsBareContainer (tree : SwiftAccount) (name : List ℕ) : Type 0 where
  pub there : IsThere tree name
  pub holds : files tree name ≡ empty

-- both containers beside a bucket are there without a file, so that it may be made
pub record HasBareSides (tree : SwiftAccount) (bucket : List ℕ) : Type 0 where
  pub records : IsBareContainer tree (uploads_name bucket)
  pub segments : IsBareContainer tree (segments_name bucket)

-- a completion that is sealed on an account: its bucket is there, beside which it stands
pub record SealedIn (tree : SwiftAccount) (s : Sealed) : Type 0 where
  pub there : IsThere tree s.bucket
  pub stands : ConsistentSealed (files tree (uploads_name s.bucket)) (files tree (segments_name s.bucket)) s

-- an account that only the gateway writes. Of what stands beside a missing bucket nothing is asked but a name and a size that a
-- store takes
pub record IsConsistent (tree : SwiftAccount) : Type 0 where
  pub folders : ConsistentContainers (heads tree)
  pub buckets : (bucket : List ℕ) → is_bucket bucket ≡ true → IsThere tree bucket → bucket_sound tree bucket
  pub gateway : (name : List ℕ) (file : SwiftObject) → find_object tree gateway_name name ≡ Some file → IsGatewayFile name file
  pub sealed : (s : Sealed) → seal_of tree ≡ Some s → SealedIn tree s
  pub stored : (folder name : List ℕ) (file : SwiftObject) → find_object tree folder name ≡ Some file → IsStored name file
