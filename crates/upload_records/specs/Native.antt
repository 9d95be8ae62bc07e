-- The S3 state that an account represents: what its containers hold, and over it the completion that is sealed. It is a
-- total function: what doesn't read as a bucket, an object, an upload or a completion isn't there. Source: this profile.
use Rattle.std.specs.Prelude.{◌≡◌, true, ℕ, zero, suc, ◌+◌, ◌*◌, ◌/◌, nat_le, nat_lt, List, [], ◌∷◌, ◌++◌, codes, drop, length, map, flat_map, cond, is_some, take, Option, None, Some}
use Rattle.std.specs.Option.{unwrap_or, option_map, option_and_then}
use Rattle.std.specs.List.{filter}
use Rattle.std.specs.FinMap.{get}
use Rattle.gate_base.specs.Maps.{Names, Numbers, picked, table}
use Rattle.gate_base.specs.declared.page.Pair.{Pair}
use Rattle.s3_names.specs.Bucket.{is_bucket}
use Rattle.s3_names.specs.Id.{id_digits}
use Rattle.s3_machine.specs.State.{Object, Part, Upload, Completion, Bucket, State}
use Rattle.s3_machine.specs.Finish.{Finished, finished}
use Rattle.s3_machine.specs.Uploads.{greatest_part}
use Rattle.s3_machine.specs.declared.operation.Listed.{Listed}
use Rattle.slo_manifest.specs.declared.manifest.TheConstants.{MOST_SEGMENTS}
use Rattle.slo_manifest.specs.declared.Segment.{Segment}
use Rattle.swift_calls.specs.Account.{SwiftObject, SwiftContainer, SwiftAccount, files, find_object, size_of}
use Rattle.swift_calls.specs.Bodies.{Look, bytes_of, etag_of, plain_bytes}
use Rattle.swift_calls.specs.declared.account.Content.{Content}
use Rattle.swift_calls.specs.declared.account.Content.TheVariants.{Plain, Segments}
use Rattle.swift_marks.specs.declared.tag.Tag.{Tag}
use Rattle.swift_marks.specs.Tag.{read_tag, tag_text}
use Rattle.swift_marks.specs.Pack.{unpacked, pack_of}
use Rattle.upload_texts.specs.Records.{read_record}
use Rattle.upload_texts.specs.Sealed.{read_sealed}
use Rattle.upload_texts.specs.declared.record.Record.{Record}
use Rattle.upload_texts.specs.declared.record.Record.TheVariants.{Open, Done}
use Rattle.upload_texts.specs.declared.sealed.Sealed.{Sealed}
use Rattle.upload_texts.specs.declared.sealed.SealedPart.{SealedPart}
use Rattle.upload_records.specs.Layout.{uploads_name, segments_name, gateway_name, sealed_name, segment_name, sub_manifest_name, acl_of}

-- segments are looked up beside the bucket, whatever container they name
abbrev pub within : Names SwiftObject → Look
within segments container name = get segments name

-- ---- objects

-- an object, by what its tag, its pack and its bytes read as
abbrev pub object_by : Option Tag → Option (List Pair) → Option (List ℕ) → Option Object
object_by None meta bytes = None
object_by (Some tag) None bytes = None
object_by (Some tag) (Some meta) None = None
object_by (Some tag) (Some meta) (Some bytes) =
    Some (record { bytes = bytes; etag = tag.etag; content_type = tag.content_type; meta = meta; modified = tag.moment })

-- the object that a file of a bucket represents, its parts looked up in the container beside it
abbrev pub object_of : Names SwiftObject → List ℕ → SwiftObject → Option Object
object_of segments key file = object_by (read_tag file.content_type) (unpacked file.meta) (bytes_of (within segments) file.content)

-- an object of a bucket that may be there
abbrev pub object_at : Option Bucket → List ℕ → Option Object
object_at None key = None
object_at (Some b) key = get b.objects key

-- ---- uploads and completions

-- a part, by its tag and its own bytes; a file that lists segments is none
abbrev pub part_by : Option Tag → Option (List ℕ) → Option Part
part_by None bytes = None
part_by (Some tag) None = None
part_by (Some tag) (Some bytes) = Some (record { bytes = bytes; etag = tag.etag; modified = tag.moment })

abbrev pub part_of : SwiftObject → Option Part
part_of file = part_by (read_tag file.content_type) (plain_bytes file.content)

-- the part of a number, by the text of the upload's id
abbrev pub part_at : Names SwiftObject → List ℕ → ℕ → Option Part
part_at segments id number = option_and_then part_of (get segments (segment_name id number))

-- all parts of an upload. So the name of a segment is only ever written, and never read
abbrev pub parts_of : Names SwiftObject → List ℕ → Numbers Part
parts_of segments id = table (part_at segments id) greatest_part

-- the record that the bytes of a file are
abbrev pub record_of : SwiftObject → Option Record
record_of file = option_and_then read_record (plain_bytes file.content)

-- the record of an upload, by the text of its id
abbrev pub record_at : Names SwiftObject → List ℕ → Option Record
record_at records id = option_and_then record_of (get records id)

abbrev pub upload_by : Names SwiftObject → List ℕ → Option Record → Option Upload
upload_by segments id None = None
upload_by segments id (Some (Open key content_type meta started)) =
    Some (record { key = key; content_type = content_type; meta = meta; started = started; parts = parts_of segments id })
upload_by segments id (Some (Done key list etag started moment)) = None

-- the open upload that a record represents
abbrev pub upload_of : Names SwiftObject → List ℕ → SwiftObject → Option Upload
upload_of segments id file = upload_by segments id (record_of file)

-- the moment of a completion that is not known is that of its upload's start
abbrev pub kept_by : Option Record → Option Completion
kept_by None = None
kept_by (Some (Open key content_type meta started)) = None
kept_by (Some (Done key list etag started moment)) =
    Some (record { key = key; list = list; etag = etag; started = started; moment = unwrap_or moment started })

-- the kept completion that a record represents
abbrev pub kept_of : List ℕ → SwiftObject → Option Completion
kept_of id file = kept_by (record_of file)

-- ---- buckets

-- a bucket, of its container and the files of the two beside it
abbrev pub bucket_from : Names SwiftObject → Names SwiftObject → SwiftContainer → Bucket
bucket_from records segments folder = record {
  created = unwrap_or folder.created 0;
  acl = acl_of folder.readers;
  objects = picked (object_of segments) folder.files;
  uploads = picked (upload_of segments) records;
  kept = picked kept_of records;
}

abbrev pub bucket_of : SwiftAccount → List ℕ → SwiftContainer → Option Bucket
bucket_of tree name folder = cond (is_bucket name) (Some (bucket_from (files tree (uploads_name name)) (files tree (segments_name name)) folder)) None

-- the buckets of an account
unfoldable pub plain : SwiftAccount → State
plain tree = picked (bucket_of tree) tree

-- ---- a completion that is sealed and not yet finished

-- the sealed completion that the bytes of a file are
abbrev pub seal_by : Option SwiftObject → Option Sealed
seal_by None = None
seal_by (Some file) = option_and_then read_sealed (plain_bytes file.content)

-- what the gateway's own container says is sealed
unfoldable pub seal_of : SwiftAccount → Option Sealed
seal_of tree = seal_by (find_object tree gateway_name sealed_name)

-- the bytes of a part that may be there
abbrev pub part_bytes : Option Part → List ℕ
part_bytes None = []
part_bytes (Some p) = p.bytes

-- the bytes of the listed parts in a row
abbrev pub sealed_bytes : Names SwiftObject → List ℕ → List SealedPart → List ℕ
sealed_bytes segments id list = flat_map (λ p. part_bytes (part_at segments id p.number)) list

abbrev pub listed_of : SealedPart → Listed
listed_of p = record { number = p.number; etag = p.etag }

abbrev pub sealed_object : Names SwiftObject → Sealed → Object
sealed_object segments s = record {
  bytes = sealed_bytes segments (id_digits s.id) s.list;
  etag = s.etag;
  content_type = s.content_type;
  meta = s.meta;
  modified = s.moment;
}

abbrev pub sealed_kept : Sealed → Completion
sealed_kept s = record { key = s.key; list = map listed_of s.list; etag = s.etag; started = s.started; moment = s.moment }

-- the completion as the service takes it
abbrev pub finished_from : Names SwiftObject → Sealed → Finished
finished_from segments s =
    record { bucket = s.bucket; key = s.key; id = id_digits s.id; object = sealed_object segments s; kept = sealed_kept s }

-- the completion that is sealed on an account
unfoldable pub sealed_of : SwiftAccount → Option Finished
sealed_of tree = option_map (λ s. finished_from (files tree (segments_name s.bucket)) s) (seal_of tree)

-- a sealed completion counts as finished
abbrev pub laid : Option Finished → State → State
laid None state = state
laid (Some f) state = finished f state

-- what stands in the gateway's own container is the same, and the container is there on both accounts or on neither
pub record SameGateway (tree new : SwiftAccount) : Type 0 where
  pub there : is_some (get new gateway_name) ≡ is_some (get tree gateway_name)
  pub holds : files new gateway_name ≡ files tree gateway_name

-- no completion is sealed, so that the state is that of the buckets
abbrev pub IsUnsealed : SwiftAccount → Type 0
IsUnsealed tree = sealed_of tree ≡ None

-- a store on whose account no completion is sealed, and which has the gateway's own container, so that operations may be answered
pub record IsSettled (tree : SwiftAccount) : Type 0 where
  pub none : IsUnsealed tree
  pub gateway : is_some (get tree gateway_name) ≡ true

-- the state that an account represents: its buckets, and over them the completion that is sealed
unfoldable pub s3_state : SwiftAccount → State
s3_state tree = laid (sealed_of tree) (plain tree)

-- ---- what rolling a completion forward puts

-- the listed parts that aren't empty
abbrev pub filled_parts : List SealedPart → List SealedPart
filled_parts list = filter (λ p. nat_lt 0 p.size) list

abbrev pub part_segment : List ℕ → List ℕ → SealedPart → Segment
part_segment folder id p = record { container = folder; name = segment_name id p.number; etag = p.etag; size = p.size }

-- the segments of the run of a number, counted from 0: runs have as many as a manifest may list, the last one so many or fewer
unfoldable pub run : ℕ → List Segment → List Segment
run n segments = take MOST_SEGMENTS (drop (MOST_SEGMENTS * n) segments)

-- how many sub-manifests the object of so many segments lists: none, where its own manifest may list them, and else one for each run
abbrev pub sub_manifests : ℕ → ℕ
sub_manifests n = cond (nat_le n MOST_SEGMENTS) 0 ((n + 999) / MOST_SEGMENTS)

-- the sub-manifest of that number, counted from 0, which lists these, as a segment
abbrev pub sub_segment : List ℕ → List ℕ → ℕ → List Segment → Segment
sub_segment folder id n listed = record {
  container = folder;
  name = sub_manifest_name id (n + 1);
  etag = etag_of (Segments listed);
  size = size_of (Segments listed);
}

-- the sub-manifests of the first n runs
unfoldable pub sub_segments : List ℕ → List ℕ → List Segment → ℕ → List Segment
sub_segments folder id segments zero = []
sub_segments folder id segments (suc n) = sub_segments folder id segments n ++ sub_segment folder id n (run n segments) ∷ []

-- what an object of these segments lists: the segments themselves, where a manifest may list so many, and else their sub-manifests.
-- This is the one place that says how a completed object lies on the store
unfoldable pub listing_by : List ℕ → List ℕ → List Segment → List Segment
listing_by folder id segments =
    cond (nat_le (length segments) MOST_SEGMENTS) segments (sub_segments folder id segments (sub_manifests (length segments)))

-- the segments that these parts are
abbrev pub part_segments : List ℕ → List ℕ → List SealedPart → List Segment
part_segments folder id parts = map (part_segment folder id) parts

-- what the object of these parts lists
abbrev pub listing_of : List ℕ → List ℕ → List SealedPart → List Segment
listing_of folder id parts = listing_by folder id (part_segments folder id parts)

abbrev pub content_by : List Segment → Content
content_by [] = Plain []
content_by (s ∷ rest) = Segments (s ∷ rest)

-- the tag of a completed object
abbrev pub sealed_tag : Sealed → Tag
sealed_tag s = record { content_type = s.content_type; etag = s.etag; moment = s.moment; id = Some s.id }

-- the file of a completed object
abbrev pub completed_file : Sealed → SwiftObject
completed_file s = record {
  content_type = tag_text (sealed_tag s);
  meta = pack_of s.meta;
  content = content_by (listing_of (segments_name s.bucket) (id_digits s.id) (filled_parts s.list));
}

-- ---- its sub-manifests

-- the segments that are its parts, but for the empty ones
abbrev pub sealed_segments : Sealed → List Segment
sealed_segments s = part_segments (segments_name s.bucket) (id_digits s.id) (filled_parts s.list)

-- how many sub-manifests it has
abbrev pub sealed_sub_manifests : Sealed → ℕ
sealed_sub_manifests s = sub_manifests (length (sealed_segments s))

-- and how many what is sealed has, if something is
abbrev pub sub_manifests_of : Option Sealed → ℕ
sub_manifests_of None = 0
sub_manifests_of (Some s) = sealed_sub_manifests s

-- the tag of a sub-manifest that lists these
abbrev pub sub_tag : Sealed → List Segment → Tag
sub_tag s listed = record { content_type = codes "application/octet-stream"; etag = etag_of (Segments listed); moment = s.moment; id = Some s.id }

-- the file of a sub-manifest that lists these. It has no metadata
abbrev pub sub_file : Sealed → List Segment → SwiftObject
sub_file s listed = record { content_type = tag_text (sub_tag s listed); meta = []; content = Segments listed }

-- the file of the sub-manifest of that number, counted from 0
abbrev pub sub_file_at : Sealed → ℕ → SwiftObject
sub_file_at s n = sub_file s (run n (sealed_segments s))

-- the record of a completed upload, with the moment of its completion
abbrev pub sealed_record : Sealed → Record
sealed_record s = Done s.key (map listed_of s.list) s.etag s.started (Some s.moment)
