-- An account that only the gateway writes, where no body has more than so many bytes: what holds of one that was written by a smaller
-- bound than the greatest. It is `IsConsistent`, word for word, with that bound in the three places that have one: an object that was put in
-- one piece, a part, and the sizes of the parts of a completion that is sealed. Source: this profile.
use Rattle.std.specs.Prelude.{◌≡◌, ◌⊎◌, ◌<◌, ◌≤◌, ◌^◌, ℕ, Bool, ◌&&◌, nat_le, nat_lt, List, cond, true, false, bytes_eq, length, is_some, Option, Some, None}
use Rattle.std.specs.List.{list_all}
use Rattle.std.specs.Option.{option_and_then}
use Rattle.std.specs.FinMap.{get}
use Rattle.gate_base.specs.Maps.{Names}
use Rattle.gate_base.specs.declared.page.Pair.{Pair}
use Rattle.s3_names.specs.Bucket.{is_bucket}
use Rattle.s3_names.specs.Id.{id_digits}
use Rattle.s3_names.specs.Key.{is_key}
use Rattle.s3_machine.specs.ETag.{body_etag}
use Rattle.s3_machine.specs.Limits.{is_proper_meta, most_body_bytes}
use Rattle.s3_machine.specs.Uploads.{IsPartNumber}
use Rattle.slo_manifest.specs.Segments.{is_etag}
use Rattle.swift_marks.specs.Tag.{read_tag}
use Rattle.swift_marks.specs.Tag as mark
use Rattle.swift_marks.specs.Pack.{unpacked}
use Rattle.swift_calls.specs.declared.account.Content.TheVariants.{Plain}
use Rattle.swift_calls.specs.Account.{SwiftObject, SwiftAccount, files, find_object}
use Rattle.swift_calls.specs.Bodies.{plain_bytes}
use Rattle.upload_texts.specs.Places.{json_or_null, part_number_fits_record_text, is_part_count}
use Rattle.upload_texts.specs.Records.{content_fits_record_text}
use Rattle.upload_texts.specs.Sealed.{is_sealed_place, is_sealed_dated, sealed_text, sealed_in as sealed_in_json}
use Rattle.upload_texts.specs.declared.sealed.Sealed.{Sealed}
use Rattle.upload_texts.specs.declared.sealed.SealedPart.{SealedPart}
use Rattle.upload_records.specs.Layout.{uploads_name, segments_name, gateway_name, sealed_name, writer_name, segment_name}
use Rattle.upload_records.specs.Native.{record_at, seal_of}
use Rattle.upload_records.specs.Consistent.{ConsistentContainers, IsConsistent, IsCompletedObject, IsSubManifest, IsRecord, IsOpen, HasList, IsStored, IsThere, SealedIn, heads, sealed_in}

-- ---- a completion that is sealed

abbrev pub part_fits_within : ℕ → SealedPart → Bool
part_fits_within most p = part_number_fits_record_text p.number && is_etag p.etag && nat_le p.size most

abbrev pub is_sealed_list_within : ℕ → List SealedPart → Bool
is_sealed_list_within most list = is_part_count (length list) && list_all (part_fits_within most) list

abbrev pub has_sealed_text_within : ℕ → Sealed → Bool
has_sealed_text_within most s =
    is_sealed_place s && (nat_lt s.id (2 ^ 128) && (content_fits_record_text s.content_type s.meta && (is_sealed_list_within most s.list && (mark.is_etag s.etag && is_sealed_dated s))))

abbrev pub sealed_from_within : ℕ → Sealed → List ℕ → Option Sealed
sealed_from_within most s text = cond (has_sealed_text_within most s && bytes_eq (sealed_text s) text) (Some s) None

abbrev pub read_sealed_within : ℕ → List ℕ → Option Sealed
read_sealed_within most text = sealed_from_within most (sealed_in_json (json_or_null text)) text

abbrev pub seal_by_within : ℕ → Option SwiftObject → Option Sealed
seal_by_within most None = None
seal_by_within most (Some file) = option_and_then (read_sealed_within most) (plain_bytes file.content)

-- what the gateway's own container says is sealed
abbrev pub seal_of_within : ℕ → SwiftAccount → Option Sealed
seal_of_within most tree = seal_by_within most (find_object tree gateway_name sealed_name)

abbrev pub sealed_id_within : ℕ → SwiftAccount → List ℕ → Option ℕ
sealed_id_within most tree bucket = sealed_in (seal_of_within most tree) bucket

pub record IsSealedFileWithin (most : ℕ) (name : List ℕ) (file : SwiftObject) : Type 0 where
  pub text : List ℕ
  pub is : Sealed
  pub named : name ≡ sealed_name
  pub own : file.content ≡ Plain text
  pub reads : read_sealed_within most text ≡ Some is

abbrev pub IsGatewayFileWithin : ℕ → List ℕ → SwiftObject → Type 0
IsGatewayFileWithin most name file = IsSealedFileWithin most name file ⊎ (name ≡ writer_name)

-- ---- objects and parts

pub record IsPlainObjectWithin (most : ℕ) (file : SwiftObject) : Type 0 where
  pub bytes : List ℕ
  pub content_type : List ℕ
  pub meta : List Pair
  pub moment : ℕ
  pub own : file.content ≡ Plain bytes
  pub sized : length bytes ≤ most
  pub tagged : read_tag file.content_type ≡ Some (record { content_type = content_type; etag = body_etag bytes; moment = moment; id = None })
  pub packed : unpacked file.meta ≡ Some meta
  pub described : is_proper_meta meta ≡ true

pub data IsObjectWithin (most : ℕ) (segments : Names SwiftObject) (folder key : List ℕ) (file : SwiftObject) : Type 0 where
  whole : is_key key ≡ true → IsPlainObjectWithin most file → IsObjectWithin most segments folder key file
  of_parts : is_key key ≡ true → IsCompletedObject segments folder file → IsObjectWithin most segments folder key file

pub record IsPartWithin (most : ℕ) (name : List ℕ) (file : SwiftObject) : Type 0 where
  pub id : ℕ
  pub number : ℕ
  pub bytes : List ℕ
  pub content_type : List ℕ
  pub moment : ℕ
  pub named : name ≡ segment_name (id_digits id) number
  pub fits : id < 2 ^ 128
  pub counted : IsPartNumber number
  pub own : file.content ≡ Plain bytes
  pub sized : length bytes ≤ most
  pub tagged : read_tag file.content_type ≡ Some (record { content_type = content_type; etag = body_etag bytes; moment = moment; id = Some id })

pub data IsSegmentWithin (most : ℕ) (name : List ℕ) (file : SwiftObject) : Type 0 where
  part : IsPartWithin most name file → IsSegmentWithin most name file
  sub_manifest : IsSubManifest name file → IsSegmentWithin most name file

-- ---- buckets and the account

pub record ConsistentBucketWithin (most : ℕ) (folder : List ℕ) (objects records segments : Names SwiftObject) (sealed : Option ℕ) : Type 0 where
  pub of_objects : (key : List ℕ) (file : SwiftObject) → get objects key ≡ Some file → IsObjectWithin most segments folder key file
  pub of_segments : (name : List ℕ) (file : SwiftObject) → get segments name ≡ Some file → IsSegmentWithin most name file
  pub of_records : (name : List ℕ) (file : SwiftObject) → get records name ≡ Some file → IsRecord name file
  pub apart : (id : ℕ) → HasList objects segments id → IsOpen (record_at records (id_digits id)) → sealed ≡ Some id
  pub subs_apart : (name : List ℕ) (file : SwiftObject) (sub : IsSubManifest name file) → get segments name ≡ Some file
      → IsOpen (record_at records (id_digits sub.id)) → sealed ≡ Some sub.id

abbrev pub bucket_sound_within : ℕ → SwiftAccount → List ℕ → Type 0
bucket_sound_within most tree bucket =
    ConsistentBucketWithin most (segments_name bucket) (files tree bucket) (files tree (uploads_name bucket)) (files tree (segments_name bucket)) (sealed_id_within most tree bucket)

pub record IsConsistentWithin (most : ℕ) (tree : SwiftAccount) : Type 0 where
  pub folders : ConsistentContainers (heads tree)
  pub buckets : (bucket : List ℕ) → is_bucket bucket ≡ true → IsThere tree bucket → bucket_sound_within most tree bucket
  pub gateway : (name : List ℕ) (file : SwiftObject) → find_object tree gateway_name name ≡ Some file → IsGatewayFileWithin most name file
  pub sealed : (s : Sealed) → seal_of_within most tree ≡ Some s → SealedIn tree s
  pub stored : (folder name : List ℕ) (file : SwiftObject) → find_object tree folder name ≡ Some file → IsStored name file

-- what is consistent by a smaller bound is consistent, and the same is sealed on it
abbrev pub WrittenByLess : Type 0
WrittenByLess = (most : ℕ) (tree : SwiftAccount) → most ≤ most_body_bytes → IsConsistentWithin most tree → IsConsistent tree × (seal_of_within most tree ≡ seal_of tree)

-- and by the greatest bound just what is consistent
abbrev pub WrittenByMost : Type 0
WrittenByMost = (tree : SwiftAccount) → IsConsistent tree → IsConsistentWithin most_body_bytes tree
