-- A completion that is sealed, as a text: compact JSON with the names of an object in byte order. Source: this profile.
use Rattle.std.specs.Prelude.{◌≡◌, ⊤, ℕ, true, false, ◌^◌, Bool, ◌&&◌, ◌==◌, nat_le, nat_lt, cond, List, map, length, bytes_eq, Option, None, Some, codes, Result, Ok, Err}
use Rattle.std.specs.List.{list_all}
use Rattle.serde_json.specs.Data.{Data, array, object, number, unsigned, string, no_items, item, no_members, member}
use Rattle.serde_json.specs.Find.{get, at}
use Rattle.serde_json.specs.Written.{compact_text}
use Rattle.gate_base.specs.Told.{moment_limit}
use Rattle.s3_names.specs.Bucket.{is_bucket}
use Rattle.s3_names.specs.Id.{id_digits}
use Rattle.s3_names.specs.Key.{is_key}
use Rattle.s3_machine.specs.Limits.{most_body_bytes}
use Rattle.s3_machine.specs.Uploads.{id_value}
use Rattle.slo_manifest.specs.Segments.{is_etag}
use Rattle.swift_marks.specs.Tag as mark
use Rattle.upload_texts.specs.Places.{text_in, number_in, list_in, array_of, json_or_null, version_of, metadata_pair_json, pair_in, part_number_fits_record_text, is_part_count}
use Rattle.upload_texts.specs.Records.{content_fits_record_text, unless_known_record_version}
use Rattle.upload_texts.specs.declared.sealed.Sealed.{Sealed}
use Rattle.upload_texts.specs.declared.sealed.SealedPart.{SealedPart}
use Rattle.upload_texts.specs.declared.record.RecordFault.{RecordFault}
use Rattle.upload_texts.specs.declared.record.RecordFault.TheVariants.{NotARecord, Version, Memory}

abbrev pub part_fits_sealed_text : SealedPart → Bool
part_fits_sealed_text p = part_number_fits_record_text p.number && is_etag p.etag && nat_le p.size most_body_bytes

-- where the object comes to be
abbrev pub is_sealed_place : Sealed → Bool
is_sealed_place s = is_bucket s.bucket && is_key s.key

abbrev pub is_sealed_list : List SealedPart → Bool
is_sealed_list list = is_part_count (length list) && list_all part_fits_sealed_text list

abbrev pub is_sealed_dated : Sealed → Bool
is_sealed_dated s = nat_lt s.started moment_limit && nat_lt s.moment moment_limit

-- the groups stand in brackets, so that a proof takes the first of them by one step
unfoldable pub has_sealed_text : Sealed → Bool
has_sealed_text s =
    is_sealed_place s && (nat_lt s.id (2 ^ 128) && (content_fits_record_text s.content_type s.meta && (is_sealed_list s.list && (mark.is_etag s.etag && is_sealed_dated s))))

-- ---- the text

abbrev pub sealed_part_json : SealedPart → Data
sealed_part_json p = array (item (number (unsigned p.number)) (item (string p.etag) (item (number (unsigned p.size)) no_items)))

abbrev pub sealed_object : ℕ → List ℕ → List ℕ → List ℕ → List ℕ → Data → Data → ℕ → List ℕ → Data
sealed_object moment bucket etag id key list meta started content_type =
    object (member (codes "at") (number (unsigned moment)) (member (codes "bucket") (string bucket) (member (codes "etag") (string etag)
    (member (codes "id") (string id) (member (codes "key") (string key) (member (codes "list") list
    (member (codes "meta") meta (member (codes "started") (number (unsigned started)) (member (codes "type") (string content_type)
    (member (codes "v") (number (unsigned 1)) no_members))))))))))

abbrev pub sealed_value : Sealed → Data
sealed_value s = sealed_object s.moment s.bucket s.etag (id_digits s.id) s.key (array_of sealed_part_json s.list) (array_of metadata_pair_json s.meta) s.started s.content_type

-- the one text of a sealed completion
unfoldable pub sealed_text : Sealed → List ℕ
sealed_text s = compact_text (sealed_value s)

-- ---- what a text reads as

abbrev pub part_in : Data → SealedPart
part_in d = record { number = number_in (at 0 d); etag = text_in (at 1 d); size = number_in (at 2 d) }

-- what stands in the places, be it a sealed completion or not
abbrev pub sealed_in : Data → Sealed
sealed_in d = record {
  bucket = text_in (get (codes "bucket") d);
  key = text_in (get (codes "key") d);
  id = id_value (text_in (get (codes "id") d));
  content_type = text_in (get (codes "type") d);
  meta = map pair_in (list_in (get (codes "meta") d));
  list = map part_in (list_in (get (codes "list") d));
  etag = text_in (get (codes "etag") d);
  started = number_in (get (codes "started") d);
  moment = number_in (get (codes "at") d);
}

-- the sealed completion that has this text, and no other one
abbrev pub sealed_from : Sealed → List ℕ → Option Sealed
sealed_from s text = cond (has_sealed_text s && bytes_eq (sealed_text s) text) (Some s) None

unfoldable pub read_sealed : List ℕ → Option Sealed
read_sealed text = sealed_from (sealed_in (json_or_null text)) text

abbrev pub is_first_version : ℕ → Bool
is_first_version version = version == 1

-- what reading answers; memory may run out for any text
abbrev pub ReadsSealed : List ℕ → Result Sealed RecordFault → Type 0
ReadsSealed text (Ok s) = read_sealed text ≡ Some s
ReadsSealed text (Err NotARecord) = (read_sealed text ≡ None) × (unless_known_record_version is_first_version (version_of text) ≡ None)
ReadsSealed text (Err (Version version)) = unless_known_record_version is_first_version (version_of text) ≡ Some version
ReadsSealed text (Err Memory) = ⊤

-- whether a text is the sealed completion's, or memory ran out
abbrev pub MatchesSealed : Sealed → List ℕ → Result Unit RecordFault → Type 0
MatchesSealed s text (Ok done) = read_sealed text ≡ Some s
MatchesSealed s text (Err NotARecord) = has_sealed_text s ≡ true → bytes_eq (sealed_text s) text ≡ false
MatchesSealed s text (Err (Version version)) = ⊥
MatchesSealed s text (Err Memory) = ⊤
