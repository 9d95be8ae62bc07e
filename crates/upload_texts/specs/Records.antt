-- The record of an upload as a text: compact JSON with the names of an object in byte order. An open upload, and a
-- completion whose moment isn't known, have version 1; a completion whose moment is known has version 2. Source: this profile.
use Rattle.std.specs.Prelude.{◌≡◌, ⊤, ℕ, Bool, true, false, ◌&&◌, ◌==◌, ◌||◌, nat_lt, cond, List, map, length, bytes_eq, Option, None, Some, codes, Result, Ok, Err}
use Rattle.std.specs.Option.{option_map_or}
use Rattle.std.specs.List.{list_all}
use Rattle.serde_json.specs.Data.{Data, object, number, unsigned, string, no_members, member, Members}
use Rattle.serde_json.specs.Find.{get}
use Rattle.serde_json.specs.View.{view}
use Rattle.serde_json.specs.declared.value.Value.{Value}
use Rattle.serde_json.specs.Written.{compact_text}
use Rattle.gate_base.specs.Told.{moment_limit}
use Rattle.gate_base.specs.declared.page.Pair.{Pair}
use Rattle.s3_names.specs.Key.{is_key}
use Rattle.s3_names.specs.Meta.{names_ascend}
use Rattle.s3_machine.specs.Limits.{is_content_type, is_proper_meta}
use Rattle.s3_machine.specs.declared.operation.Listed.{Listed}
use Rattle.slo_manifest.specs.Manifest.{json_of}
use Rattle.slo_manifest.specs.Segments.{is_etag}
use Rattle.swift_marks.specs.Tag as mark
use Rattle.upload_texts.specs.Places.{text_in, number_in, list_in, array_of, json_or_null, version_of, metadata_pair_json, pair_in, record_part_json, listed_in, part_number_fits_record_text, is_part_count}
use Rattle.upload_texts.specs.declared.record.Record.{Record}
use Rattle.upload_texts.specs.declared.record.Record.TheVariants.{Open, Done}
use Rattle.upload_texts.specs.declared.record.RecordFault.{RecordFault}
use Rattle.upload_texts.specs.declared.record.RecordFault.TheVariants.{NotARecord, Version, Memory}

-- ---- which have a text

-- what an upload's object is put with
abbrev pub content_fits_record_text : List ℕ → List Pair → Bool
content_fits_record_text content_type meta = is_content_type content_type && (is_proper_meta meta && names_ascend meta)

-- a part as a completion lists it
abbrev pub part_fits_record_text : Listed → Bool
part_fits_record_text l = part_number_fits_record_text l.number && is_etag l.etag

-- a moment that is known has a date
abbrev pub is_dated : Option ℕ → Bool
is_dated moment = option_map_or (λ m. nat_lt m moment_limit) moment true

abbrev pub list_fits_record_text : List Listed → Bool
list_fits_record_text list = is_part_count (length list) && list_all part_fits_record_text list

-- the groups stand in brackets, so that a proof takes the first of them by one step
unfoldable pub has_record_text : Record → Bool
has_record_text (Open key content_type meta started) = is_key key && (content_fits_record_text content_type meta && nat_lt started moment_limit)
has_record_text (Done key list etag started moment) =
    is_key key && (list_fits_record_text list && (mark.is_etag etag && (nat_lt started moment_limit && is_dated moment)))

-- ---- the text

abbrev pub open_record_object : ℕ → List ℕ → Data → List ℕ → Data
open_record_object started key meta content_type =
    object (member (codes "at") (number (unsigned started)) (member (codes "key") (string key) (member (codes "meta") meta
    (member (codes "state") (string (codes "open")) (member (codes "type") (string content_type) (member (codes "v") (number (unsigned 1)) no_members))))))

abbrev pub open_record_json : List ℕ → List ℕ → List Pair → ℕ → Data
open_record_json key content_type meta started = open_record_object started key (array_of metadata_pair_json meta) content_type

-- what stands behind the moment, in each version
abbrev pub done_members : List ℕ → List ℕ → Data → ℕ → Members
done_members etag key list version =
    member (codes "etag") (string etag) (member (codes "key") (string key) (member (codes "list") list
    (member (codes "state") (string (codes "done")) (member (codes "v") (number (unsigned version)) no_members))))

-- a completion whose moment isn't known, and one whose moment is
abbrev pub undated_record_json : ℕ → List ℕ → List ℕ → Data → Data
undated_record_json started etag key list = object (member (codes "at") (number (unsigned started)) (done_members etag key list 1))

abbrev pub dated_record_json : ℕ → ℕ → List ℕ → List ℕ → Data → Data
dated_record_json started moment etag key list =
    object (member (codes "at") (number (unsigned started)) (member (codes "done") (number (unsigned moment)) (done_members etag key list 2)))

abbrev pub done_record_json : List ℕ → List Listed → List ℕ → ℕ → Option ℕ → Data
done_record_json key list etag started None = undated_record_json started etag key (array_of record_part_json list)
done_record_json key list etag started (Some moment) = dated_record_json started moment etag key (array_of record_part_json list)

abbrev pub record_value : Record → Data
record_value (Open key content_type meta started) = open_record_json key content_type meta started
record_value (Done key list etag started moment) = done_record_json key list etag started moment

-- the one text of a record
unfoldable pub record_text : Record → List ℕ
record_text r = compact_text (record_value r)

-- ---- what a text reads as

-- the moment of a completion, which version 1 doesn't have
abbrev pub moment_in : Data → Option ℕ
moment_in d = cond (number_in (get (codes "v") d) == 1) None (Some (number_in (get (codes "done") d)))

-- what stands in the places, be it a record or not
abbrev pub open_in : Data → Record
open_in d = Open (text_in (get (codes "key") d)) (text_in (get (codes "type") d)) (map pair_in (list_in (get (codes "meta") d))) (number_in (get (codes "at") d))

abbrev pub done_record_in_json : Data → Record
done_record_in_json d = Done (text_in (get (codes "key") d)) (map listed_in (list_in (get (codes "list") d))) (text_in (get (codes "etag") d)) (number_in (get (codes "at") d)) (moment_in d)

abbrev pub record_in : Data → Record
record_in d = cond (bytes_eq (text_in (get (codes "state") d)) (codes "open")) (open_in d) (done_record_in_json d)

-- the record that has this text, and no other one
abbrev pub record_from : Record → List ℕ → Option Record
record_from r text = cond (has_record_text r && bytes_eq (record_text r) text) (Some r) None

unfoldable pub read_record : List ℕ → Option Record
read_record text = record_from (record_in (json_or_null text)) text

-- the versions that records have
abbrev pub is_known_version : ℕ → Bool
is_known_version version = (version == 1) || (version == 2)

-- the version of a text, where it is another one than these
abbrev pub unless_known_record_version : (ℕ → Bool) → Option ℕ → Option ℕ
unless_known_record_version known None = None
unless_known_record_version known (Some version) = cond (known version) None (Some version)

-- what reading answers; memory may run out for any text
abbrev pub ReadsRecord : List ℕ → Result Record RecordFault → Type 0
ReadsRecord text (Ok r) = read_record text ≡ Some r
ReadsRecord text (Err NotARecord) = (read_record text ≡ None) × (unless_known_record_version is_known_version (version_of text) ≡ None)
ReadsRecord text (Err (Version version)) = unless_known_record_version is_known_version (version_of text) ≡ Some version
ReadsRecord text (Err Memory) = ⊤

-- ---- the steps of reading

-- the value is that of the text, or memory ran out
abbrev pub Parses : List ℕ → Result Value RecordFault → Type 0
Parses text (Ok value) = json_of text ≡ Some (view value)
Parses text (Err NotARecord) = json_of text ≡ None
Parses text (Err (Version version)) = ⊥
Parses text (Err Memory) = ⊤

-- whether a text is the record's, or memory ran out
abbrev pub MatchesRecord : Record → List ℕ → Result Unit RecordFault → Type 0
MatchesRecord r text (Ok done) = read_record text ≡ Some r
MatchesRecord r text (Err NotARecord) = has_record_text r ≡ true → bytes_eq (record_text r) text ≡ false
MatchesRecord r text (Err (Version version)) = ⊥
MatchesRecord r text (Err Memory) = ⊤
