-- The tag of an object: the content type that the store keeps, with the object's own content type, its ETag, the
-- moment of its putting and the upload that it is of (this profile).
use Rattle.std.specs.Prelude.{◌≡◌, ⊤, ℕ, Bool, true, ◌&&◌, ◌==◌, nat_eq, nat_le, nat_lt, if◌then◌else◌, Option, Some, None, Result, Ok, Err}
use Rattle.std.specs.Prelude.{List, [], ◌∷◌, ◌++◌, length, take, drop, codes, decimal}
use Rattle.std.specs.List.{list_all, before_first, after_first, before_last, after_last, ends_with}
use Rattle.std.specs.Str.{bytes_eq}
use Rattle.gate_base.specs.Fields.{is_field}
use Rattle.gate_base.specs.Told.{moment_limit}
use Rattle.swift_marks.specs.declared.forms.TheConstants.{LONGEST_TYPE, MOST_PARTS}
use Rattle.gate_base.specs.Ascii.{is_lower_hex}
use Rattle.s3_names.specs.Id.{id_of}
use Rattle.swift_marks.specs.Number.{number_of, id_text, id_fits_tag}
use Rattle.swift_marks.specs.declared.tag.Stamp.{Stamp}
use Rattle.swift_marks.specs.declared.tag.Tag.{Tag}
use Rattle.swift_marks.specs.declared.fault.MarkFault.{MarkFault}
use Rattle.swift_marks.specs.declared.fault.MarkFault.TheVariants.{NoTag, BadPack, Memory}

abbrev pub is_content_type : List ℕ → Bool
is_content_type text = is_field LONGEST_TYPE text

-- a number of parts: 1 to 10000, without leading zeros
abbrev pub is_part_count : List ℕ → Bool
is_part_count text = nat_le 1 (number_of text) && nat_le (number_of text) MOST_PARTS && bytes_eq text (decimal (number_of text))

-- nothing, or `-` and a number of parts
abbrev pub is_parts_suffix : List ℕ → Bool
is_parts_suffix [] = true
is_parts_suffix (byte ∷ count) = byte == 45 && is_part_count count

-- an ETag: 32 hexadecimal digits in lower case, and for an object of parts `-` and their number
abbrev pub is_etag : List ℕ → Bool
is_etag etag = nat_le 32 (length etag) && list_all is_lower_hex (take 32 etag) && is_parts_suffix (drop 32 etag)

-- the tags that have a text
unfoldable pub has_text : Tag → Bool
has_text tag = is_content_type tag.content_type && is_etag tag.etag && nat_lt tag.moment moment_limit && id_fits_tag tag.id

-- `TYPE;s3=ETAG.SECONDS.ID`
unfoldable pub tag_text : Tag → List ℕ
tag_text tag = tag.content_type ++ codes ";s3=" ++ tag.etag ++ codes "." ++ decimal tag.moment ++ codes "." ++ id_text tag.id

abbrev pub is_equals : ℕ → Bool
is_equals byte = byte == 61

abbrev pub is_semicolon : ℕ → Bool
is_semicolon byte = byte == 59

abbrev pub is_dot : ℕ → Bool
is_dot byte = byte == 46

-- what stands in the places of a tag, be it one or not
unfoldable pub tag_parts : List ℕ → Tag
tag_parts text =
    let mark = after_last is_equals text in
    let numbers = after_first is_dot mark in
    record {
      content_type = before_last is_semicolon (before_last is_equals text);
      etag = before_first is_dot mark;
      moment = number_of (before_first is_dot numbers);
      id = id_of (after_first is_dot numbers);
    }

-- the tag whose text this is
unfoldable pub read_tag : List ℕ → Option Tag
read_tag text =
    if has_text (tag_parts text) && bytes_eq (tag_text (tag_parts text)) text then Some (tag_parts text) else None

-- what reading a tag answers; memory may run out for any text
abbrev pub ReadsTag : Option Tag → Result Tag MarkFault → Type 0
ReadsTag due (Ok tag) = due ≡ Some tag
ReadsTag due (Err NoTag) = due ≡ None
ReadsTag due (Err BadPack) = ⊥
ReadsTag due (Err Memory) = ⊤

-- ---- the end of a tag

-- what stands in a tag behind the content type
abbrev pub stamp_of : Tag → Stamp
stamp_of tag = record { etag = tag.etag; moment = tag.moment; id = tag.id }

-- the stamps that have a text
unfoldable pub is_stamp : Stamp → Bool
is_stamp stamp = is_etag stamp.etag && nat_lt stamp.moment moment_limit && id_fits_tag stamp.id

-- `;s3=ETAG.SECONDS.ID`
unfoldable pub stamp_text : Stamp → List ℕ
stamp_text stamp = codes ";s3=" ++ stamp.etag ++ codes "." ++ decimal stamp.moment ++ codes "." ++ id_text stamp.id

-- the stamp that a text ends in, whatever stands before it
unfoldable pub read_stamp : List ℕ → Option Stamp
read_stamp text =
    let stamp = stamp_of (tag_parts text) in
    if is_stamp stamp && ends_with nat_eq text (stamp_text stamp) then Some stamp else None

-- what reading a stamp answers; memory may run out for any text
abbrev pub ReadsStamp : Option Stamp → Result Stamp MarkFault → Type 0
ReadsStamp due (Ok stamp) = due ≡ Some stamp
ReadsStamp due (Err NoTag) = due ≡ None
ReadsStamp due (Err BadPack) = ⊥
ReadsStamp due (Err Memory) = ⊤
