-- Uploads in parts: what a part may be, what is listed of an upload, and what a completion makes of one. Source: Amazon S3
-- API Reference, "CreateMultipartUpload", "UploadPart", "ListParts", "ListMultipartUploads" and "CompleteMultipartUpload";
-- the form of an id, and that a completion is kept, are this profile's.
use Rattle.std.specs.Prelude.{◌≤◌, ℕ, Bool, true, false, ◌&&◌, ◌||◌, cond, nat_eq, nat_lt, List, [], ◌∷◌, ◌++◌, map, flat_map, length, take, codes, decimal, bytes_eq, Option, Some, None, Result, Ok, Err}
use Rattle.std.specs.Option.{unwrap_or}
use Rattle.std.specs.Ordering.{is_gt}
use Rattle.std.specs.List.{filter}
use Rattle.std.specs.Cmp.Lexicographic.{pointwise}
use Rattle.std.specs.FinMap.{entries, from_entries, get, insert, remove, empty}
use Rattle.md5.specs.Md5.{md5}
use Rattle.hex.specs.Hex.{encode_lower, decode_sized}
use Rattle.hex.specs.declared.error.FromHexError.{FromHexError}
use Rattle.gate_base.specs.declared.page.Pair.{Pair}
use Rattle.gate_base.specs.Maps.{adjust, name_cmp, Names, Numbers}
use Rattle.s3_names.specs.Id.{id_of}
use Rattle.s3_machine.specs.declared.limits.TheConstants.{GREATEST_PART_NUMBER, MOST_PARTS}
use Rattle.s3_machine.specs.declared.items.PartItem.{PartItem}
use Rattle.s3_machine.specs.declared.items.UploadItem.{UploadItem}
use Rattle.s3_machine.specs.declared.operation.Listed.{Listed}
use Rattle.s3_machine.specs.ETag.{body_etag}
use Rattle.s3_machine.specs.Items.{begins}
use Rattle.s3_machine.specs.State.{Part, Upload, Completion, Object, Bucket}
use Rattle.s3_machine.specs.Finish.{Finished}

-- ---- limits

-- the most parts of an upload, and the greatest number of one. Both are abstract: a proof that needs the number unfolds it
unfoldable pub most_parts : ℕ
most_parts = MOST_PARTS

unfoldable pub greatest_part : ℕ
greatest_part = GREATEST_PART_NUMBER

-- the number of a part
pub record IsPartNumber (number : ℕ) : Type 0 where
  pub counted : 1 ≤ number
  pub within : number ≤ greatest_part

-- the id that the text of an open upload writes; 0 for a text that writes none
abbrev pub id_value : List ℕ → ℕ
id_value text = unwrap_or (id_of text) 0

-- ---- uploads and parts

-- an upload as it is created: without parts
abbrev pub new_upload : List ℕ → List ℕ → List Pair → ℕ → Upload
new_upload key content_type meta started = record { key = key; content_type = content_type; meta = meta; started = started; parts = empty }

abbrev pub open_upload : List ℕ → Upload → Bucket → Bucket
open_upload id u b = record b { uploads = insert b.uploads id u }

abbrev pub drop_upload : List ℕ → Bucket → Bucket
drop_upload id b = record b { uploads = remove b.uploads id }

abbrev pub on_upload : List ℕ → (Upload → Upload) → Bucket → Bucket
on_upload id f b = record b { uploads = adjust id f b.uploads }

-- a part as it is put
abbrev pub new_part : ℕ → List ℕ → Part
new_part moment body = record { bytes = body; etag = body_etag body; modified = moment }

-- a part in place of the one of its number
abbrev pub with_part : ℕ → Part → Upload → Upload
with_part number p u = record u { parts = insert u.parts number p }

-- ---- the listings

-- the first items, and whether one is left over; where none is asked for, none is
abbrev pub cut : {A : Type 0} → ℕ → List A → List A × Bool
cut max items = (take max items, nat_lt 0 max && nat_lt max (length items))

abbrev pub part_item : ℕ × Part → PartItem
part_item e = record { number = e.0; etag = e.1.etag; modified = e.1.modified; size = length e.1.bytes }

-- the parts whose number is above the marker
abbrev pub parts_above : ℕ → Upload → List PartItem
parts_above marker u = map part_item (filter (λ e. nat_lt marker e.0) (entries u.parts))

-- whether an upload comes after the markers: by its key, and for one key by its id, where a marker of the id is given. No key
-- is empty, so without a marker of the key that of the id doesn't count
abbrev pub is_upload_after : List ℕ → List ℕ → List ℕ → List ℕ → Bool
is_upload_after key_marker id_marker key id =
    is_gt (name_cmp key key_marker) || (bytes_eq key key_marker && nat_lt 0 (length id_marker) && is_gt (name_cmp id id_marker))

abbrev pub is_upload_listed : List ℕ → List ℕ → List ℕ → List ℕ × Upload → Bool
is_upload_listed prefix key_marker id_marker e = begins prefix e.1.key && is_upload_after key_marker id_marker e.1.key e.0

-- where an upload stands among others: by its key and then its id, since no key has the byte 0
abbrev pub upload_place : List ℕ → List ℕ → List ℕ
upload_place key id = key ++ 0 ∷ id

abbrev pub upload_row : List ℕ × Upload → List ℕ × UploadItem
upload_row e = (upload_place e.1.key e.0, record { key = e.1.key; id = id_value e.0; started = e.1.started })

-- the open uploads with the prefix after the markers, in their order
abbrev pub uploads_after : List ℕ → List ℕ → List ℕ → Names Upload → List UploadItem
uploads_after prefix key_marker id_marker uploads =
    map (λ row. row.1) (entries (from_entries {R = name_cmp} (map upload_row (filter (is_upload_listed prefix key_marker id_marker) (entries uploads)))))

-- ---- completions

-- the numbers ascend strictly, and are above this one
abbrev pub rises_from : ℕ → List Listed → Bool
rises_from above [] = true
rises_from above (l ∷ list) = nat_lt above l.number && rises_from l.number list

-- the numbers ascend strictly. One of 0 may stand first: no part has it, so the part is missing
abbrev pub rises : List Listed → Bool
rises [] = true
rises (l ∷ list) = rises_from l.number list

abbrev pub chosen_two : Option Part → List ℕ → Option (List Part) → Option (List Part)
chosen_two None etag rest = None
chosen_two (Some p) etag None = None
chosen_two (Some p) etag (Some rest) = cond (bytes_eq p.etag etag) (Some (p ∷ rest)) None

-- the parts that are listed, where each is there with its ETag
unfoldable pub chosen : Numbers Part → List Listed → Option (List Part)
chosen parts [] = Some []
chosen parts (l ∷ list) = chosen_two (get parts l.number) l.etag (chosen parts list)

-- a part other than the last has fewer bytes than the least that it may have
abbrev pub is_too_small : ℕ → List Part → Bool
is_too_small least [] = false
is_too_small least (p ∷ []) = false
is_too_small least (p ∷ (q ∷ rest)) = nat_lt (length p.bytes) least || is_too_small least (q ∷ rest)

-- the 16 bytes that 32 hexadecimal digits write, and none for every other text
abbrev pub digest_from : Result (List ℕ) FromHexError → List ℕ
digest_from (Ok bytes) = bytes
digest_from (Err e) = []

abbrev pub digest_in : List ℕ → List ℕ
digest_in etag = digest_from (decode_sized etag 16)

-- the ETag of an object of parts with these ETags: the MD5 of their digests in a row, `-` and their number
unfoldable pub upload_etag : List (List ℕ) → List ℕ
upload_etag etags = encode_lower (md5 (flat_map digest_in etags)) ++ codes "-" ++ decimal (length etags)

abbrev pub etag_listed : Listed → List ℕ
etag_listed l = l.etag

-- the digests that the ETags of a list write, in a row
abbrev pub digests_of : List Listed → List ℕ
digests_of list = flat_map digest_in (map etag_listed list)

-- two entries of a list have the same number and the same ETag
abbrev pub same_listed : Listed → Listed → Bool
same_listed l m = nat_eq l.number m.number && bytes_eq l.etag m.etag

-- the ETag with which the same completion is kept: of the same key, with the same list
abbrev pub kept_as : List ℕ → List Listed → Option Completion → Option (List ℕ)
kept_as key list None = None
kept_as key list (Some c) = cond (bytes_eq c.key key && pointwise same_listed c.list list) (Some c.etag) None

abbrev pub bytes_in : Part → List ℕ
bytes_in p = p.bytes

abbrev pub etag_in : Part → List ℕ
etag_in p = p.etag

-- the object that the parts of an upload become
abbrev pub joined_object : Upload → List Part → ℕ → Object
joined_object u parts moment = record {
  bytes = flat_map bytes_in parts;
  etag = upload_etag (map etag_in parts);
  content_type = u.content_type;
  meta = u.meta;
  modified = moment;
}

-- what is kept of the completion of an upload
abbrev pub kept_of : Upload → List Listed → List Part → ℕ → Completion
kept_of u list parts moment = record { key = u.key; list = list; etag = upload_etag (map etag_in parts); started = u.started; moment = moment }

-- the completion of the upload of an id by these parts, which are those of the list
abbrev pub completed : List ℕ → List ℕ → Upload → List Listed → List Part → ℕ → Finished
completed bucket id u list parts moment =
    record { bucket = bucket; key = u.key; id = id; object = joined_object u parts moment; kept = kept_of u list parts moment }
