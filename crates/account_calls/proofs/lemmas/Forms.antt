-- What the file of an object says of it, by either form: put in one piece, or completed from parts.
use Rattle.std.specs.Prelude.{◌≡◌, ◌==◌, ◌&&◌, ◌||◌, ◌<◌, ◌^◌, ◌++◌, ℕ, true, cond, nat_eq, bytes_eq, sum_by, List, [], ◌∷◌, length, None, Some}
use Rattle.std.specs.Option.{option_and_then}
use Rattle.std.specs.FinMap.{get}
use Rattle.std.proofs.Common.{refl, ap, ◌∙◌, arith}
use Rattle.std.proofs.lemmas.Bool.{and_from, eq-eqb, le-leb, lt-ltb}
use Rattle.std.proofs.lemmas.List.{length-append}
use Rattle.std.proofs.lemmas.List.Sums.{sum_by-cons}
use Rattle.std.proofs.lemmas.Slice.Eq.{bytes_eq-Decides}
use Rattle.gate_base.specs.Maps.{Names}
use Rattle.gate_base.specs.declared.page.Pair.{Pair}
use Rattle.s3_names.specs.Id.{id_digits}
use Rattle.s3_names.specs.Key.{is_key}
use Rattle.s3_machine.specs.ETag.{body_etag}
use Rattle.s3_machine.specs.Limits.{most_body_bytes}
use Rattle.s3_machine.specs.State.{Object}
use Rattle.slo_manifest.specs.declared.Segment.{Segment}
use Rattle.swift_calls.specs.Account.{SwiftObject, size_of}
use Rattle.swift_calls.specs.Bodies.{Look, outer_bytes, joined_two, joined, bytes_of, is_list}
use Rattle.swift_calls.specs.Bodies as bodies
use Rattle.swift_calls.specs.declared.account.Content.{Content}
use Rattle.swift_calls.specs.declared.account.Content.TheVariants.{Plain}
use Rattle.swift_marks.specs.declared.tag.Tag.{Tag}
use Rattle.swift_marks.specs.Tag.{read_tag}
use Rattle.swift_marks.specs.Pack.{unpacked}
use Rattle.upload_records.specs.Native.{within, object_by, object_of}
use Rattle.upload_records.proofs.lemmas.Subs.{Finds, list_bytes, listing_sum, outer_part}
use Rattle.upload_records.specs.Consistent.{AreParts, IsCompletedBody, of_none, of_segments, IsPlainObject, IsCompletedObject, IsObject, in_one_piece, in_parts}
use Rattle.account_calls.specs.Interpret.{object_head_agrees_with_tag}
use Rattle.account_calls.proofs.lemmas.Etags.{etag_agrees}

-- ---- the bytes of listed parts

module _ (segments : Names SwiftObject) (folder id : List ℕ) where
  -- the bytes of the parts in a row
  abbrev bytes_of_parts : (above : ℕ) (list : List Segment) → AreParts segments folder id above list → List ℕ
  bytes_of_parts above [] h = []
  bytes_of_parts above (s ∷ list) (number, low, high, listed, rest) = listed.bytes ++ bytes_of_parts number list rest

  parts_are : (look : Look) → Finds segments folder look → (above : ℕ) (list : List Segment) (parts : AreParts segments folder id above list) → joined (outer_bytes look) list ≡ Some (bytes_of_parts above list parts)
  unfolding joined
  parts_are look finds above [] h = refl
  parts_are look finds above (s ∷ list) (number, low, high, listed, rest) =
      let later = parts_are look finds number list rest in
      let first = outer_part segments folder id look finds number s listed in
      λ i. joined_two (first i) (later i)

  parts_sized : (above : ℕ) (list : List Segment) (parts : AreParts segments folder id above list) → sum_by (λ (s : Segment). s.size) list ≡ length (bytes_of_parts above list parts)
  parts_sized above [] h = refl
  parts_sized above (s ∷ list) (number, low, high, listed, rest) =
      let later = parts_sized number list rest in
      let size = listed.size in
      let all = length-append listed.bytes (bytes_of_parts number list rest) in
      let sum = sum_by-cons (λ (s : Segment). s.size) s list in
      omega (arith, later, size, all, sum)

-- the bytes of a file and their number, however its segments are looked up
record HasBytes (segments : Names SwiftObject) (folder : List ℕ) (content : Content) : Type 0 where
  bytes : List ℕ
  over : (look : Look) → Finds segments folder look → bytes_of look content ≡ Some bytes
  sized : size_of content ≡ length bytes

body_has : (segments : Names SwiftObject) (folder id : List ℕ) (content : Content) → IsCompletedBody segments folder id content → HasBytes segments folder content
body_has segments folder id content (of_none own) = record { bytes = []; over = λ look finds. ap (bytes_of look) own; sized = ap size_of own }
body_has segments folder id content (of_segments listed own list) = record {
  bytes = bytes_of_parts segments folder id 0 list.parts list.are;
  over = λ look finds. ap (bytes_of look) own ∙ list_bytes segments folder id look finds listed list ∙ parts_are segments folder id look finds 0 list.parts list.are;
  sized = ap size_of own ∙ ap (sum_by (λ (s : Segment). s.size)) list.lists ∙ listing_sum folder id list.parts ∙ parts_sized segments folder id 0 list.parts list.are;
}

-- ---- what a file says

-- the tag, the metadata and the bytes of the object; and it is what its tag says
pub record Says (segments : Names SwiftObject) (folder : List ℕ) (file : SwiftObject) : Type 0 where
  pub tag : Tag
  pub meta : List Pair
  pub bytes : List ℕ
  pub tagged : read_tag file.content_type ≡ Some tag
  pub packed : unpacked file.meta ≡ Some meta
  pub over : (look : Look) → Finds segments folder look → bytes_of look file.content ≡ Some bytes
  pub sized : size_of file.content ≡ length bytes
  pub as_tagged : size_of file.content < 2 ^ 63 → object_head_agrees_with_tag (bodies.head_of file) tag ≡ true

-- the object itself
abbrev pub object_said : {segments : Names SwiftObject} {folder : List ℕ} {file : SwiftObject} → Says segments folder file → Object
object_said says = record { bytes = says.bytes; etag = says.tag.etag; content_type = says.tag.content_type; meta = says.meta; modified = says.tag.moment }

pub said : {segments : Names SwiftObject} {folder : List ℕ} {file : SwiftObject} (key : List ℕ) (says : Says segments folder file) → object_of segments key file ≡ Some (object_said says)
said {segments = segments} key says = λ i. object_by (says.tagged i) (says.packed i) (says.over (within segments) (λ name f there. there) i)

module _ (segments : Names SwiftObject) (folder : List ℕ) (file : SwiftObject) where
  whole_agrees : (plain : IsPlainObject file) → object_head_agrees_with_tag (bodies.head_of file) (record { content_type = plain.content_type; etag = body_etag plain.bytes; moment = plain.moment; id = None }) ≡ true
  whole_agrees plain =
      (λ i. object_head_agrees_with_tag (bodies.head_of (record { content_type = file.content_type; meta = file.meta; content = plain.own i })) (record { content_type = plain.content_type; etag = body_etag plain.bytes; moment = plain.moment; id = None }))
      ∙ and_from _ _ (etag_agrees plain.bytes) (le-leb (length plain.bytes) most_body_bytes plain.sized)

  body_agrees : (id : List ℕ) → IsCompletedBody segments folder id file.content → (is_list file.content || (size_of file.content == 0)) ≡ true
  body_agrees id (of_none own) = ap (λ c. is_list c || (size_of c == 0)) own
  body_agrees id (of_segments listed own form) = ap (λ c. is_list c || (size_of c == 0)) own

  parts_agree : (object : IsCompletedObject segments folder file) → size_of file.content < 2 ^ 63
      → object_head_agrees_with_tag (bodies.head_of file) (record { content_type = object.content_type; etag = object.etag; moment = object.moment; id = Some object.id }) ≡ true
  parts_agree object below =
      and_from _ _ (and_from _ _ (lt-ltb 32 (length object.etag) object.of_upload) (body_agrees (id_digits object.id) object.body)) (lt-ltb (size_of file.content) (2 ^ 63) below)

  -- a file of either form says so much
  pub says_of : (key : List ℕ) → IsObject segments folder key file → Says segments folder file
  says_of key (in_one_piece keyed plain) = record {
    tag = record { content_type = plain.content_type; etag = body_etag plain.bytes; moment = plain.moment; id = None };
    meta = plain.meta;
    bytes = plain.bytes;
    tagged = plain.tagged;
    packed = plain.packed;
    over = λ look finds. ap (bytes_of look) plain.own;
    sized = ap size_of plain.own;
    as_tagged = λ below. whole_agrees plain;
  }
  says_of key (in_parts keyed object) =
      let body : HasBytes segments folder file.content = body_has segments folder (id_digits object.id) file.content object.body in
      record {
        tag = record { content_type = object.content_type; etag = object.etag; moment = object.moment; id = Some object.id };
        meta = object.meta;
        bytes = body.bytes;
        tagged = object.tagged;
        packed = object.packed;
        over = body.over;
        sized = body.sized;
        as_tagged = parts_agree object;
      }

  pub key_of : (key : List ℕ) → IsObject segments folder key file → is_key key ≡ true
  key_of key (in_one_piece keyed plain) = keyed
  key_of key (in_parts keyed object) = keyed
