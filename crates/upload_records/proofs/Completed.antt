-- The parts that a sealed completion lists, but the empty ones, make a list of segments, whose bytes are those of its object.
use Rattle.std.specs.Prelude.{◌≡◌, ◌+◌, ◌<◌, ◌≤◌, ℕ, Bool, true, false, cond, nat_lt, List, [], ◌∷◌, ◌++◌, map, length, Some}
use Rattle.std.specs.Option.{option_and_then}
use Rattle.std.specs.FinMap.{get}
use Rattle.std.proofs.Common.{refl, sym, ap, ◌∙◌, arith}
use Rattle.std.proofs.lemmas.Bool.{and_parts}
use Rattle.std.proofs.lemmas.Bool.Decides.{nat_tests}
use Rattle.gate_base.specs.Maps.{Names}
use Rattle.s3_machine.specs.Uploads.{greatest_part, most_parts, rises_from}
use Rattle.s3_names.specs.Id.{id_digits}
use Rattle.slo_manifest.specs.declared.Segment.{Segment}
use Rattle.std.proofs.lemmas.Option.{same_Some}
use Rattle.swift_calls.specs.declared.account.Content.TheVariants.{Segments}
use Rattle.swift_calls.specs.Account.{SwiftObject}
use Rattle.swift_calls.specs.Bodies.{plain_bytes, bytes_of, outer_bytes, joined_two, joined}
use Rattle.swift_marks.specs.declared.tag.Tag.{Tag}
use Rattle.swift_marks.specs.Tag.{read_tag, tag_text}
use Rattle.swift_marks.specs.Pack.{unpacked, pack_of}
use Rattle.swift_marks.proofs.lemmas.TagLaws.{tag_text_reads}
use Rattle.swift_marks.proofs.lemmas.PackLaws.{pack_unpacks}
use Rattle.upload_texts.specs.declared.sealed.Sealed.{Sealed}
use Rattle.upload_texts.specs.declared.sealed.SealedPart.{SealedPart}
use Rattle.upload_records.specs.Layout.{segments_name, segment_name}
use Rattle.upload_records.specs.Native.{within, object_by, object_of, part_by, part_of, part_at, part_bytes, sealed_bytes, sealed_object, listed_of, filled_parts, part_segment, part_segments, sub_manifests, listing_by, sealed_segments, content_by, sealed_tag, completed_file}
use Rattle.upload_records.specs.Consistent.{IsListedPart, AreParts, HasSubManifests, IsCompletedBody, of_none, of_segments, IsObject, in_parts, IsListOf, IsSegment, is_part, is_sub_manifest, IsSealedPart, AreSealedParts}
use Rattle.upload_records.specs.Laws.{AreCounted, MayStand, Stands}
use Rattle.upload_records.proofs.Parts.{outer_listed, own_no_list}
use Rattle.upload_records.proofs.lemmas.Subs.{listing_filled, listing_joins}

lower : (S : Names SwiftObject) (folder id : List ℕ) (above from : ℕ) (list : List Segment) → above < from → AreParts S folder id from list → AreParts S folder id above list
lower S folder id above from [] less parts = tt
lower S folder id above from (s ∷ list) less (number, low, high, listed, rest) = (number, (omega (arith, less, low)), high, listed, rest)

filled_size : (p : SealedPart) (n : ℕ) → nat_lt 0 p.size ≡ true → p.size ≡ n → 0 < n
filled_size p n some same = let filled : 0 < p.size = grind (arith, nat_tests) in omega (arith, filled, same)

listed_part : (S : Names SwiftObject) (folder id : List ℕ) (p : SealedPart) → nat_lt 0 p.size ≡ true → IsSealedPart S id p → IsListedPart S folder id p.number (part_segment folder id p)
listed_part S folder id p some part = record {
  file = part.file;
  bytes = part.bytes;
  contained = refl;
  named = refl;
  there = part.there;
  own = part.own;
  etag = part.etag;
  size = part.size;
  filled = filled_size p (length part.bytes) some part.size;
}

add_part : (S : Names SwiftObject) (folder id : List ℕ) (above : ℕ) (p : SealedPart) (rest : List SealedPart) (t : Bool) → nat_lt 0 p.size ≡ t → above < p.number → p.number ≤ greatest_part → IsSealedPart S id p
    → AreParts S folder id p.number (map (part_segment folder id) rest) → AreParts S folder id above (map (part_segment folder id) (cond t (p ∷ rest) rest))
add_part S folder id above p rest true some low high part parts = (p.number, low, high, listed_part S folder id p some part, parts)
add_part S folder id above p rest false none low high part parts = lower S folder id above p.number (map (part_segment folder id) rest) low parts

less_by : (a b : ℕ) → nat_lt a b ≡ true → a < b
less_by a b e = grind (arith, nat_tests)

-- the segments are parts of the upload
pub parts_listed : (S : Names SwiftObject) (folder id : List ℕ) (above : ℕ) (list : List SealedPart) → rises_from above (map listed_of list) ≡ true → AreCounted list → AreSealedParts S id list
    → AreParts S folder id above (map (part_segment folder id) (filled_parts list))
parts_listed S folder id above [] ascends counted sealed = tt
parts_listed S folder id above (p ∷ list) ascends (high, counted) (part, sealed) =
    let both = and_parts (nat_lt above p.number) (rises_from p.number (map listed_of list)) ascends in
    add_part S folder id above p (filled_parts list) (nat_lt 0 p.size) refl (less_by above p.number both.0) high part (parts_listed S folder id p.number list both.1 counted sealed)

-- ---- their bytes

-- the bytes of a sealed part are those of the part of its number
part_there : (S : Names SwiftObject) (id : List ℕ) (p : SealedPart) (part : IsSealedPart S id p) → IsSegment (segment_name id p.number) part.file → part_bytes (part_at S id p.number) ≡ part.bytes
part_there S id p part (is_part is) =
    ap (λ o. part_bytes (option_and_then part_of o)) part.there ∙ (λ i. part_bytes (part_by (is.tagged i) (plain_bytes (part.own i))))
part_there S id p part (is_sub_manifest sub) = absurd (own_no_list part.file.content part.bytes sub.listed part.own sub.own)

empty_bytes : (bytes : List ℕ) (size : ℕ) → nat_lt 0 size ≡ false → size ≡ length bytes → bytes ≡ []
empty_bytes [] size none same = refl
empty_bytes (b ∷ bytes) size none same = absurd (let zero_size : size ≤ 0 = grind (arith, nat_tests) in omega (arith, zero_size, same))

add_bytes : (S : Names SwiftObject) (folder id : List ℕ) (p : SealedPart) (rest : List SealedPart) (later : List ℕ) (t : Bool) → nat_lt 0 p.size ≡ t → (part : IsSealedPart S id p)
    → joined (outer_bytes (within S)) (map (part_segment folder id) rest) ≡ Some later → joined (outer_bytes (within S)) (map (part_segment folder id) (cond t (p ∷ rest) rest)) ≡ Some (part.bytes ++ later)
unfolding joined
add_bytes S folder id p rest later true some part joins =
    let first = outer_listed S (part_segment folder id p) part.file (segment_name id p.number) part.bytes refl part.there part.own part.etag part.size in
    λ i. joined_two (first i) (joins i)
add_bytes S folder id p rest later false none part joins = joins ∙ ap (λ b. Some (b ++ later)) (sym (empty_bytes part.bytes p.size none part.size))

pub bytes_listed : (S : Names SwiftObject) (folder id : List ℕ) → ((name : List ℕ) (file : SwiftObject) → get S name ≡ Some file → IsSegment name file) → (list : List SealedPart) → AreSealedParts S id list
    → joined (outer_bytes (within S)) (map (part_segment folder id) (filled_parts list)) ≡ Some (sealed_bytes S id list)
unfolding joined
bytes_listed S folder id segments [] sealed = refl
bytes_listed S folder id segments (p ∷ list) (part, sealed) =
    add_bytes S folder id p (filled_parts list) (sealed_bytes S id list) (nat_lt 0 p.size) refl part (bytes_listed S folder id segments list sealed)
    ∙ ap (λ b. Some (b ++ sealed_bytes S id list)) (sym (part_there S id p part (segments (segment_name id p.number) part.file part.there)))

pub listing_stands : (S : Names SwiftObject) (folder id : List ℕ) (above : ℕ) (list : List SealedPart) → rises_from above (map listed_of list) ≡ true → AreCounted list
    → ((name : List ℕ) (file : SwiftObject) → get S name ≡ Some file → IsSegment name file) → AreSealedParts S id list
    → AreParts S folder id above (part_segments folder id (filled_parts list)) × (joined (outer_bytes (within S)) (part_segments folder id (filled_parts list)) ≡ Some (sealed_bytes S id list))
listing_stands S folder id above list ascends counted segments sealed = (parts_listed S folder id above list ascends counted sealed, bytes_listed S folder id segments list sealed)

-- ---- the object's file

few_by : (folder id : List ℕ) (p : SealedPart) (rest : List SealedPart) (most : ℕ) (t : Bool) → length (map (part_segment folder id) rest) ≤ most → length (map (part_segment folder id) (cond t (p ∷ rest) rest)) ≤ 1 + most
few_by folder id p rest most true few = omega (arith, few)
few_by folder id p rest most false few = omega (arith, few)

few_listed : (folder id : List ℕ) (list : List SealedPart) → length (map (part_segment folder id) (filled_parts list)) ≤ length list
few_listed folder id [] = omega (arith)
few_listed folder id (p ∷ list) = let few = few_by folder id p (filled_parts list) (length list) (nat_lt 0 p.size) (few_listed folder id list) in omega (arith, few)

bytes_by : (S : Names SwiftObject) (list : List Segment) (bytes : List ℕ) → joined (outer_bytes (within S)) list ≡ Some bytes → bytes_of (within S) (content_by list) ≡ Some bytes
unfolding joined
bytes_by S [] bytes e = e
bytes_by S (s ∷ list) bytes e = e

content_filled : (list : List Segment) → 0 < length list → content_by list ≡ Segments list
content_filled [] some = absurd (omega (arith, some))
content_filled (s ∷ list) some = refl

body_by : (S : Names SwiftObject) (folder id : List ℕ) (parts : List Segment) → length parts ≤ most_parts → AreParts S folder id 0 parts → HasSubManifests S id parts (sub_manifests (length parts))
    → IsCompletedBody S folder id (content_by (listing_by folder id parts))
unfolding listing_by
body_by S folder id [] few are subs = of_none refl
body_by S folder id (p ∷ parts) few are subs =
    of_segments (listing_by folder id (p ∷ parts)) (content_filled (listing_by folder id (p ∷ parts)) (listing_filled folder id (p ∷ parts) (omega arith)))
    (record { parts = p ∷ parts; some = omega arith; few = few; are = are; lists = refl; subs = subs })

fewer : (a b c : ℕ) → a ≤ b → b ≤ c → a ≤ c
fewer a b c p q = omega (arith, p, q)

module _ (S : Names SwiftObject) (s : Sealed) (may : MayStand S s) where
  tagged : read_tag (tag_text (sealed_tag s)) ≡ Some (sealed_tag s)
  tagged = tag_text_reads (sealed_tag s) may.tagged

  packed : unpacked (pack_of s.meta) ≡ Some s.meta
  packed = pack_unpacks s.meta may.packed

  few_segments : length (sealed_segments s) ≤ most_parts
  few_segments = fewer (length (sealed_segments s)) (length s.list) most_parts (few_listed (segments_name s.bucket) (id_digits s.id) s.list) may.few

  are_segments : AreParts S (segments_name s.bucket) (id_digits s.id) 0 (sealed_segments s)
  are_segments = parts_listed S (segments_name s.bucket) (id_digits s.id) 0 s.list may.ascends may.counted may.parts

  completed_is : IsObject S (segments_name s.bucket) s.key (completed_file s)
  completed_is = in_parts may.keyed (record {
    content_type = s.content_type;
    etag = s.etag;
    meta = s.meta;
    moment = s.moment;
    id = s.id;
    tagged = tagged;
    of_upload = may.of_upload;
    packed = packed;
    described = may.described;
    body = body_by S (segments_name s.bucket) (id_digits s.id) (sealed_segments s) few_segments are_segments may.subs;
  })

  completed_reads : object_of S s.key (completed_file s) ≡ Some (sealed_object S s)
  completed_reads =
      let bytes = bytes_by S (listing_by (segments_name s.bucket) (id_digits s.id) (sealed_segments s)) (sealed_bytes S (id_digits s.id) s.list)
      (listing_joins S (segments_name s.bucket) (id_digits s.id) (within S) (λ name file there. there) (sealed_segments s) are_segments may.subs
      ∙ bytes_listed S (segments_name s.bucket) (id_digits s.id) may.filed s.list may.parts) in
      λ i. object_by (tagged i) (packed i) (bytes i)

  same_list : (id : ℕ) → IsListOf (completed_file s) id → id ≡ s.id
  same_list id lists = same_Some id s.id (ap (λ (t : Tag). t.id) (same_Some _ _ (sym lists.tagged ∙ tagged)))

  pub completed_stands : Stands S s (completed_file s)
  completed_stands = record { is = completed_is; reads = completed_reads; lists = same_list }
