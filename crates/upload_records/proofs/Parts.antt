-- The listed parts of a completed object: their bytes, and that both stay where the parts do.
use Rattle.std.specs.Prelude.{◌≡◌, ◌&&◌, ◌<◌, ◌+◌, ℕ, true, cond, nat_eq, bytes_eq, List, [], ◌∷◌, ◌++◌, length, None, Some}
use Rattle.std.specs.Option.{option_and_then}
use Rattle.std.specs.FinMap.{get}
use Rattle.std.proofs.Common.{refl, sym, ap, ◌∙◌, arith, true≢false}
use Rattle.std.proofs.lemmas.Bool.{and_from, eq-eqb}
use Rattle.std.proofs.lemmas.Slice.Eq.{bytes_eq-Decides}
use Rattle.std.proofs.lemmas.Option.{same_Some}
use Rattle.gate_base.specs.Maps.{Names}
use Rattle.s3_names.specs.Id.{id_digits}
use Rattle.slo_manifest.specs.declared.Segment.{Segment}
use Rattle.swift_calls.specs.Account.{SwiftObject, size_of}
use Rattle.swift_calls.specs.Bodies.{etag_text, etag_of, is_segment, as_segment, segment_bytes_of, outer_bytes, joined_two, joined, bytes_of, is_list}
use Rattle.swift_calls.specs.declared.account.Content.{Content}
use Rattle.swift_calls.specs.declared.account.Content.TheVariants.{Plain, Segments}
use Rattle.swift_marks.specs.Tag.{read_tag}
use Rattle.swift_marks.specs.Pack.{unpacked}
use Rattle.upload_records.specs.Layout.{segment_name, sub_manifest_name}
use Rattle.upload_records.specs.Native.{within, sub_manifests, object_by, object_of}
use Rattle.upload_records.specs.Consistent.{IsListedPart, AreParts, HasSubManifests, IsSegmentList, IsCompletedBody, of_none, of_segments, IsCompletedObject, IsObject, in_one_piece, in_parts, IsListOf}
use Rattle.upload_records.proofs.lemmas.Subs as subs

-- ---- bytes

pub as_listed : (s : Segment) (file : SwiftObject) (bytes : List ℕ) → file.content ≡ Plain bytes → s.etag ≡ etag_text bytes → s.size ≡ length bytes → is_segment s file ≡ true
as_listed s file bytes own etag size =
    (λ i. bytes_eq (etag_of (own i)) (etag i) && nat_eq (size_of (own i)) (size i))
    ∙ and_from _ _ ((bytes_eq-Decides (etag_text bytes) (etag_text bytes)).1 refl) (eq-eqb (length bytes) (length bytes) refl)

-- a segment that is there with bytes of its own
pub outer_listed : (S : Names SwiftObject) (s : Segment) (file : SwiftObject) (name bytes : List ℕ) → s.name ≡ name → get S name ≡ Some file → file.content ≡ Plain bytes → s.etag ≡ etag_text bytes → s.size ≡ length bytes
    → outer_bytes (within S) s ≡ Some bytes
outer_listed S s file name bytes named there own etag size =
    ap (λ o. option_and_then (segment_bytes_of (within S)) (as_segment s o)) (ap (get S) named ∙ there)
    ∙ ap (λ t. option_and_then (segment_bytes_of (within S)) (cond t (Some file.content) None)) (as_listed s file bytes own etag size)
    ∙ ap (segment_bytes_of (within S)) own

joined_parts : (S : Names SwiftObject) (folder id : List ℕ) (above : ℕ) (list : List Segment) → AreParts S folder id above list → (bytes : List ℕ) × (joined (outer_bytes (within S)) list ≡ Some bytes)
unfolding joined
joined_parts S folder id above [] h = ([], refl)
joined_parts S folder id above (s ∷ list) (number, low, high, listed, rest) =
    let later = joined_parts S folder id number list rest in
    let first = outer_listed S s listed.file (segment_name id number) listed.bytes listed.named listed.there listed.own listed.etag listed.size in
    (listed.bytes ++ later.0, (λ i. joined_two (first i) (later.1 i)))

-- the bytes of what an object lists, its segments looked up in the container beside it
pub list_bytes : (S : Names SwiftObject) (folder id : List ℕ) (listed : List Segment) (list : IsSegmentList S folder id listed) → joined (outer_bytes (within S)) listed ≡ joined (outer_bytes (within S)) list.parts
list_bytes S folder id listed list = subs.list_bytes S folder id (within S) (λ name file there. there) listed list

body_bytes : (S : Names SwiftObject) (folder id : List ℕ) (file : SwiftObject) → IsCompletedBody S folder id file.content → (bytes : List ℕ) × (bytes_of (within S) file.content ≡ Some bytes)
body_bytes S folder id file (of_none own) = ([], ap (bytes_of (within S)) own)
body_bytes S folder id file (of_segments listed own list) =
    let all = joined_parts S folder id 0 list.parts list.are in
    (all.0, ap (bytes_of (within S)) own ∙ list_bytes S folder id listed list ∙ all.1)

-- the bytes of a completed object are there
pub completed_bytes : (S : Names SwiftObject) (folder : List ℕ) (file : SwiftObject) → IsCompletedObject S folder file → (bytes : List ℕ) × (bytes_of (within S) file.content ≡ Some bytes)
completed_bytes S folder file object = body_bytes S folder (id_digits object.id) file object.body

-- ---- an id whose segments are listed

-- a completed object that lists segments has the id of its list
same_id : (file : SwiftObject) (id : ℕ) (S : Names SwiftObject) (folder : List ℕ) → IsListOf file id → (object : IsCompletedObject S folder file) → id ≡ object.id
same_id file id S folder lists object =
    let tags = same_Some _ _ (sym lists.tagged ∙ object.tagged) in
    same_Some id object.id (ap (λ t. t.id) tags)

no_list : (file : SwiftObject) (bytes : List ℕ) → file.content ≡ Plain bytes → is_list file.content ≡ true → ⊥
no_list file bytes own lists = true≢false (sym lists ∙ ap is_list own)

-- no content is bytes and a list of segments
pub own_no_list : (content : Content) (bytes : List ℕ) (listed : List Segment) → content ≡ Plain bytes → content ≡ Segments listed → ⊥
own_no_list content bytes listed own lists = let same : Plain bytes ≡ Segments listed = sym own ∙ lists in cc

first_there : (S : Names SwiftObject) (folder id : List ℕ) (list : List Segment) → AreParts S folder id 0 list → 0 < length list → ((k : ℕ) → get S (segment_name id k) ≡ None) → ⊥
first_there S folder id [] h some none = omega (arith, some)
first_there S folder id (s ∷ list) (number, low, high, listed, rest) some none = none_found listed.file (sym (none number) ∙ listed.there)
  where
    none_found : {X : Type 0} (x : X) → None ≡ Some x → ⊥
    none_found x e = cc

body_listed : (S : Names SwiftObject) (folder id : List ℕ) (file : SwiftObject) → is_list file.content ≡ true → IsCompletedBody S folder id file.content → ((k : ℕ) → get S (segment_name id k) ≡ None) → ⊥
body_listed S folder id file lists (of_none own) none = no_list file [] own lists
body_listed S folder id file lists (of_segments listed own list) none = first_there S folder id list.parts list.are list.some none

-- where no segment stands under an id, no object lists one
pub unlisted : (S : Names SwiftObject) (folder key : List ℕ) (file : SwiftObject) (id : ℕ) → IsObject S folder key file → IsListOf file id → ((k : ℕ) → get S (segment_name (id_digits id) k) ≡ None) → ⊥
unlisted S folder key file id (in_one_piece keyed plain) lists none = no_list file plain.bytes plain.own lists.lists
unlisted S folder key file id (in_parts keyed object) lists none =
    body_listed S folder (id_digits object.id) file lists.lists object.body
    (λ k. ap (λ j. get S (segment_name (id_digits j) k)) (sym (same_id file id S folder lists object)) ∙ none k)

-- ---- objects whose segments stay

-- what stands under the text of an id stays, be it a part or a sub-manifest
pub record KeepsSegments (S S' : Names SwiftObject) (id : List ℕ) : Type 0 where
  pub parts : (k : ℕ) (f : SwiftObject) → get S (segment_name id k) ≡ Some f → get S' (segment_name id k) ≡ Some f
  pub subs : (k : ℕ) (f : SwiftObject) → get S (sub_manifest_name id k) ≡ Some f → get S' (sub_manifest_name id k) ≡ Some f

module _ (S S' : Names SwiftObject) (folder id : List ℕ) (keeps : KeepsSegments S S' id) where
  moved_part : (number : ℕ) (s : Segment) → IsListedPart S folder id number s → IsListedPart S' folder id number s
  moved_part number s listed = record {
    file = listed.file;
    bytes = listed.bytes;
    contained = listed.contained;
    named = listed.named;
    there = keeps.parts number listed.file listed.there;
    own = listed.own;
    etag = listed.etag;
    size = listed.size;
    filled = listed.filled;
  }

  pub parts_stay : (above : ℕ) (list : List Segment) → AreParts S folder id above list → AreParts S' folder id above list
  parts_stay above [] h = tt
  parts_stay above (s ∷ list) (number, low, high, listed, rest) = (number, low, high, moved_part number s listed, parts_stay number list rest)

  joined_stay : (above : ℕ) (list : List Segment) → AreParts S folder id above list → joined (outer_bytes (within S')) list ≡ joined (outer_bytes (within S)) list
  unfolding joined
  joined_stay above [] h = refl
  joined_stay above (s ∷ list) (number, low, high, listed, rest) =
      let new = outer_listed S' s listed.file (segment_name id number) listed.bytes listed.named (keeps.parts number listed.file listed.there) listed.own listed.etag listed.size in
      let old = outer_listed S s listed.file (segment_name id number) listed.bytes listed.named listed.there listed.own listed.etag listed.size in
      let one : outer_bytes (within S') s ≡ outer_bytes (within S) s = new ∙ sym old in
      let later = joined_stay number list rest in
      λ i. joined_two (one i) (later i)

  pub subs_stay : (parts : List Segment) (count : ℕ) → HasSubManifests S id parts count → HasSubManifests S' id parts count
  subs_stay parts count subs n below = let sub = subs n below in record { file = sub.file; there = keeps.subs (n + 1) sub.file sub.there; own = sub.own }

  list_stays : (listed : List Segment) → IsSegmentList S folder id listed → IsSegmentList S' folder id listed
  list_stays listed list = record {
    parts = list.parts;
    some = list.some;
    few = list.few;
    are = parts_stay 0 list.parts list.are;
    lists = list.lists;
    subs = subs_stay list.parts (sub_manifests (length list.parts)) list.subs;
  }

  list_same : (listed : List Segment) → IsSegmentList S folder id listed → joined (outer_bytes (within S')) listed ≡ joined (outer_bytes (within S)) listed
  unfolding list_stays joined
  list_same listed list =
      list_bytes S' folder id listed (list_stays listed list) ∙ joined_stay 0 list.parts list.are ∙ sym (list_bytes S folder id listed list)

module _ (S S' : Names SwiftObject) (folder : List ℕ) (file : SwiftObject) (same : (id : ℕ) → IsListOf file id → KeepsSegments S S' (id_digits id)) where
  listed_by : (object : IsCompletedObject S folder file) (listed : List Segment) → file.content ≡ Segments listed → IsListOf file object.id
  listed_by object listed own = record { content_type = object.content_type; etag = object.etag; moment = object.moment; tagged = object.tagged; lists = ap is_list own }

  body_stays : (object : IsCompletedObject S folder file) → IsCompletedBody S folder (id_digits object.id) file.content → IsCompletedBody S' folder (id_digits object.id) file.content
  body_stays object (of_none own) = of_none own
  body_stays object (of_segments listed own list) =
      of_segments listed own (list_stays S S' folder (id_digits object.id) (same object.id (listed_by object listed own)) listed list)

  bytes_stay : (object : IsCompletedObject S folder file) → IsCompletedBody S folder (id_digits object.id) file.content → bytes_of (within S') file.content ≡ bytes_of (within S) file.content
  bytes_stay object (of_none own) = ap (bytes_of (within S')) own ∙ sym (ap (bytes_of (within S)) own)
  bytes_stay object (of_segments listed own list) =
      ap (bytes_of (within S')) own ∙ list_same S S' folder (id_digits object.id) (same object.id (listed_by object listed own)) listed list
      ∙ sym (ap (bytes_of (within S)) own)

  -- an object stays one
  pub object_stays : (key : List ℕ) → IsObject S folder key file → IsObject S' folder key file
  object_stays key (in_one_piece keyed plain) = in_one_piece keyed plain
  object_stays key (in_parts keyed object) = in_parts keyed (record {
    content_type = object.content_type;
    etag = object.etag;
    meta = object.meta;
    moment = object.moment;
    id = object.id;
    tagged = object.tagged;
    of_upload = object.of_upload;
    packed = object.packed;
    described = object.described;
    body = body_stays object object.body;
  })

  all_bytes_stay : (key : List ℕ) → IsObject S folder key file → bytes_of (within S') file.content ≡ bytes_of (within S) file.content
  all_bytes_stay key (in_one_piece keyed plain) = ap (bytes_of (within S')) plain.own ∙ sym (ap (bytes_of (within S)) plain.own)
  all_bytes_stay key (in_parts keyed object) = bytes_stay object object.body

  -- and represents the same
  pub object_same : (key : List ℕ) → IsObject S folder key file → object_of S' key file ≡ object_of S key file
  object_same key object = ap (object_by (read_tag file.content_type) (unpacked file.meta)) (all_bytes_stay key object)
