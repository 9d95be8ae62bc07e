-- The objects of a bucket, where a segment that none of them lists goes.
use Rattle.std.specs.Prelude.{◌≡◌, ◌+◌, ◌||◌, ℕ, Bool, true, false, cond, bytes_eq, List, [], ◌∷◌, length, Some}
use Rattle.std.specs.List.{list_any}
use Rattle.std.specs.Option.{unwrap_or}
use Rattle.std.specs.Ordering.{eq_by_cmp}
use Rattle.std.specs.FinMap.{entries, find, get, get-entries, remove}
use Rattle.std.proofs.Common.{refl, sym, ap, subst, ◌∙◌}
use Rattle.std.proofs.lemmas.Option.{same_Some}
use Rattle.std.proofs.lemmas.Map.Text.{is_eq-slice_cmp}
use Rattle.gate_base.specs.Maps.{Names, name_cmp, picked}
use Rattle.gate_base.proofs.lemmas.Maps.{by_name, key_itself, off_remove, picked_same}
use Rattle.s3_names.specs.Id.{id_digits}
use Rattle.slo_manifest.specs.declared.Segment.{Segment}
use Rattle.swift_calls.specs.Account.{SwiftObject}
use Rattle.swift_calls.specs.Bodies.{outer_bytes, joined, joined_two, bytes_of, listed_in}
use Rattle.swift_calls.specs.declared.account.Content.TheVariants.{Segments}
use Rattle.swift_marks.specs.Tag.{read_tag}
use Rattle.swift_marks.specs.Pack.{unpacked}
use Rattle.upload_records.specs.Layout.{segment_name, sub_manifest_name}
use Rattle.upload_records.specs.Native.{within, sub_manifests, object_by, object_of}
use Rattle.upload_records.specs.Consistent.{IsListedPart, AreParts, HasSubManifests, IsSegmentList, IsCompletedBody, of_none, of_segments, IsObject, in_one_piece, in_parts}
use Rattle.upload_records.proofs.lemmas.Subs.{list_bytes, outer_part}
use Rattle.leftovers.specs.Leftovers.{is_listed_in, is_named_in, lists_segment, names_segment, segments_in}
use Rattle.leftovers.proofs.lemmas.Consistency.{none_found}
use Rattle.leftovers.proofs.SubManifests.{ListApart, list_apart, or_false}

or_true : (t : Bool) → (t || true) ≡ true
or_true true = refl
or_true false = refl

-- what no entry passes, what stands under a name doesn't
none_passes_by : {X : Type 0} (p : X → Bool) (e : List ℕ × X) (t : Bool) (x : X) (q : List ℕ) (es : List (List ℕ × X)) → p e.1 ≡ false → (find name_cmp q es ≡ Some x → p x ≡ false)
    → cond t (Some e.1) (find name_cmp q es) ≡ Some x → p x ≡ false
none_passes_by p e true x q es here later found = ap p (sym (same_Some e.1 x found)) ∙ here
none_passes_by p e false x q es here later found = later found

none_passes : {X : Type 0} (p : X → Bool) (q : List ℕ) (es : List (List ℕ × X)) (x : X) → list_any (λ e. p e.1) es ≡ false → find name_cmp q es ≡ Some x → p x ≡ false
none_passes p q [] x none found = absurd (none_found x found)
none_passes p q (e ∷ es) x none found =
    let parts = or_false (p e.1) (list_any (λ e. p e.1) es) none in
    none_passes_by p e (eq_by_cmp name_cmp q e.0) x q es parts.0 (none_passes p q es x parts.1) found

pub not_listed : (objects segments : Names SwiftObject) (name key : List ℕ) (file : SwiftObject) → is_listed_in objects segments name ≡ false → get objects key ≡ Some file → lists_segment segments name file ≡ false
not_listed objects segments name key file none found = none_passes (lists_segment segments name) key (entries objects) file none (sym (get-entries objects key) ∙ found)

module _ (S : Names SwiftObject) (name : List ℕ) where
  abbrev pub Left : Names SwiftObject
  Left = remove S name

  pub off_listed : (n : List ℕ) → bytes_eq n name ≡ false → get Left n ≡ get S n
  off_listed n apart = off_remove by_name S name n (is_eq-slice_cmp n name ∙ apart)

  part_left : (folder id : List ℕ) (number : ℕ) (s : Segment) → bytes_eq s.name name ≡ false → IsListedPart S folder id number s → IsListedPart Left folder id number s
  part_left folder id number s apart listed = record {
    file = listed.file;
    bytes = listed.bytes;
    contained = listed.contained;
    named = listed.named;
    there = off_listed (segment_name id number) (subst (λ n. bytes_eq n name ≡ false) listed.named apart) ∙ listed.there;
    own = listed.own;
    etag = listed.etag;
    size = listed.size;
    filled = listed.filled;
  }

  parts_left : (folder id : List ℕ) (above : ℕ) (list : List Segment) → is_named_in name list ≡ false → AreParts S folder id above list → AreParts Left folder id above list
  parts_left folder id above [] apart h = tt
  parts_left folder id above (s ∷ list) apart (number, low, high, listed, rest) =
      let both = or_false (bytes_eq s.name name) (is_named_in name list) apart in
      (number, low, high, part_left folder id number s both.0 listed, parts_left folder id number list both.1 rest)

  joined_left : (folder id : List ℕ) (above : ℕ) (list : List Segment) → is_named_in name list ≡ false → AreParts S folder id above list → joined (outer_bytes (within Left)) list ≡ joined (outer_bytes (within S)) list
  unfolding joined part_left
  joined_left folder id above [] apart h = refl
  joined_left folder id above (s ∷ list) apart (number, low, high, listed, rest) =
      let both = or_false (bytes_eq s.name name) (is_named_in name list) apart in
      let new = outer_part Left folder id (within Left) (λ n file there. there) number s (part_left folder id number s both.0 listed) in
      let old = outer_part S folder id (within S) (λ n file there. there) number s listed in
      let one : outer_bytes (within Left) s ≡ outer_bytes (within S) s = new ∙ sym old in
      let later = joined_left folder id number list both.1 rest in
      λ i. joined_two (one i) (later i)

  module _ (folder id : List ℕ) (listed : List Segment) (list : IsSegmentList S folder id listed) (apart : ListApart S name folder id list.parts) where
    subs_left : HasSubManifests Left id list.parts (sub_manifests (length list.parts))
    subs_left n below =
        let sub = list.subs n below in
        record { file = sub.file; there = off_listed (sub_manifest_name id (n + 1)) (apart.subs n below) ∙ sub.there; own = sub.own }

    list_left : IsSegmentList Left folder id listed
    list_left = record {
      parts = list.parts;
      some = list.some;
      few = list.few;
      are = parts_left folder id 0 list.parts apart.parts_apart list.are;
      lists = list.lists;
      subs = subs_left;
    }

    list_same : joined (outer_bytes (within Left)) listed ≡ joined (outer_bytes (within S)) listed
    unfolding list_left
    list_same =
        list_bytes Left folder id (within Left) (λ n file there. there) listed list_left ∙ joined_left folder id 0 list.parts apart.parts_apart list.are
        ∙ sym (list_bytes S folder id (within S) (λ n file there. there) listed list)

  module _ (folder : List ℕ) (file : SwiftObject) (unlisted : lists_segment S name file ≡ false) where
    none_named : (listed : List Segment) → file.content ≡ Segments listed → list_any (names_segment S name) listed ≡ false
    none_named listed own = ap (λ c. list_any (names_segment S name) (unwrap_or (listed_in c) [])) (sym own) ∙ unlisted

    apart_of : (id : List ℕ) (listed : List Segment) → file.content ≡ Segments listed → (list : IsSegmentList S folder id listed) → ListApart S name folder id list.parts
    apart_of id listed own list = list_apart S name folder id list.parts list.subs (ap (list_any (names_segment S name)) (sym list.lists) ∙ none_named listed own)

    body_left : (id : List ℕ) → IsCompletedBody S folder id file.content → IsCompletedBody Left folder id file.content
    body_left id (of_none own) = of_none own
    body_left id (of_segments listed own list) = of_segments listed own (list_left folder id listed list (apart_of id listed own list))

    bytes_left : (id : List ℕ) → IsCompletedBody S folder id file.content → bytes_of (within Left) file.content ≡ bytes_of (within S) file.content
    bytes_left id (of_none own) = ap (bytes_of (within Left)) own ∙ sym (ap (bytes_of (within S)) own)
    bytes_left id (of_segments listed own list) =
        ap (bytes_of (within Left)) own ∙ list_same folder id listed list (apart_of id listed own list) ∙ sym (ap (bytes_of (within S)) own)

    -- an object stays one
    pub object_left : (key : List ℕ) → IsObject S folder key file → IsObject Left folder key file
    object_left key (in_one_piece keyed plain) = in_one_piece keyed plain
    object_left key (in_parts keyed object) = in_parts keyed (record {
      content_type = object.content_type;
      etag = object.etag;
      meta = object.meta;
      moment = object.moment;
      id = object.id;
      tagged = object.tagged;
      of_upload = object.of_upload;
      packed = object.packed;
      described = object.described;
      body = body_left (id_digits object.id) object.body;
    })

    all_bytes_left : (key : List ℕ) → IsObject S folder key file → bytes_of (within Left) file.content ≡ bytes_of (within S) file.content
    all_bytes_left key (in_one_piece keyed plain) = ap (bytes_of (within Left)) plain.own ∙ sym (ap (bytes_of (within S)) plain.own)
    all_bytes_left key (in_parts keyed object) = bytes_left (id_digits object.id) object.body

    -- and represents the same
    pub object_same : (key : List ℕ) → IsObject S folder key file → object_of Left key file ≡ object_of S key file
    object_same key object = ap (object_by (read_tag file.content_type) (unpacked file.meta)) (all_bytes_left key object)

-- all objects of a bucket do
module _ (folder : List ℕ) (O S : Names SwiftObject) (name : List ℕ) (unlisted : is_listed_in O S name ≡ false) (objects : (key : List ℕ) (file : SwiftObject) → get O key ≡ Some file → IsObject S folder key file) where
  pub objects_left : (key : List ℕ) (file : SwiftObject) → get O key ≡ Some file → IsObject (remove S name) folder key file
  objects_left key file found = object_left S name folder file (not_listed O S name key file unlisted found) key (objects key file found)

  pub objects_same : picked (object_of (remove S name)) O ≡ picked (object_of S) O
  objects_same = picked_same by_name (object_of (remove S name)) (object_of S) O
      (λ key file found. object_same S name folder file (not_listed O S name key file unlisted found) key (objects key file found))

-- ---- what is listed, where what is listed stays

module _ (S S' : Names SwiftObject) (text : List ℕ) where
  named_alike : (s : Segment) → get S' s.name ≡ get S s.name → names_segment S' text s ≡ names_segment S text s
  named_alike s same = ap (λ o. bytes_eq s.name text || is_named_in text (segments_in o)) same

  itself : (s : Segment) → names_segment S s.name s ≡ true
  itself s = ap (λ t. t || is_named_in s.name (segments_in (get S s.name))) (sym (is_eq-slice_cmp s.name s.name) ∙ key_itself by_name s.name)

  list_alike : (list : List Segment) → ((n : List ℕ) → list_any (names_segment S n) list ≡ true → get S' n ≡ get S n) → list_any (names_segment S' text) list ≡ list_any (names_segment S text) list
  list_alike [] same = refl
  list_alike (s ∷ list) same =
      let one = named_alike s (same s.name (ap (λ t. t || list_any (names_segment S s.name) list) (itself s))) in
      let later = list_alike list (λ n named. same n (ap (λ t. names_segment S n s || t) named ∙ or_true (names_segment S n s))) in
      λ i. one i || later i

  rows_alike : (es : List (List ℕ × SwiftObject)) → ((n : List ℕ) → list_any (λ e. lists_segment S n e.1) es ≡ true → get S' n ≡ get S n) → list_any (λ e. lists_segment S' text e.1) es ≡ list_any (λ e. lists_segment S text e.1) es
  rows_alike [] same = refl
  rows_alike (e ∷ es) same =
      let one = list_alike (segments_in (Some e.1)) (λ n named. same n (ap (λ t. t || list_any (λ x. lists_segment S n x.1) es) named)) in
      let later = rows_alike es (λ n named. same n (ap (λ t. lists_segment S n e.1 || t) named ∙ or_true (lists_segment S n e.1))) in
      λ i. one i || later i

-- where each listed segment stays, the same are listed
pub listed_alike : (O S S' : Names SwiftObject) → ((n : List ℕ) → is_listed_in O S n ≡ true → get S' n ≡ get S n) → (text : List ℕ) → is_listed_in O S' text ≡ is_listed_in O S text
listed_alike O S S' same text = rows_alike S S' text (entries O) same
