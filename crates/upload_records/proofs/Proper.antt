-- What is true of each object of a consistent account: it may be put again, and what its file lists are parts, in a row its bytes.
use Rattle.std.specs.Prelude.{◌≡◌, ◌*◌, ◌<◌, ◌≤◌, ◌&&◌, ℕ, true, nat_lt, List, [], ◌∷◌, ◌++◌, length, sum_by, Option, None, Some}
use Rattle.std.specs.List.{All}
use Rattle.std.specs.Option.{option_and_then}
use Rattle.std.specs.FinMap.{get}
use Rattle.std.proofs.Common.{refl, sym, ap, subst, ◌∙◌, arith}
use Rattle.std.proofs.lemmas.Bool.{and_parts, ltb-true}
use Rattle.std.proofs.lemmas.List.{length-append}
use Rattle.std.proofs.lemmas.List.Elements.{All-nil, All-cons}
use Rattle.std.proofs.lemmas.List.Sums.{sum_by-cons}
use Rattle.std.proofs.lemmas.Option.{same_Some}
use Rattle.md5.specs.Md5.{md5}
use Rattle.md5.proofs.StandardFacts.{length-md5}
use Rattle.hex.specs.Hex.{lower_digits}
use Rattle.hex.proofs.HexLemmas.{length-encode_with}
use Rattle.gate_base.specs.Maps.{Names}
use Rattle.gate_base.specs.Told.{moment_limit}
use Rattle.gate_base.specs.declared.page.Pair.{Pair}
use Rattle.s3_names.specs.Bucket.{is_bucket}
use Rattle.s3_names.specs.Id.{id_digits}
use Rattle.s3_names.specs.Meta.{names_ascend}
use Rattle.s3_machine.specs.ETag.{body_etag}
use Rattle.s3_machine.specs.Limits.{is_content_type, most_body_bytes}
use Rattle.s3_machine.specs.State.{Object}
use Rattle.slo_manifest.specs.declared.Segment.{Segment}
use Rattle.swift_calls.specs.declared.account.Content.{Content}
use Rattle.swift_calls.specs.declared.account.Content.TheVariants.{Plain, Segments}
use Rattle.swift_calls.specs.Account.{SwiftObject, SwiftAccount, files, find_object}
use Rattle.swift_calls.specs.Bodies.{bytes_of, outer_bytes, joined_two, joined}
use Rattle.swift_marks.specs.declared.tag.Tag.{Tag}
use Rattle.swift_marks.specs.Number.{id_fits_tag}
use Rattle.swift_marks.specs.Pack.{unpacked}
use Rattle.swift_marks.specs.Tag.{is_etag, has_text, read_tag}
use Rattle.swift_marks.specs.Tag as mark
use Rattle.swift_marks.proofs.lemmas.PackLaws.{metadata_has_one_pack}
use Rattle.swift_marks.proofs.lemmas.TagLaws.{tag_has_one_text}
use Rattle.upload_records.specs.Layout.{segments_name, segment_name}
use Rattle.upload_records.specs.Native.{within, object_by, object_of, object_at, IsUnsealed, s3_state}
use Rattle.upload_records.specs.Consistent.{IsPlainObject, IsListedPart, AreParts, IsSegmentList, IsCompletedBody, of_none, of_segments, IsCompletedObject, IsSubManifest, IsSegment, is_part, is_sub_manifest, IsObject, in_one_piece, in_parts, IsThere, IsConsistent}
use Rattle.upload_records.specs.Laws.{object_in, IsProperStored, ListsParts, HasListing}
use Rattle.upload_records.proofs.Carried.{none_found, there_by, sound_object}
use Rattle.upload_records.proofs.Parts.{list_bytes, outer_listed}
use Rattle.upload_records.proofs.lemmas.Objects.{plain_object, s3_state_at}

-- ---- what a tag and a pack tell

record TagKeeps (tag : Tag) : Type 0 where
  pub typed : is_content_type tag.content_type ≡ true
  pub etag : is_etag tag.etag ≡ true
  pub dated : tag.moment < moment_limit

tag_keeps : (text : List ℕ) (tag : Tag) → read_tag text ≡ Some tag → TagKeeps tag
unfolding has_text is_content_type
tag_keeps text tag reads =
    let all = and_parts (mark.is_content_type tag.content_type && is_etag tag.etag && nat_lt tag.moment moment_limit) (id_fits_tag tag.id) (tag_has_one_text text tag reads).0 in
    let most = and_parts (mark.is_content_type tag.content_type && is_etag tag.etag) (nat_lt tag.moment moment_limit) all.0 in
    let some = and_parts (mark.is_content_type tag.content_type) (is_etag tag.etag) most.0 in
    record { typed = some.0; etag = some.1; dated = ltb-true tag.moment moment_limit most.1 }

pack_ascends : (pieces : List (List ℕ)) (meta : List Pair) → unpacked pieces ≡ Some meta → names_ascend meta ≡ true
pack_ascends pieces meta e = (and_parts (names_ascend meta) _ (metadata_has_one_pack pieces meta e).0).0

-- ---- an object may be put again

module _ (S : Names SwiftObject) (folder key : List ℕ) (file : SwiftObject) (o : Object) (reads : object_of S key file ≡ Some o) where
  proper_plain : IsPlainObject file → IsProperStored o
  proper_plain plain =
      let keeps = tag_keeps file.content_type _ plain.tagged in
      subst IsProperStored (same_Some (object_in plain) o (sym (plain_object S key file plain) ∙ reads)) (record {
        typed = keeps.typed;
        etag = keeps.etag;
        dated = keeps.dated;
        described = plain.described;
        ordered = pack_ascends file.meta plain.meta plain.packed;
        whole = λ short. (refl, plain.sized);
      })

  -- the object of a completed file, by its bytes
  abbrev object_with : IsCompletedObject S folder file → List ℕ → Object
  object_with object bytes = record { bytes = bytes; etag = object.etag; content_type = object.content_type; meta = object.meta; modified = object.moment }

  has_bytes : (object : IsCompletedObject S folder file) (b : Option (List ℕ)) → bytes_of (within S) file.content ≡ b → (bytes : List ℕ) × (b ≡ Some bytes) × (object_with object bytes ≡ o)
  has_bytes object None e = absurd (none_found o ((λ i. object_by (sym object.tagged i) (sym object.packed i) (sym e i)) ∙ reads))
  has_bytes object (Some bytes) e = (bytes, refl, same_Some (object_with object bytes) o ((λ i. object_by (sym object.tagged i) (sym object.packed i) (sym e i)) ∙ reads))

  proper_completed : IsCompletedObject S folder file → IsProperStored o
  proper_completed object =
      let keeps = tag_keeps file.content_type _ object.tagged in
      let long = object.of_upload in
      let found = has_bytes object (bytes_of (within S) file.content) refl in
      subst IsProperStored found.2 (record {
        typed = keeps.typed;
        etag = keeps.etag;
        dated = keeps.dated;
        described = object.described;
        ordered = pack_ascends file.meta object.meta object.packed;
        whole = λ short. absurd (omega (arith, short, long));
      })

  pub proper_by : IsObject S folder key file → IsProperStored o
  proper_by (in_one_piece keyed plain) = proper_plain plain
  proper_by (in_parts keyed object) = proper_completed object

-- ---- the segments that an object lists

no_bytes : (content : Content) (listed : List Segment) (bytes : List ℕ) → content ≡ Segments listed → content ≡ Plain bytes → ⊥
no_bytes content listed bytes e q = let same : Segments listed ≡ Plain bytes = sym e ∙ q in cc

plain_same : (content : Content) (xs ys : List ℕ) → content ≡ Plain xs → content ≡ Plain ys → xs ≡ ys
plain_same content xs ys e q = let same : Plain xs ≡ Plain ys = sym e ∙ q in cc

part_sized : (S : Names SwiftObject) (folder id : List ℕ) (number : ℕ) (s : Segment) (listed : IsListedPart S folder id number s) → IsSegment (segment_name id number) listed.file → (0 < s.size) × (s.size ≤ most_body_bytes)
part_sized S folder id number s listed (is_part part) =
    let filled = listed.filled in
    let size = listed.size in
    let same = ap length (plain_same listed.file.content listed.bytes part.bytes listed.own part.own) in
    let sized = part.sized in
    (omega (arith, filled, size), omega (arith, size, same, sized))
part_sized S folder id number s listed (is_sub_manifest sub) = absurd (no_bytes listed.file.content sub.listed listed.bytes sub.own listed.own)

parts_sized : (S : Names SwiftObject) (folder id : List ℕ) (above : ℕ) (list : List Segment) → ((name : List ℕ) (file : SwiftObject) → get S name ≡ Some file → IsSegment name file) → AreParts S folder id above list
    → All (λ s. (0 < s.size) × (s.size ≤ most_body_bytes)) list
parts_sized S folder id above [] segments parts = All-nil (λ s. (0 < s.size) × (s.size ≤ most_body_bytes))
parts_sized S folder id above (s ∷ list) segments (number, low, high, listed, rest) =
    All-cons (λ s. (0 < s.size) × (s.size ≤ most_body_bytes)) s list (part_sized S folder id number s listed (segments (segment_name id number) listed.file listed.there)) (parts_sized S folder id number list segments rest)

joined_sum : (s : Segment) (list : List Segment) (first : List ℕ) (o : Option (List ℕ)) (bytes : List ℕ) → s.size ≡ length first → ((rest : List ℕ) → o ≡ Some rest → sum_by (λ (x : Segment). x.size) list ≡ length rest) → joined_two (Some first) o ≡ Some bytes
    → sum_by (λ (x : Segment). x.size) (s ∷ list) ≡ length bytes
joined_sum s list first None bytes size later e = absurd (none_found bytes e)
joined_sum s list first (Some rest) bytes size later e =
    let sum = later rest refl in
    let all = ap length (same_Some (first ++ rest) bytes e) in
    let both = length-append first rest in
    let added = sum_by-cons (λ (x : Segment). x.size) s list in
    omega (arith, sum, all, both, added, size)

parts_sum : (S : Names SwiftObject) (folder id : List ℕ) (above : ℕ) (list : List Segment) (bytes : List ℕ) → AreParts S folder id above list → joined (outer_bytes (within S)) list ≡ Some bytes → sum_by (λ (x : Segment). x.size) list ≡ length bytes
unfolding joined
parts_sum S folder id above [] bytes parts e = ap length (same_Some [] bytes e)
parts_sum S folder id above (s ∷ list) bytes (number, low, high, listed, rest) e =
    let first = outer_listed S s listed.file (segment_name id number) listed.bytes listed.named listed.there listed.own listed.etag listed.size in
    joined_sum s list listed.bytes (joined (outer_bytes (within S)) list) bytes listed.size (λ later j. parts_sum S folder id number list later rest j)
    ((λ i. joined_two (sym first i) (joined (outer_bytes (within S)) list)) ∙ e)

same_list : (content : Content) (xs ys : List Segment) → content ≡ Segments xs → content ≡ Segments ys → ys ≡ xs
same_list content xs ys e q = let same : Segments ys ≡ Segments xs = sym q ∙ e in cc

module _ (S : Names SwiftObject) (folder key : List ℕ) (file : SwiftObject) (o : Object) (reads : object_of S key file ≡ Some o) (listed : List Segment) (own : file.content ≡ Segments listed)
    (segments : (name : List ℕ) (f : SwiftObject) → get S name ≡ Some f → IsSegment name f) where
  lists_list : (object : IsCompletedObject S folder file) → IsSegmentList S folder (id_digits object.id) listed → ListsParts S folder listed o
  lists_list object list =
      let found = has_bytes S folder key file o reads object (bytes_of (within S) file.content) refl in
      let bytes : joined (outer_bytes (within S)) list.parts ≡ Some o.bytes
      = sym (list_bytes S folder (id_digits object.id) listed list) ∙ ap (bytes_of (within S)) (sym own) ∙ found.1 ∙ ap (λ (x : Object). Some x.bytes) found.2 in
      record {
        id = object.id;
        list = list;
        sized = parts_sized S folder (id_digits object.id) 0 list.parts segments list.are;
        of_upload = subst (λ (x : Object). 32 < length x.etag) found.2 object.of_upload;
        bytes = bytes;
        whole = parts_sum S folder (id_digits object.id) 0 list.parts o.bytes list.are bytes;
      }

  lists_body : (object : IsCompletedObject S folder file) → IsCompletedBody S folder (id_digits object.id) file.content → ListsParts S folder listed o
  lists_body object (of_none bare) = absurd (no_bytes file.content listed [] own bare)
  lists_body object (of_segments list e parts) = lists_list object (subst (IsSegmentList S folder (id_digits object.id)) (same_list file.content listed list own e) parts)

  pub lists_by : IsObject S folder key file → ListsParts S folder listed o
  lists_by (in_one_piece keyed plain) = absurd (no_bytes file.content listed plain.bytes own plain.own)
  lists_by (in_parts keyed object) = lists_body object object.body

etag_length : (body : List ℕ) → length (body_etag body) ≡ 32
unfolding body_etag
etag_length body = length-encode_with lower_digits (md5 body) ∙ ap (λ n. 2 * n) (length-md5 body)

-- an object with an ETag of parts has no bytes of its own
module _ (S : Names SwiftObject) (folder key : List ℕ) (file : SwiftObject) (o : Object) (reads : object_of S key file ≡ Some o) (bytes : List ℕ) (own : file.content ≡ Plain bytes)
    (long : 32 < length o.etag) (some : 0 < length o.bytes) where
  no_plain : IsPlainObject file → ⊥
  no_plain plain =
      let short : length o.etag ≡ 32 = ap (λ (x : Object). length x.etag) (same_Some o (object_in plain) (sym reads ∙ plain_object S key file plain)) ∙ etag_length plain.bytes in
      omega (arith, short, long)

  no_body : (object : IsCompletedObject S folder file) → IsCompletedBody S folder (id_digits object.id) file.content → ⊥
  no_body object (of_segments list e parts) = no_bytes file.content list bytes e own
  no_body object (of_none bare) =
      let found = has_bytes S folder key file o reads object (bytes_of (within S) file.content) refl in
      let none : [] ≡ o.bytes = same_Some [] o.bytes (ap (bytes_of (within S)) (sym bare) ∙ found.1 ∙ ap (λ (x : Object). Some x.bytes) found.2) in
      let size = ap length none in
      omega (arith, size, some)

  none_plain : IsObject S folder key file → ⊥
  none_plain (in_one_piece keyed plain) = no_plain plain
  none_plain (in_parts keyed object) = no_body object object.body

-- ---- over a consistent account

some_there : (tree : SwiftAccount) (b key : List ℕ) (file : SwiftObject) → find_object tree b key ≡ Some file → IsThere tree b
some_there tree b key file found = there_by (get tree b) key file found

module _ (tree : SwiftAccount) (b key : List ℕ) (o : Object) (is : is_bucket b ≡ true) (sound : IsConsistent tree) (unsealed : IsUnsealed tree) (there : object_at (get (s3_state tree) b) key ≡ Some o) where
  -- its file
  file_by : (f : Option SwiftObject) → find_object tree b key ≡ f → option_and_then (object_of (files tree (segments_name b)) key) f ≡ Some o
      → (file : SwiftObject) × (find_object tree b key ≡ Some file) × (object_of (files tree (segments_name b)) key file ≡ Some o)
  file_by None e reads = absurd (none_found o reads)
  file_by (Some file) e reads = (file, e, reads)

  file_of_object : (file : SwiftObject) × (find_object tree b key ≡ Some file) × (object_of (files tree (segments_name b)) key file ≡ Some o)
  file_of_object = file_by (find_object tree b key) refl (sym (s3_state_at tree b key is unsealed) ∙ there)

  pub object_proper : IsProperStored o
  object_proper =
      let found = file_of_object in
      proper_by (files tree (segments_name b)) (segments_name b) key found.0 o found.2 (sound_object tree b key found.0 sound is found.1)

  reads_file : (file : SwiftObject) → find_object tree b key ≡ Some file → object_of (files tree (segments_name b)) key file ≡ Some o
  reads_file file found = sym (ap (option_and_then (object_of (files tree (segments_name b)) key)) found) ∙ sym (s3_state_at tree b key is unsealed) ∙ there

  pub object_listed : (file : SwiftObject) (listed : List Segment) → find_object tree b key ≡ Some file → file.content ≡ Segments listed → ListsParts (files tree (segments_name b)) (segments_name b) listed o
  object_listed file listed found own =
      lists_by (files tree (segments_name b)) (segments_name b) key file o (reads_file file found) listed own
      (sound.buckets b is (some_there tree b key file found)).of_segments (sound_object tree b key file sound is found)

  listing_by : (file : SwiftObject) → find_object tree b key ≡ Some file → (content : Content) → file.content ≡ content → 32 < length o.etag → 0 < length o.bytes → HasListing tree b key
  listing_by file found (Segments listed) own long some = record { file = file; listed = listed; there = found; lists = own }
  listing_by file found (Plain bytes) own long some =
      absurd (none_plain (files tree (segments_name b)) (segments_name b) key file o (reads_file file found) bytes own long some (sound_object tree b key file sound is found))

  pub listing_found : 32 < length o.etag → 0 < length o.bytes → HasListing tree b key
  listing_found long some = let found = file_of_object in listing_by found.0 found.1 found.0.content refl long some
