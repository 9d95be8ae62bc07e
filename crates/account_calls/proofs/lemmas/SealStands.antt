-- What holds of a completion that is sealed: its object may stand on the store, which takes its list; and it has a tag, a pack and
-- a record.
use Rattle.std.specs.Prelude.{◌≡◌, ◌<◌, ◌≤◌, ◌+◌, ◌*◌, ◌^◌, ◌&&◌, ◌||◌, ℕ, zero, suc, Bool, true, false, not, cond, nat_le, nat_lt, List, [], ◌∷◌, ◌++◌, codes, decimal, drop, flat_map, length, map, sum_by, take, None, Some, IsTrue}
use Rattle.std.specs.List.{list_all, list_any, All}
use Rattle.std.specs.Str.{is_utf8}
use Rattle.std.proofs.Common.{refl, sym, ap, subst, ◌∙◌, arith}
use Rattle.std.proofs.lemmas.Bool.{and_from, and_parts, leb-true, le-leb, lt-ltb, ltb-true}
use Rattle.std.proofs.lemmas.List.{length-append, length-map}
use Rattle.std.proofs.lemmas.List.Elements.{All-cons, All-drop, All-head, All-nil, All-push, All-take}
use Rattle.std.proofs.lemmas.List.Folds.{list_all-append, list_any-append}
use Rattle.std.proofs.lemmas.List.Sums.{sum_by-cons}
use Rattle.std.proofs.lemmas.Str.{is_utf8-from_IsUtf8}
use Rattle.gate_base.specs.Ascii.{is_lower_hex, is_slash}
use Rattle.gate_base.specs.Told.{moment_limit}
use Rattle.gate_base.specs.declared.page.Pair.{Pair}
use Rattle.hex.specs.Hex.{encode_lower}
use Rattle.md5.specs.Md5.{md5}
use Rattle.s3_names.specs.Bucket.{is_bucket}
use Rattle.s3_names.specs.Id.{id_digits}
use Rattle.s3_names.specs.Key.{is_key}
use Rattle.s3_names.specs.Meta.{names_ascend}
use Rattle.s3_names.proofs.lemmas.BucketLemmas.{bucket_has_no_slash}
use Rattle.s3_machine.specs.ETag.{body_etag}
use Rattle.s3_machine.specs.Limits.{is_content_type, is_proper_meta, most_body_bytes}
use Rattle.s3_machine.specs.Uploads.{digest_in, greatest_part, most_parts, rises, rises_from, upload_etag, IsPartNumber}
use Rattle.slo_manifest.specs.Segments.{is_etag, is_filled, is_listable, is_proper_entry, is_segment}
use Rattle.slo_manifest.specs.declared.manifest.TheConstants.{MOST_SEGMENTS}
use Rattle.slo_manifest.specs.declared.Segment.{Segment}
use Rattle.swift_calls.specs.Account.{SwiftAccount, files, find_object}
use Rattle.swift_calls.specs.Bodies.{as_segment, etag_of, etag_text, is_good_list, is_list, is_shallow, is_shallow_there, joined_etags, lists_at, may_be_listed}
use Rattle.swift_calls.specs.declared.account.Content.TheVariants.{Segments}
use Rattle.swift_calls.specs.Limits as store
use Rattle.swift_calls.specs.Limits.{most_segments}
use Rattle.swift_calls.specs.Step.{Fit, IsSegmentPlace}
use Rattle.swift_marks.specs.Pack.{pack_of}
use Rattle.swift_marks.specs.Tag as mark
use Rattle.swift_marks.specs.Tag.{has_text, tag_text}
use Rattle.swift_marks.proofs.lemmas.FieldLaws.{pack_is_small, tag_is_field}
use Rattle.upload_texts.specs.Places.{is_part_count, part_number_fits_record_text}
use Rattle.upload_texts.specs.Records.{has_record_text, record_text, content_fits_record_text, list_fits_record_text, part_fits_record_text}
use Rattle.upload_texts.specs.Sealed.{has_sealed_text, is_sealed_dated, is_sealed_list, part_fits_sealed_text, is_sealed_place}
use Rattle.upload_texts.specs.declared.sealed.Sealed.{Sealed}
use Rattle.upload_texts.specs.declared.sealed.SealedPart.{SealedPart}
use Rattle.upload_records.specs.Consistent.{AreParts, HasSubManifests, IsConsistent, IsListedPart, IsStored, IsSubManifest, IsSubManifestOf}
use Rattle.upload_records.specs.Laws.{AreCounted, MayStand}
use Rattle.upload_records.specs.Layout.{segment_name, segments_name, sub_manifest_name}
use Rattle.upload_records.specs.Native.{completed_file, content_by, filled_parts, listed_of, listing_by, part_segment, run, seal_of, sealed_record, sealed_segments, sealed_sub_manifests, sealed_tag, sub_file_at, sub_manifests, sub_segment, sub_segments, sub_tag}
use Rattle.upload_records.proofs.lemmas.Rolling.{as_listed, listing_stands, seal_has_text}
use Rattle.upload_records.proofs.lemmas.Subs.{listing_few, listing_filled, listing_sum, run_few, run_filled, run_parts, sub_is, sub_manifests_few}
use Rattle.upload_records.proofs.lemmas.TextLengths.{done_short}
use Rattle.swift_marks.proofs.lemmas.TagLaws.{tag_text_reads}
use Rattle.account_calls.specs.Sealed.{put_by, put_object_of, put_record_of, put_sub_of, sealed_listing}
use Rattle.account_calls.proofs.lemmas.Etags.{etag_is_etag, part_etag}
use Rattle.account_calls.proofs.lemmas.Fits.{described, has_a_pack, typed}
use Rattle.account_calls.proofs.lemmas.Names.{container_name, object_name}
use Rattle.account_calls.proofs.lemmas.SideNames.{file_name, id_fits, segment_fits, segments_fits, sub_fits, uploads_fits}

-- ---- what has a text keeps its limits

pub record KeepsLimits (s : Sealed) : Type 0 where
  pub bucket : is_bucket s.bucket ≡ true
  pub key : is_key s.key ≡ true
  pub id : s.id < 2 ^ 128
  pub content_type : is_content_type s.content_type ≡ true
  pub meta : is_proper_meta s.meta ≡ true
  pub ascends : names_ascend s.meta ≡ true
  pub count : is_part_count (length s.list) ≡ true
  pub parts : list_all part_fits_sealed_text s.list ≡ true
  pub etag : mark.is_etag s.etag ≡ true
  pub started : nat_lt s.started moment_limit ≡ true
  pub moment : nat_lt s.moment moment_limit ≡ true

pub limits : (s : Sealed) → has_sealed_text s ≡ true → KeepsLimits s
unfolding has_sealed_text
limits s has =
    let place = and_parts (is_sealed_place s) _ has in
    let of_bucket = and_parts (is_bucket s.bucket) (is_key s.key) place.0 in
    let small = and_parts (nat_lt s.id (2 ^ 128)) _ place.1 in
    let content = and_parts (content_fits_record_text s.content_type s.meta) _ small.1 in
    let with_type = and_parts (is_content_type s.content_type) _ content.0 in
    let with_meta = and_parts (is_proper_meta s.meta) (names_ascend s.meta) with_type.1 in
    let listed = and_parts (is_sealed_list s.list) _ content.1 in
    let all = and_parts (is_part_count (length s.list)) (list_all part_fits_sealed_text s.list) listed.0 in
    let tagged = and_parts (mark.is_etag s.etag) (is_sealed_dated s) listed.1 in
    let dates = and_parts (nat_lt s.started moment_limit) (nat_lt s.moment moment_limit) tagged.1 in
    record {
      bucket = of_bucket.0;
      key = of_bucket.1;
      id = ltb-true s.id (2 ^ 128) small.0;
      content_type = with_type.0;
      meta = with_meta.0;
      ascends = with_meta.1;
      count = all.0;
      parts = all.1;
      etag = tagged.0;
      started = dates.0;
      moment = dates.1;
    }

few_parts : (n : ℕ) → is_part_count n ≡ true → n ≤ most_parts
few_parts n e = leb-true n most_parts (and_parts (nat_le 1 n) (nat_le n most_parts) e).1

counted_part : (n : ℕ) → part_number_fits_record_text n ≡ true → IsPartNumber n
counted_part n e = let parts = and_parts (nat_le 1 n) (nat_le n greatest_part) e in record { counted = leb-true 1 n parts.0; within = leb-true n greatest_part parts.1 }

-- the number, the ETag and the size of a part
part_of : (p : SealedPart) → part_fits_sealed_text p ≡ true → (IsPartNumber p.number) × (is_etag p.etag ≡ true) × (p.size ≤ most_body_bytes)
part_of p e =
    let parts = and_parts (part_number_fits_record_text p.number && is_etag p.etag) (nat_le p.size most_body_bytes) e in
    let front = and_parts (part_number_fits_record_text p.number) (is_etag p.etag) parts.0 in
    (counted_part p.number front.0, front.1, leb-true p.size most_body_bytes parts.1)

-- ---- the tag, and the record

-- its tag has a text
pub sealed_tag_has_text : (s : Sealed) → has_sealed_text s ≡ true → has_text (sealed_tag s) ≡ true
unfolding has_text
sealed_tag_has_text s has =
    let is = limits s has in
    and_from _ _ (and_from _ _ (and_from _ _ (typed s.content_type is.content_type) is.etag) is.moment) (lt-ltb s.id (2 ^ 128) is.id)

listed_kept : (list : List SealedPart) → list_all part_fits_sealed_text list ≡ true → list_all part_fits_record_text (map listed_of list) ≡ true
listed_kept [] e = refl
listed_kept (p ∷ list) e =
    let parts = and_parts (part_fits_sealed_text p) (list_all part_fits_sealed_text list) e in
    and_from _ _ (and_parts (part_number_fits_record_text p.number && is_etag p.etag) (nat_le p.size most_body_bytes) parts.0).0 (listed_kept list parts.1)

-- and so has its record
pub record_has_text : (s : Sealed) → has_sealed_text s ≡ true → has_record_text (sealed_record s) ≡ true
unfolding has_record_text
record_has_text s has =
    let is = limits s has in
    let kept : list_fits_record_text (map listed_of s.list) ≡ true = and_from _ _ (ap is_part_count (length-map s.list listed_of) ∙ is.count) (listed_kept s.list is.parts) in
    and_from _ _ is.key (and_from _ _ kept (and_from _ _ is.etag (and_from _ _ is.started is.moment)))

-- ---- its list

no_slash : (bucket : List ℕ) → is_bucket bucket ≡ true → list_any is_slash (segments_name bucket) ≡ false
unfolding segments_name
no_slash bucket is = list_any-append is_slash bucket (codes "+segments") ∙ ap (λ b. b || list_any is_slash (codes "+segments")) (bucket_has_no_slash bucket is)

listable : (bucket : List ℕ) (id : ℕ) (p : SealedPart) → is_bucket bucket ≡ true → IsPartNumber p.number → is_etag p.etag ≡ true → p.size ≤ most_body_bytes → nat_lt 0 p.size ≡ true
    → is_segment (part_segment (segments_name bucket) (id_digits id) p) ≡ true
unfolding is_segment is_proper_entry is_listable
listable bucket id p is counted tagged sized some =
    let folder = segments_fits bucket is in
    let name = segment_fits id p.number counted in
    let filled = folder.filled in
    let named = name.0 in
    let has_folder : is_filled (segments_name bucket) ≡ true = lt-ltb 0 (length (segments_name bucket)) filled in
    let has_name : is_filled (segment_name (id_digits id) p.number) ≡ true = lt-ltb 0 (length (segment_name (id_digits id) p.number)) named in
    let proper = and_from _ _ (and_from _ _ (and_from _ _ has_folder has_name) tagged) (lt-ltb p.size (2 ^ 63) (omega (arith, sized))) in
    let texts = and_from _ _ (and_from _ _ (and_from _ _ some (ap not (no_slash bucket is))) (is_utf8-from_IsUtf8 (segments_name bucket) folder.text)) (is_utf8-from_IsUtf8 (segment_name (id_digits id) p.number) name.1.utf8) in
    and_from _ _ proper texts

-- a segment of it has names that a store takes, an ETag and a size
place_of : (bucket : List ℕ) (id : ℕ) (p : SealedPart) → is_bucket bucket ≡ true → part_fits_sealed_text p ≡ true → nat_lt 0 p.size ≡ true → IsSegmentPlace (part_segment (segments_name bucket) (id_digits id) p)
place_of bucket id p is part some =
    let of_part = part_of p part in
    record { container = segments_fits bucket is; name = segment_fits id p.number of_part.0; listable = listable bucket id p is of_part.0 of_part.1 of_part.2 some }

add_place : (bucket : List ℕ) (id : ℕ) (p : SealedPart) (rest : List SealedPart) (t : Bool) → nat_lt 0 p.size ≡ t → is_bucket bucket ≡ true → part_fits_sealed_text p ≡ true
    → All IsSegmentPlace (map (part_segment (segments_name bucket) (id_digits id)) rest) → All IsSegmentPlace (map (part_segment (segments_name bucket) (id_digits id)) (cond t (p ∷ rest) rest))
add_place bucket id p rest true some is part places =
    All-cons IsSegmentPlace (part_segment (segments_name bucket) (id_digits id) p) (map (part_segment (segments_name bucket) (id_digits id)) rest) (place_of bucket id p is part some) places
add_place bucket id p rest false none is part places = places

all_places : (bucket : List ℕ) (id : ℕ) (list : List SealedPart) → is_bucket bucket ≡ true → list_all part_fits_sealed_text list ≡ true → All IsSegmentPlace (map (part_segment (segments_name bucket) (id_digits id)) (filled_parts list))
all_places bucket id [] is e = All-nil IsSegmentPlace
all_places bucket id (p ∷ list) is e =
    let parts = and_parts (part_fits_sealed_text p) (list_all part_fits_sealed_text list) e in
    add_place bucket id p (filled_parts list) (nat_lt 0 p.size) refl is parts.0 (all_places bucket id list is parts.1)

few_by : (folder id : List ℕ) (p : SealedPart) (rest : List SealedPart) (most : ℕ) (t : Bool) → length (map (part_segment folder id) rest) ≤ most → length (map (part_segment folder id) (cond t (p ∷ rest) rest)) ≤ 1 + most
few_by folder id p rest most true few = omega (arith, few)
few_by folder id p rest most false few = omega (arith, few)

pub few_listed : (folder id : List ℕ) (list : List SealedPart) → length (map (part_segment folder id) (filled_parts list)) ≤ length list
few_listed folder id [] = omega (arith)
few_listed folder id (p ∷ list) = let few = few_by folder id p (filled_parts list) (length list) (nat_lt 0 p.size) (few_listed folder id list) in omega (arith, few)

-- how many bytes its segments have
abbrev pub sum_of : List Segment → ℕ
sum_of segments = sum_by (λ (x : Segment). x.size) segments

sum_more : (folder id : List ℕ) (p : SealedPart) (rest : List SealedPart) (most : ℕ) (t : Bool) → p.size ≤ most_body_bytes → sum_of (map (part_segment folder id) rest) ≤ most
    → sum_of (map (part_segment folder id) (cond t (p ∷ rest) rest)) ≤ most_body_bytes + most
sum_more folder id p rest most true sized small = let sum = sum_by-cons (λ (x : Segment). x.size) (part_segment folder id p) (map (part_segment folder id) rest) in omega (arith, sized, small, sum)
sum_more folder id p rest most false sized small = omega (arith, small)

sum_listed : (folder id : List ℕ) (list : List SealedPart) → list_all part_fits_sealed_text list ≡ true → sum_of (map (part_segment folder id) (filled_parts list)) ≤ most_body_bytes * length list
sum_listed folder id [] e = omega arith
sum_listed folder id (p ∷ list) e =
    let parts = and_parts (part_fits_sealed_text p) (list_all part_fits_sealed_text list) e in
    let more = sum_more folder id p (filled_parts list) (most_body_bytes * length list) (nat_lt 0 p.size) (part_of p parts.0).2 (sum_listed folder id list parts.1) in
    omega (arith, more)

-- ---- its sub-manifests

-- segments that a store takes have some bytes
some_bytes : (x : Segment) → IsSegmentPlace x → 0 < x.size
unfolding is_segment is_listable
some_bytes x place =
    let listable = (and_parts (is_proper_entry x.container x.name x.etag x.size) _ place.listable).1 in
    let filled = (and_parts (nat_lt 0 x.size && not (list_any is_slash x.container)) _ (and_parts (nat_lt 0 x.size && not (list_any is_slash x.container) && is_utf8 x.container) _ listable).0).0 in
    ltb-true 0 x.size (and_parts (nat_lt 0 x.size) _ filled).0

sum_some : (list : List Segment) → All IsSegmentPlace list → 0 < length list → 0 < sum_of list
sum_some [] places some = absurd (omega (arith, some))
sum_some (x ∷ list) places some =
    let one = some_bytes x (All-head IsSegmentPlace x list places) in
    let sum = sum_by-cons (λ (y : Segment). y.size) x list in
    omega (arith, one, sum)

sum_left : (k : ℕ) (list : List Segment) → sum_of (drop k list) ≤ sum_of list
sum_left zero list = omega arith
sum_left (suc k) [] = omega arith
sum_left (suc k) (x ∷ list) =
    let later = sum_left k list in
    let sum = sum_by-cons (λ (y : Segment). y.size) x list in
    omega (arith, later, sum)

sum_taken : (k : ℕ) (list : List Segment) → sum_of (take k list) ≤ sum_of list
sum_taken zero list = omega arith
sum_taken (suc k) [] = omega arith
sum_taken (suc k) (x ∷ list) =
    let later = sum_taken k list in
    let sum = sum_by-cons (λ (y : Segment). y.size) x list in
    let first = sum_by-cons (λ (y : Segment). y.size) x (take k list) in
    omega (arith, later, sum, first)

-- a run has no more bytes than all
pub sum_run : (n : ℕ) (list : List Segment) → sum_of (run n list) ≤ sum_of list
unfolding run
sum_run n list =
    let left = sum_left (MOST_SEGMENTS * n) list in
    let taken = sum_taken MOST_SEGMENTS (drop (MOST_SEGMENTS * n) list) in
    omega (arith, left, taken)

pub run_places : (n : ℕ) (list : List Segment) → All IsSegmentPlace list → All IsSegmentPlace (run n list)
unfolding run
run_places n list places = All-take IsSegmentPlace MOST_SEGMENTS (drop (MOST_SEGMENTS * n) list) (All-drop IsSegmentPlace (MOST_SEGMENTS * n) list places)

same_etag : (body : List ℕ) → etag_text body ≡ body_etag body
unfolding etag_text body_etag
same_etag body = refl

module _ (bucket : List ℕ) (id : ℕ) (is : is_bucket bucket ≡ true) (list : List Segment) (places : All IsSegmentPlace list) (small : sum_of list < 2 ^ 63) where
  -- a sub-manifest has a place that a store takes
  sub_listable : (n : ℕ) → n < 10 → 0 < length (run n list) → is_segment (sub_segment (segments_name bucket) (id_digits id) n (run n list)) ≡ true
  unfolding is_segment is_proper_entry is_listable
  sub_listable n few some =
      let folder = segments_fits bucket is in
      let name = sub_fits id (n + 1) (omega (arith, few)) in
      let filled = folder.filled in
      let named = name.0 in
      let bytes = sum_some (run n list) (run_places n list places) some in
      let within = sum_run n list in
      let has_folder : is_filled (segments_name bucket) ≡ true = lt-ltb 0 (length (segments_name bucket)) filled in
      let has_name : is_filled (sub_manifest_name (id_digits id) (n + 1)) ≡ true = lt-ltb 0 (length (sub_manifest_name (id_digits id) (n + 1))) named in
      let tagged : is_etag (etag_of (Segments (run n list))) ≡ true = ap is_etag (same_etag (joined_etags (run n list))) ∙ part_etag (joined_etags (run n list)) in
      let proper = and_from _ _ (and_from _ _ (and_from _ _ has_folder has_name) tagged) (lt-ltb (sum_of (run n list)) (2 ^ 63) (omega (arith, small, within))) in
      let texts = and_from _ _ (and_from _ _ (and_from _ _ (lt-ltb 0 (sum_of (run n list)) bytes) (ap not (no_slash bucket is))) (is_utf8-from_IsUtf8 (segments_name bucket) folder.text)) (is_utf8-from_IsUtf8 (sub_manifest_name (id_digits id) (n + 1)) name.1.utf8) in
      and_from _ _ proper texts

  sub_place : (n : ℕ) → n < 10 → 0 < length (run n list) → IsSegmentPlace (sub_segment (segments_name bucket) (id_digits id) n (run n list))
  sub_place n few some = record { container = segments_fits bucket is; name = sub_fits id (n + 1) (omega (arith, few)); listable = sub_listable n few some }

  sub_places : (n : ℕ) → n ≤ 10 → n ≤ sub_manifests (length list) → All IsSegmentPlace (sub_segments (segments_name bucket) (id_digits id) list n)
  unfolding sub_segments
  sub_places zero few within = All-nil IsSegmentPlace
  sub_places (suc n) few within =
      All-push IsSegmentPlace (sub_segments (segments_name bucket) (id_digits id) list n) (sub_segment (segments_name bucket) (id_digits id) n (run n list))
      (sub_places n (omega (arith, few)) (omega (arith, within)))
      (sub_place n (omega (arith, few)) (run_filled n list (omega (arith, within))))

  places_by : (t : Bool) → length list ≤ most_parts → All IsSegmentPlace (cond t list (sub_segments (segments_name bucket) (id_digits id) list (sub_manifests (length list))))
  places_by true few = places
  places_by false few = sub_places (sub_manifests (length list)) (sub_manifests_few (length list) few) (omega arith)

  -- and so has each segment of what an object lists
  pub listing_places : length list ≤ most_parts → All IsSegmentPlace (listing_by (segments_name bucket) (id_digits id) list)
  unfolding listing_by
  listing_places few = places_by (nat_le (length list) MOST_SEGMENTS) few

-- what its segments keep
pub record SegmentsFew (s : Sealed) : Type 0 where
  pub few : length (sealed_segments s) ≤ most_parts
  pub sum : sum_of (sealed_segments s) < 2 ^ 63
  pub places : All IsSegmentPlace (sealed_segments s)

parts_small : (n : ℕ) → n ≤ most_parts → most_body_bytes * n < 2 ^ 63
unfolding most_parts
parts_small n most = omega (arith, most)

pub segments_few : (s : Sealed) → has_sealed_text s ≡ true → SegmentsFew s
segments_few s has =
    let is = limits s has in
    let most = few_parts (length s.list) is.count in
    let few = few_listed (segments_name s.bucket) (id_digits s.id) s.list in
    let sum = sum_listed (segments_name s.bucket) (id_digits s.id) s.list is.parts in
    let small = parts_small (length s.list) most in
    record { few = omega (arith, most, few); sum = omega (arith, small, sum); places = all_places s.bucket s.id s.list is.bucket is.parts }

-- what its listing keeps
pub record ListsFew (s : Sealed) : Type 0 where
  pub few : length (sealed_listing s) ≤ 1000
  pub sum : sum_of (sealed_listing s) < 2 ^ 63
  pub places : All IsSegmentPlace (sealed_listing s)

pub lists_few : (s : Sealed) → has_sealed_text s ≡ true → ListsFew s
lists_few s has =
    let is = limits s has in
    let of_parts = segments_few s has in
    let sum = of_parts.sum in
    let same = listing_sum (segments_name s.bucket) (id_digits s.id) (sealed_segments s) in
    record {
      few = listing_few (segments_name s.bucket) (id_digits s.id) (sealed_segments s) of_parts.few;
      sum = omega (arith, same, sum);
      places = listing_places s.bucket s.id is.bucket (sealed_segments s) of_parts.places of_parts.sum of_parts.few;
    }

-- ---- what a store takes

pub pack_fits : (meta : List Pair) → is_proper_meta meta ≡ true → IsTrue (store.is_meta (pack_of meta))
pack_fits meta is = let small = pack_is_small meta (described meta is) in and_from _ _ (le-leb (length (pack_of meta)) 11 small.0) small.1

fits_by : (bucket key content_type : List ℕ) (meta : List (List ℕ)) (segments : List Segment) → is_bucket bucket ≡ true → is_key key ≡ true → IsTrue (store.is_content_type content_type) → IsTrue (store.is_meta meta)
    → length segments ≤ 1000 → All IsSegmentPlace segments → Fit (put_by bucket key content_type meta segments)
fits_by bucket key content_type meta [] is keyed typed described few places = (container_name bucket is, object_name key keyed, typed, described, omega arith)
fits_by bucket key content_type meta (x ∷ rest) is keyed typed described few places = (container_name bucket is, object_name key keyed, typed, described, few, places)

pub object_fits : (s : Sealed) → has_sealed_text s ≡ true → Fit (put_object_of s)
object_fits s has =
    let is = limits s has in
    let lists = lists_few s has in
    fits_by s.bucket s.key (tag_text (sealed_tag s)) (pack_of s.meta) (sealed_listing s) is.bucket is.key (tag_is_field (sealed_tag s) (sealed_tag_has_text s has)) (pack_fits s.meta is.meta) lists.few lists.places

-- the text of its record is far below the greatest body
pub record_short : (s : Sealed) → has_sealed_text s ≡ true → length (record_text (sealed_record s)) ≤ 2040000
record_short s has = done_short s.key (map listed_of s.list) s.etag s.started (Some s.moment) (record_has_text s has)

pub record_fits : (s : Sealed) → has_sealed_text s ≡ true → Fit (put_record_of s)
record_fits s has = let short = record_short s has in (uploads_fits s.bucket (limits s has).bucket, id_fits s.id, refl, refl, omega (arith, short))

stored_by : (key content_type : List ℕ) (meta : List (List ℕ)) (segments : List Segment) → is_key key ≡ true → sum_of segments < 2 ^ 63
    → IsStored key (record { content_type = content_type; meta = meta; content = content_by segments })
stored_by key content_type meta [] keyed small = record { named = file_name key (object_name key keyed); sized = omega arith }
stored_by key content_type meta (x ∷ rest) keyed small = record { named = file_name key (object_name key keyed); sized = small }

pub object_stored : (s : Sealed) → has_sealed_text s ≡ true → IsStored s.key (completed_file s)
object_stored s has = stored_by s.key (tag_text (sealed_tag s)) (pack_of s.meta) (sealed_listing s) (limits s has).key (lists_few s has).sum

-- ---- its object may stand

upload_long : (etags : List (List ℕ)) → 32 < length (upload_etag etags)
unfolding upload_etag body_etag
upload_long etags =
    let digest = flat_map digest_in etags in
    let is = and_parts (nat_le 32 (length (body_etag digest)) && list_all is_lower_hex (take 32 (body_etag digest))) _ (etag_is_etag digest) in
    let long : 32 ≤ length (encode_lower (md5 digest)) = leb-true 32 (length (encode_lower (md5 digest))) (and_parts (nat_le 32 (length (body_etag digest))) _ is.0).0 in
    let outer = length-append (encode_lower (md5 digest) ++ codes "-") (decimal (length etags)) in
    let inner = length-append (encode_lower (md5 digest)) (codes "-") in
    omega (arith, long, outer, inner)

rises_up : (list : List SealedPart) → list_all part_fits_sealed_text list ≡ true → rises (map listed_of list) ≡ true → rises_from 0 (map listed_of list) ≡ true
rises_up [] all up = refl
rises_up (p ∷ list) all up =
    let counted = (part_of p (and_parts (part_fits_sealed_text p) (list_all part_fits_sealed_text list) all).0).0.counted in
    and_from _ _ (lt-ltb 0 p.number (omega (arith, counted))) up

pub all_counted : (list : List SealedPart) → list_all part_fits_sealed_text list ≡ true → AreCounted list
all_counted [] e = tt
all_counted (p ∷ list) e = let parts = and_parts (part_fits_sealed_text p) (list_all part_fits_sealed_text list) e in ((part_of p parts.0).0.within, all_counted list parts.1)

pub may_stand : (tree : SwiftAccount) (s : Sealed) → IsConsistent tree → seal_of tree ≡ Some s → HasSubManifests (files tree (segments_name s.bucket)) (id_digits s.id) (sealed_segments s) (sealed_sub_manifests s)
    → MayStand (files tree (segments_name s.bucket)) s
may_stand tree s sound seals subs =
    let has = seal_has_text tree s seals in
    let is = limits s has in
    let sealed = sound.sealed s seals in
    record {
      keyed = is.key;
      tagged = sealed_tag_has_text s has;
      of_upload = subst (λ etag. 32 < length etag) (sym sealed.stands.etag) (upload_long (map (λ p. p.etag) s.list));
      packed = has_a_pack s.meta is.meta is.ascends;
      described = is.meta;
      ascends = rises_up s.list is.parts sealed.stands.ascends;
      counted = all_counted s.list is.parts;
      few = few_parts (length s.list) is.count;
      filed = (sound.buckets s.bucket is.bucket sealed.there).of_segments;
      parts = sealed.stands.parts;
      subs = subs;
    }

-- ---- the store takes its list

-- a segment is there as the list says
one_listed : (tree : SwiftAccount) (folder id : List ℕ) (number : ℕ) (x : Segment) → IsListedPart (files tree folder) folder id number x → may_be_listed (find_object tree) x ≡ true
one_listed tree folder id number x listed =
    let filled = listed.filled in
    let size = listed.size in
    and_from _ _ (lt-ltb 0 x.size (omega (arith, filled, size)))
    ((λ i. is_shallow_there (find_object tree) (as_segment x (find_object tree (listed.contained i) (listed.named i))))
    ∙ ap (λ o. is_shallow_there (find_object tree) (as_segment x o)) listed.there
    ∙ ap (λ t. is_shallow_there (find_object tree) (cond t (Some listed.file.content) None)) (as_listed x listed.file listed.bytes listed.own listed.etag listed.size)
    ∙ ap (is_shallow (find_object tree)) listed.own)

all_listed : (tree : SwiftAccount) (folder id : List ℕ) (above : ℕ) (list : List Segment) → AreParts (files tree folder) folder id above list → list_all (may_be_listed (find_object tree)) list ≡ true
all_listed tree folder id above [] parts = refl
all_listed tree folder id above (x ∷ list) (number, low, high, listed, rest) = and_from _ _ (one_listed tree folder id number x listed) (all_listed tree folder id number list rest)

-- it takes parts of one id that stand there, one or more
pub takes_parts : (tree : SwiftAccount) (folder id : List ℕ) (above : ℕ) (list : List Segment) → length list ≤ 1000 → sum_of list < 2 ^ 63 → AreParts (files tree folder) folder id above list → 0 < length list
    → is_good_list (find_object tree) list ≡ true
unfolding is_good_list
takes_parts tree folder id above list few sum parts some =
    and_from _ _ (and_from _ _ (and_from _ _ (lt-ltb 0 (length list) some) (le-leb (length list) most_segments few)) (all_listed tree folder id above list parts)) (lt-ltb (sum_of list) (2 ^ 63) sum)

-- a part lists nothing
one_plain : (tree : SwiftAccount) (folder id : List ℕ) (number : ℕ) (x : Segment) → IsListedPart (files tree folder) folder id number x → lists_at (find_object tree x.container x.name) ≡ false
one_plain tree folder id number x listed =
    (λ i. lists_at (find_object tree (listed.contained i) (listed.named i))) ∙ ap lists_at listed.there ∙ ap is_list listed.own

none_lists : (tree : SwiftAccount) (folder id : List ℕ) (above : ℕ) (list : List Segment) → AreParts (files tree folder) folder id above list
    → list_any (λ x. lists_at (find_object tree x.container x.name)) list ≡ false
none_lists tree folder id above [] parts = refl
none_lists tree folder id above (x ∷ list) (number, low, high, listed, rest) =
    let one = one_plain tree folder id number x listed in
    let later = none_lists tree folder id number list rest in
    λ i. one i || later i

module _ (tree : SwiftAccount) (folder id : List ℕ) (list : List Segment) (are : AreParts (files tree folder) folder id 0 list) (filled : All IsSegmentPlace list) where
  -- a sub-manifest that is there may be listed
  sub_listed : (n : ℕ) → 0 < length (run n list) → IsSubManifestOf (files tree folder) id list n → may_be_listed (find_object tree) (sub_segment folder id n (run n list)) ≡ true
  sub_listed n some sub =
      let bytes = sum_some (run n list) (run_places n list filled) some in
      let of_run = run_parts (files tree folder) folder id n list are in
      and_from _ _ (lt-ltb 0 (sum_of (run n list)) bytes)
      (ap (λ o. is_shallow_there (find_object tree) (as_segment (sub_segment folder id n (run n list)) o)) sub.there
      ∙ ap (λ t. is_shallow_there (find_object tree) (cond t (Some sub.file.content) None)) (sub_is (files tree folder) folder id (find_object tree) (λ name file there. there) list n sub)
      ∙ ap (is_shallow (find_object tree)) sub.own
      ∙ ap not (none_lists tree folder id of_run.0 (run n list) of_run.1))

  subs_listed : (n : ℕ) → n ≤ sub_manifests (length list) → HasSubManifests (files tree folder) id list n → list_all (may_be_listed (find_object tree)) (sub_segments folder id list n) ≡ true
  unfolding sub_segments
  subs_listed zero within subs = refl
  subs_listed (suc n) within subs =
      list_all-append (may_be_listed (find_object tree)) (sub_segments folder id list n) (sub_segment folder id n (run n list) ∷ [])
      ∙ and_from _ _ (subs_listed n (omega (arith, within)) (λ k below. subs k (omega (arith, below))))
      (and_from _ _ (sub_listed n (run_filled n list (omega (arith, within))) (subs n (omega arith))) refl)

  listed_by : (t : Bool) → HasSubManifests (files tree folder) id list (sub_manifests (length list))
      → list_all (may_be_listed (find_object tree)) (cond t list (sub_segments folder id list (sub_manifests (length list)))) ≡ true
  listed_by true subs = all_listed tree folder id 0 list are
  listed_by false subs = subs_listed (sub_manifests (length list)) (omega arith) subs

  -- it takes what an object of them lists, where its sub-manifests are there
  pub takes_listing : length list ≤ most_parts → sum_of list < 2 ^ 63 → 0 < length list → HasSubManifests (files tree folder) id list (sub_manifests (length list))
      → is_good_list (find_object tree) (listing_by folder id list) ≡ true
  unfolding is_good_list listing_by
  takes_listing few sum some subs =
      let same = listing_sum folder id list in
      and_from _ _ (and_from _ _ (and_from _ _ (lt-ltb 0 (length (listing_by folder id list)) (listing_filled folder id list some)) (le-leb (length (listing_by folder id list)) most_segments (listing_few folder id list few)))
      (listed_by (nat_le (length list) MOST_SEGMENTS) subs)) (lt-ltb (sum_of (listing_by folder id list)) (2 ^ 63) (omega (arith, sum, same)))

pub some_parts : (folder id : List ℕ) (list : List Segment) → 0 < length (listing_by folder id list) → 0 < length list
unfolding listing_by
some_parts folder id [] some = some
some_parts folder id (x ∷ list) some = omega arith

pub takes_list : (tree : SwiftAccount) (s : Sealed) → IsConsistent tree → seal_of tree ≡ Some s → HasSubManifests (files tree (segments_name s.bucket)) (id_digits s.id) (sealed_segments s) (sealed_sub_manifests s)
    → 0 < length (sealed_listing s) → is_good_list (find_object tree) (sealed_listing s) ≡ true
takes_list tree s sound seals subs some =
    let may = may_stand tree s sound seals subs in
    let segments = segments_few s (seal_has_text tree s seals) in
    takes_listing tree (segments_name s.bucket) (id_digits s.id) (sealed_segments s)
    (listing_stands (files tree (segments_name s.bucket)) (segments_name s.bucket) (id_digits s.id) 0 s.list may.ascends may.counted may.filed may.parts).0 segments.places
    segments.few segments.sum (some_parts (segments_name s.bucket) (id_digits s.id) (sealed_segments s) some) subs

-- ---- its sub-manifests

-- the tag of one has a text
pub sub_tag_has_text : (s : Sealed) (listed : List Segment) → has_sealed_text s ≡ true → has_text (sub_tag s listed) ≡ true
unfolding has_text
sub_tag_has_text s listed has =
    let is = limits s has in
    and_from _ _ (and_from _ _ (and_from _ _ refl (ap mark.is_etag (same_etag (joined_etags listed)) ∙ etag_is_etag (joined_etags listed))) is.moment) (lt-ltb s.id (2 ^ 128) is.id)

module _ (s : Sealed) (n : ℕ) (has : has_sealed_text s ≡ true) (below : n < sealed_sub_manifests s) where
  few : n < 10
  few = let most = sub_manifests_few (length (sealed_segments s)) (segments_few s has).few in omega (arith, below, most)

  -- the file of one is a sub-manifest
  pub sub_stands : IsSubManifest (sub_manifest_name (id_digits s.id) (n + 1)) (sub_file_at s n)
  sub_stands = record {
    id = s.id;
    number = n + 1;
    listed = run n (sealed_segments s);
    content_type = codes "application/octet-stream";
    moment = s.moment;
    named = refl;
    fits = (limits s has).id;
    from_one = omega arith;
    within = omega (arith, few);
    own = refl;
    some = run_filled n (sealed_segments s) below;
    few = run_few n (sealed_segments s);
    tagged = tag_text_reads (sub_tag s (run n (sealed_segments s))) (sub_tag_has_text s (run n (sealed_segments s)) has);
  }

  pub sub_stored : IsStored (sub_manifest_name (id_digits s.id) (n + 1)) (sub_file_at s n)
  sub_stored =
      let within = sum_run n (sealed_segments s) in
      let sum = (segments_few s has).sum in
      record { named = file_name (sub_manifest_name (id_digits s.id) (n + 1)) (sub_fits s.id (n + 1) (omega (arith, few))); sized = omega (arith, within, sum) }

  pub sub_fit : Fit (put_sub_of s n)
  sub_fit = (
    segments_fits s.bucket (limits s has).bucket,
    sub_fits s.id (n + 1) (omega (arith, few)),
    tag_is_field (sub_tag s (run n (sealed_segments s))) (sub_tag_has_text s (run n (sealed_segments s)) has),
    refl,
    run_few n (sealed_segments s),
    run_places n (sealed_segments s) (segments_few s has).places,
  )

  -- and the store takes it, where its parts are there
  pub takes_sub : (tree : SwiftAccount) → AreParts (files tree (segments_name s.bucket)) (segments_name s.bucket) (id_digits s.id) 0 (sealed_segments s)
      → is_good_list (find_object tree) (run n (sealed_segments s)) ≡ true
  takes_sub tree are =
      let of_run = run_parts (files tree (segments_name s.bucket)) (segments_name s.bucket) (id_digits s.id) n (sealed_segments s) are in
      let within = sum_run n (sealed_segments s) in
      let sum = (segments_few s has).sum in
      takes_parts tree (segments_name s.bucket) (id_digits s.id) of_run.0 (run n (sealed_segments s)) (run_few n (sealed_segments s)) (omega (arith, within, sum)) of_run.1
      (run_filled n (sealed_segments s) below)

-- the segments of a sealed completion are its parts
pub segments_are : (tree : SwiftAccount) (s : Sealed) → IsConsistent tree → seal_of tree ≡ Some s
    → AreParts (files tree (segments_name s.bucket)) (segments_name s.bucket) (id_digits s.id) 0 (sealed_segments s)
segments_are tree s sound seals =
    let is = limits s (seal_has_text tree s seals) in
    let sealed = sound.sealed s seals in
    (listing_stands (files tree (segments_name s.bucket)) (segments_name s.bucket) (id_digits s.id) 0 s.list (rises_up s.list is.parts sealed.stands.ascends) (all_counted s.list is.parts)
    (sound.buckets s.bucket is.bucket sealed.there).of_segments sealed.stands.parts).0
