-- What an object of many parts lists: the sub-manifests of runs of its parts have the bytes of these, and as many of them.
use Rattle.std.specs.Prelude.{◌≡◌, ◌&&◌, ◌<◌, ◌≤◌, ◌+◌, ◌*◌, ◌/◌, ℕ, zero, suc, Bool, true, false, cond, drop, nat_eq, nat_le, bytes_eq, List, [], ◌∷◌, ◌++◌, length, sum_by, take, Option, None, Some}
use Rattle.std.specs.Option.{option_and_then}
use Rattle.std.specs.FinMap.{get}
use Rattle.std.proofs.Common.{refl, sym, ap, ◌∙◌, arith}
use Rattle.std.proofs.lemmas.Bool.{and_from, eq-eqb, le-leb, leb-true}
use Rattle.std.proofs.lemmas.Bool.Decides.{nat_tests}
use Rattle.std.proofs.lemmas.List.{append-nil, append_assoc, drop-take, length-append, length-drop, length-take, take_all, take-append-drop, take-take}
use Rattle.std.proofs.lemmas.List.Sums.{sum_by-cons}
use Rattle.std.proofs.lemmas.Slice.Eq.{bytes_eq-Decides}
use Rattle.gate_base.specs.Maps.{Names}
use Rattle.s3_machine.specs.Uploads.{most_parts}
use Rattle.slo_manifest.specs.declared.manifest.TheConstants.{MOST_SEGMENTS}
use Rattle.slo_manifest.specs.declared.Segment.{Segment}
use Rattle.swift_calls.specs.Account.{SwiftObject, size_of}
use Rattle.swift_calls.specs.Bodies.{Look, etag_text, etag_of, is_segment, as_segment, segment_bytes_of, inner_bytes, outer_bytes, joined_two, joined, plain_bytes}
use Rattle.swift_calls.specs.declared.account.Content.TheVariants.{Plain, Segments}
use Rattle.upload_records.specs.Layout.{segment_name, sub_manifest_name}
use Rattle.upload_records.specs.Native.{run, sub_manifests, sub_segment, sub_segments, listing_by}
use Rattle.upload_records.specs.Consistent.{IsListedPart, AreParts, IsSubManifestOf, HasSubManifests, IsSegmentList}

-- a way to look objects up that finds what stands in a container
abbrev pub Finds : Names SwiftObject → List ℕ → Look → Type 0
Finds segments folder look = (name : List ℕ) (file : SwiftObject) → get segments name ≡ Some file → look folder name ≡ Some file

-- ---- runs

-- a run, and the runs before it, are parts too
pub parts_taken : (S : Names SwiftObject) (folder id : List ℕ) (above k : ℕ) (list : List Segment) → AreParts S folder id above list → AreParts S folder id above (take k list)
parts_taken S folder id above zero list h = tt
parts_taken S folder id above (suc k) [] h = tt
parts_taken S folder id above (suc k) (s ∷ list) (number, low, high, listed, rest) = (number, low, high, listed, parts_taken S folder id number k list rest)

pub parts_left : (S : Names SwiftObject) (folder id : List ℕ) (above k : ℕ) (list : List Segment) → AreParts S folder id above list → (from : ℕ) × AreParts S folder id from (drop k list)
parts_left S folder id above zero list h = (above, h)
parts_left S folder id above (suc k) [] h = (above, tt)
parts_left S folder id above (suc k) (s ∷ list) (number, low, high, listed, rest) = parts_left S folder id number k list rest

pub run_parts : (S : Names SwiftObject) (folder id : List ℕ) (n : ℕ) (list : List Segment) → AreParts S folder id 0 list → (from : ℕ) × AreParts S folder id from (run n list)
unfolding run
run_parts S folder id n list parts =
    let left = parts_left S folder id 0 (MOST_SEGMENTS * n) list parts in
    (left.0, parts_taken S folder id left.0 MOST_SEGMENTS (drop (MOST_SEGMENTS * n) list) left.1)

-- the first runs, and one more
take_both : {X : Type 0} (n m : ℕ) (xs : List X) → take (n + m) xs ≡ take n xs ++ take m (drop n xs)
take_both n m xs =
    sym (take-append-drop n (take (n + m) xs)) ∙ ap (λ t. t ++ drop n (take (n + m) xs)) (take-take n (n + m) xs (omega arith)) ∙ ap (λ t. take n xs ++ t) (drop-take n m xs)

pub take_run : (n : ℕ) (list : List Segment) → take (MOST_SEGMENTS * suc n) list ≡ take (MOST_SEGMENTS * n) list ++ run n list
unfolding run
take_run n list = let more : MOST_SEGMENTS * suc n ≡ MOST_SEGMENTS * n + MOST_SEGMENTS = omega arith in ap (λ k. take k list) more ∙ take_both (MOST_SEGMENTS * n) MOST_SEGMENTS list

take_no_run : (list : List Segment) → take (MOST_SEGMENTS * 0) list ≡ []
take_no_run list = let none : MOST_SEGMENTS * 0 ≡ 0 = omega arith in ap (λ k. take k list) none

-- a run of segments of which there are more before it has one, and no more than a manifest
pub run_filled : (n : ℕ) (list : List Segment) → n < sub_manifests (length list) → 0 < length (run n list)
unfolding run
run_filled n list below = by (nat_le (length list) MOST_SEGMENTS) refl below
  where
    by : (t : Bool) → nat_le (length list) MOST_SEGMENTS ≡ t → n < cond t 0 ((length list + 999) / MOST_SEGMENTS) → 0 < length (take MOST_SEGMENTS (drop (MOST_SEGMENTS * n) list))
    by true few below = absurd (omega (arith, below))
    by false many below =
        let left = length-drop (MOST_SEGMENTS * n) list in
        let taken = length-take MOST_SEGMENTS (drop (MOST_SEGMENTS * n) list) in
        omega (arith, below, left, taken)

pub run_few : (n : ℕ) (list : List Segment) → length (run n list) ≤ MOST_SEGMENTS
unfolding run
run_few n list = let taken = length-take MOST_SEGMENTS (drop (MOST_SEGMENTS * n) list) in omega (arith, taken)

-- ---- how many

-- there are as many sub-manifests as runs are asked for
pub length-sub_segments : (folder id : List ℕ) (parts : List Segment) (n : ℕ) → length (sub_segments folder id parts n) ≡ n
unfolding sub_segments
length-sub_segments folder id parts zero = refl
length-sub_segments folder id parts (suc n) =
    let before = length-sub_segments folder id parts n in
    let size = length-append (sub_segments folder id parts n) (sub_segment folder id n (run n parts) ∷ []) in
    omega (arith, before, size)

filled_by : (folder id : List ℕ) (parts : List Segment) (t : Bool) → nat_le (length parts) MOST_SEGMENTS ≡ t → 0 < length parts
    → 0 < length (cond t parts (sub_segments folder id parts (cond t 0 ((length parts + 999) / MOST_SEGMENTS))))
filled_by folder id parts true few some = some
filled_by folder id parts false many some = let size = length-sub_segments folder id parts ((length parts + 999) / MOST_SEGMENTS) in omega (arith, size, some)

-- an object of some parts lists something
pub listing_filled : (folder id : List ℕ) (parts : List Segment) → 0 < length parts → 0 < length (listing_by folder id parts)
unfolding listing_by
listing_filled folder id parts some = filled_by folder id parts (nat_le (length parts) MOST_SEGMENTS) refl some

few_of : (folder id : List ℕ) (parts : List Segment) (t : Bool) → nat_le (length parts) MOST_SEGMENTS ≡ t → length parts ≤ 10000
    → length (cond t parts (sub_segments folder id parts (cond t 0 ((length parts + 999) / MOST_SEGMENTS)))) ≤ MOST_SEGMENTS
few_of folder id parts true few most = leb-true (length parts) MOST_SEGMENTS few
few_of folder id parts false many most = let size = length-sub_segments folder id parts ((length parts + 999) / MOST_SEGMENTS) in omega (arith, size, most)

-- and no more than a manifest may list
pub listing_few : (folder id : List ℕ) (parts : List Segment) → length parts ≤ most_parts → length (listing_by folder id parts) ≤ MOST_SEGMENTS
unfolding listing_by most_parts
listing_few folder id parts most = few_of folder id parts (nat_le (length parts) MOST_SEGMENTS) refl (omega (arith, most))

few_subs : (n : ℕ) (t : Bool) → n ≤ 10000 → cond t 0 ((n + 999) / MOST_SEGMENTS) ≤ 10
few_subs n true most = omega arith
few_subs n false most = omega (arith, most)

-- no more segments than a manifest may list are listed by themselves
pub listing_direct : (folder id : List ℕ) (parts : List Segment) → length parts ≤ MOST_SEGMENTS → listing_by folder id parts ≡ parts
unfolding listing_by
listing_direct folder id parts few = ap (λ t. cond t parts (sub_segments folder id parts (sub_manifests (length parts)))) (le-leb (length parts) MOST_SEGMENTS few)

pub no_sub_manifests : (n : ℕ) → n ≤ MOST_SEGMENTS → sub_manifests n ≡ 0
no_sub_manifests n few = ap (λ t. cond t 0 ((n + 999) / MOST_SEGMENTS)) (le-leb n MOST_SEGMENTS few)

-- there are ten sub-manifests at most
pub sub_manifests_few : (n : ℕ) → n ≤ most_parts → sub_manifests n ≤ 10
unfolding most_parts
sub_manifests_few n most = few_subs n (nat_le n MOST_SEGMENTS) (omega (arith, most))

-- ---- their sizes

abbrev sum_of : List Segment → ℕ
sum_of list = sum_by (λ (s : Segment). s.size) list

sum-append : (xs ys : List Segment) → sum_of (xs ++ ys) ≡ sum_of xs + sum_of ys
sum-append [] ys = omega arith
sum-append (x ∷ xs) ys =
    let later = sum-append xs ys in
    let one = sum_by-cons (λ (s : Segment). s.size) x (xs ++ ys) in
    let first = sum_by-cons (λ (s : Segment). s.size) x xs in
    omega (arith, later, one, first)

sum_runs : (folder id : List ℕ) (parts : List Segment) (n : ℕ) → sum_of (sub_segments folder id parts n) ≡ sum_of (take (MOST_SEGMENTS * n) parts)
unfolding sub_segments
sum_runs folder id parts zero = ap sum_of (sym (take_no_run parts))
sum_runs folder id parts (suc n) =
    let before = sum_runs folder id parts n in
    let both = sum-append (sub_segments folder id parts n) (sub_segment folder id n (run n parts) ∷ []) in
    let one = sum_by-cons (λ (s : Segment). s.size) (sub_segment folder id n (run n parts)) [] in
    let all = sum-append (take (MOST_SEGMENTS * n) parts) (run n parts) in
    let split = ap sum_of (take_run n parts) in
    let made : sum_of (sub_segments folder id parts (suc n)) ≡ sum_of (sub_segments folder id parts n ++ sub_segment folder id n (run n parts) ∷ []) = refl in
    omega (arith, before, both, one, all, split, made)

sum_by_length : (folder id : List ℕ) (parts : List Segment) (t : Bool) → nat_le (length parts) MOST_SEGMENTS ≡ t
    → sum_of (cond t parts (sub_segments folder id parts (cond t 0 ((length parts + 999) / MOST_SEGMENTS)))) ≡ sum_of parts
sum_by_length folder id parts true few = refl
sum_by_length folder id parts false many =
    sum_runs folder id parts ((length parts + 999) / MOST_SEGMENTS) ∙ ap sum_of (take_all (MOST_SEGMENTS * ((length parts + 999) / MOST_SEGMENTS)) parts (omega arith))

-- what an object lists has as many bytes as its parts
pub listing_sum : (folder id : List ℕ) (parts : List Segment) → sum_by (λ (s : Segment). s.size) (listing_by folder id parts) ≡ sum_by (λ (s : Segment). s.size) parts
unfolding listing_by
listing_sum folder id parts = sum_by_length folder id parts (nat_le (length parts) MOST_SEGMENTS) refl

-- ---- their bytes

two_nil : (o : Option (List ℕ)) → joined_two (Some []) o ≡ o
two_nil None = refl
two_nil (Some bytes) = refl

two_end : (o : Option (List ℕ)) → joined_two o (Some []) ≡ o
two_end None = refl
two_end (Some bytes) = ap Some (append-nil bytes)

two_two : (a b c : Option (List ℕ)) → joined_two a (joined_two b c) ≡ joined_two (joined_two a b) c
two_two None b c = refl
two_two (Some x) None c = refl
two_two (Some x) (Some y) None = refl
two_two (Some x) (Some y) (Some z) = ap Some (sym (append_assoc x y z))

joined-append : (f : Segment → Option (List ℕ)) (xs ys : List Segment) → joined f (xs ++ ys) ≡ joined_two (joined f xs) (joined f ys)
unfolding joined
joined-append f [] ys = sym (two_nil (joined f ys))
joined-append f (x ∷ xs) ys = ap (joined_two (f x)) (joined-append f xs ys) ∙ two_two (f x) (joined f xs) (joined f ys)

joined_one : (f : Segment → Option (List ℕ)) (x : Segment) → joined f (x ∷ []) ≡ f x
unfolding joined
joined_one f x = two_end (f x)

as_listed : (s : Segment) (file : SwiftObject) (bytes : List ℕ) → file.content ≡ Plain bytes → s.etag ≡ etag_text bytes → s.size ≡ length bytes → is_segment s file ≡ true
as_listed s file bytes own etag size =
    (λ i. bytes_eq (etag_of (own i)) (etag i) && nat_eq (size_of (own i)) (size i))
    ∙ and_from _ _ ((bytes_eq-Decides (etag_text bytes) (etag_text bytes)).1 refl) (eq-eqb (length bytes) (length bytes) refl)

module _ (S : Names SwiftObject) (folder id : List ℕ) (look : Look) (finds : Finds S folder look) where
  part_found : (number : ℕ) (s : Segment) (listed : IsListedPart S folder id number s) → look s.container s.name ≡ Some listed.file
  part_found number s listed = (λ i. look (listed.contained i) (listed.named i)) ∙ finds (segment_name id number) listed.file listed.there

  -- a part has its own bytes, whether it may list segments or not
  pub outer_part : (number : ℕ) (s : Segment) (listed : IsListedPart S folder id number s) → outer_bytes look s ≡ Some listed.bytes
  outer_part number s listed =
      ap (λ o. option_and_then (segment_bytes_of look) (as_segment s o)) (part_found number s listed)
      ∙ ap (λ t. option_and_then (segment_bytes_of look) (cond t (Some listed.file.content) None)) (as_listed s listed.file listed.bytes listed.own listed.etag listed.size)
      ∙ ap (segment_bytes_of look) listed.own

  inner_part : (number : ℕ) (s : Segment) (listed : IsListedPart S folder id number s) → inner_bytes look s ≡ Some listed.bytes
  inner_part number s listed =
      ap (λ o. option_and_then plain_bytes (as_segment s o)) (part_found number s listed)
      ∙ ap (λ t. option_and_then plain_bytes (cond t (Some listed.file.content) None)) (as_listed s listed.file listed.bytes listed.own listed.etag listed.size)
      ∙ ap plain_bytes listed.own

  inner_outer : (above : ℕ) (list : List Segment) → AreParts S folder id above list → joined (inner_bytes look) list ≡ joined (outer_bytes look) list
  unfolding joined
  inner_outer above [] h = refl
  inner_outer above (s ∷ list) (number, low, high, listed, rest) =
      let one : inner_bytes look s ≡ outer_bytes look s = inner_part number s listed ∙ sym (outer_part number s listed) in
      let later = inner_outer number list rest in
      λ i. joined_two (one i) (later i)

  module _ (parts : List Segment) where
    -- a sub-manifest that stands there is there as the list says
    pub sub_is : (n : ℕ) (sub : IsSubManifestOf S id parts n) → is_segment (sub_segment folder id n (run n parts)) sub.file ≡ true
    sub_is n sub =
        (λ i. bytes_eq (etag_of (sub.own i)) (etag_of (Segments (run n parts))) && nat_eq (size_of (sub.own i)) (size_of (Segments (run n parts))))
        ∙ and_from _ _ ((bytes_eq-Decides (etag_of (Segments (run n parts))) (etag_of (Segments (run n parts)))).1 refl) (eq-eqb (size_of (Segments (run n parts))) (size_of (Segments (run n parts))) refl)

    -- and has the bytes of its run
    sub_bytes : (n : ℕ) → IsSubManifestOf S id parts n → outer_bytes look (sub_segment folder id n (run n parts)) ≡ joined (inner_bytes look) (run n parts)
    sub_bytes n sub =
        ap (λ o. option_and_then (segment_bytes_of look) (as_segment (sub_segment folder id n (run n parts)) o)) (finds (sub_manifest_name id (n + 1)) sub.file sub.there)
        ∙ ap (λ t. option_and_then (segment_bytes_of look) (cond t (Some sub.file.content) None)) (sub_is n sub)
        ∙ ap (segment_bytes_of look) sub.own

    module _ (are : AreParts S folder id 0 parts) where
      sub_joins : (n : ℕ) → IsSubManifestOf S id parts n → outer_bytes look (sub_segment folder id n (run n parts)) ≡ joined (outer_bytes look) (run n parts)
      sub_joins n sub = let of_run = run_parts S folder id n parts are in sub_bytes n sub ∙ inner_outer of_run.0 (run n parts) of_run.1

      -- the first sub-manifests have the bytes of the first runs
      runs_join : (n : ℕ) → HasSubManifests S id parts n → joined (outer_bytes look) (sub_segments folder id parts n) ≡ joined (outer_bytes look) (take (MOST_SEGMENTS * n) parts)
      unfolding sub_segments joined
      runs_join zero subs = sym (ap (joined (outer_bytes look)) (take_no_run parts))
      runs_join (suc n) subs =
          let before = runs_join n (λ k below. subs k (omega (arith, below))) in
          let last = joined_one (outer_bytes look) (sub_segment folder id n (run n parts)) ∙ sub_joins n (subs n (omega arith)) in
          joined-append (outer_bytes look) (sub_segments folder id parts n) (sub_segment folder id n (run n parts) ∷ [])
          ∙ (λ i. joined_two (before i) (last i))
          ∙ sym (joined-append (outer_bytes look) (take (MOST_SEGMENTS * n) parts) (run n parts))
          ∙ ap (joined (outer_bytes look)) (sym (take_run n parts))

      by_length : (t : Bool) → nat_le (length parts) MOST_SEGMENTS ≡ t → HasSubManifests S id parts (cond t 0 ((length parts + 999) / MOST_SEGMENTS))
          → joined (outer_bytes look) (cond t parts (sub_segments folder id parts (cond t 0 ((length parts + 999) / MOST_SEGMENTS)))) ≡ joined (outer_bytes look) parts
      by_length true few subs = refl
      by_length false many subs =
          runs_join ((length parts + 999) / MOST_SEGMENTS) subs
          ∙ ap (joined (outer_bytes look)) (take_all (MOST_SEGMENTS * ((length parts + 999) / MOST_SEGMENTS)) parts (omega arith))

      -- what an object lists has the bytes of its parts
      pub listing_joins : HasSubManifests S id parts (sub_manifests (length parts)) → joined (outer_bytes look) (listing_by folder id parts) ≡ joined (outer_bytes look) parts
      unfolding listing_by
      listing_joins subs = by_length (nat_le (length parts) MOST_SEGMENTS) refl subs

  -- the bytes of what an object lists
  pub list_bytes : (listed : List Segment) (list : IsSegmentList S folder id listed) → joined (outer_bytes look) listed ≡ joined (outer_bytes look) list.parts
  list_bytes listed list = ap (joined (outer_bytes look)) list.lists ∙ listing_joins list.parts list.are list.subs
