-- The sub-manifests of a source, one after another: what each lists, in a row, is the source's parts; and how their names are told from
-- those of parts.
use Rattle.std.specs.Prelude.{◌≡◌, ◌≤◌, ◌<◌, ◌+◌, ◌-◌, ◌*◌, ◌/◌, ◌^◌, min, ℕ, zero, suc, Bool, true, false, cond, nat_le, List, [], ◌∷◌, ◌++◌, length, take, drop, Some}
use Rattle.std.specs.Option.{unwrap_or}
use Rattle.std.specs.FinMap.{get}
use Rattle.std.proofs.Common.{refl, sym, ap, subst, ◌∙◌, arith, append_assoc, true≢false}
use Rattle.std.proofs.Math.Seq.{take-append_seam}
use Rattle.std.proofs.lemmas.List.{length-append, take_all}
use Rattle.gate_base.specs.Maps.{Names}
use Rattle.s3_names.specs.Id.{id_digits, id_of}
use Rattle.s3_names.proofs.lemmas.Ids.{id_reads_back, length-id_digits}
use Rattle.s3_machine.specs.Uploads.{most_parts}
use Rattle.slo_manifest.specs.declared.manifest.TheConstants.{MOST_SEGMENTS}
use Rattle.slo_manifest.specs.declared.Segment.{Segment}
use Rattle.swift_calls.specs.Account.{SwiftObject}
use Rattle.swift_calls.specs.Bodies as bodies
use Rattle.upload_records.specs.Consistent.{AreParts, HasSubManifests, IsSegment, is_part, is_sub_manifest, IsSegmentList}
use Rattle.upload_records.specs.Layout.{five_digits, segment_name, sub_manifest_name}
use Rattle.upload_records.specs.Native.{listing_by, run, sub_manifests, sub_segment, sub_segments}
use Rattle.upload_records.proofs.lemmas.Subs.{length-sub_segments, take_run}
use Rattle.account_calls.specs.Answers.{listed_in, listed_twice}
use Rattle.many_keys.specs.CopiedLists.{begins_with_m, id_in, is_sub_name, list_id, lists_subs, runs_listed, subs_in}

-- ---- their names

drop_front : (front rest : List ℕ) → drop (length front) (front ++ rest) ≡ rest
drop_front [] rest = refl
drop_front (b ∷ front) rest = drop_front front rest

sub_named : (id : List ℕ) (number : ℕ) → is_sub_name (sub_manifest_name id number) ≡ true
unfolding sub_manifest_name is_sub_name
sub_named id number =
    let front : List ℕ = id ++ 47 ∷ [] in
    let name : List ℕ = id ++ 47 ∷ (109 ∷ five_digits number) in
    let far : length name - 6 ≡ length front = omega (arith, length-append id (47 ∷ (109 ∷ five_digits number)), length-append id (47 ∷ [])) in
    ap (λ k. begins_with_m (drop k name)) far ∙ ap (λ l. begins_with_m (drop (length front) l)) (sym (append_assoc id (47 ∷ []) (109 ∷ five_digits number)))
    ∙ ap begins_with_m (drop_front front (109 ∷ five_digits number))

part_named : (id : List ℕ) (number : ℕ) → is_sub_name (segment_name id number) ≡ false
unfolding segment_name is_sub_name
part_named id number =
    let name : List ℕ = id ++ 47 ∷ five_digits number in
    let far : length name - 6 ≡ length id = omega (arith, length-append id (47 ∷ five_digits number)) in
    ap (λ k. begins_with_m (drop k name)) far ∙ ap begins_with_m (drop_front id (47 ∷ five_digits number))

-- a name that goes on behind the text of an id
pub record IsBehind (id name : List ℕ) : Type 0 where
  pub rest : List ℕ
  pub is : name ≡ id ++ rest

part_behind : (id : List ℕ) (number : ℕ) → IsBehind id (segment_name id number)
unfolding segment_name
part_behind id number = record { rest = 47 ∷ five_digits number; is = refl }

sub_behind : (id : List ℕ) (number : ℕ) → IsBehind id (sub_manifest_name id number)
unfolding sub_manifest_name
sub_behind id number = record { rest = 47 ∷ (109 ∷ five_digits number); is = refl }

-- the first 32 bytes of such a name are the text
first_of : (id name : List ℕ) → length id ≡ 32 → IsBehind id name → take (min (length name) 32) name ≡ id
first_of id name long behind =
    let size : length name ≡ length id + length behind.rest = ap length behind.is ∙ length-append id behind.rest in
    let far : min (length name) 32 ≡ length id = omega (arith, size, long) in
    ap (λ k. take k name) far ∙ ap (take (length id)) behind.is ∙ take-append_seam id behind.rest

id_behind : (j : ℕ) (name : List ℕ) → j < 2 ^ 128 → IsBehind (id_digits j) name → id_in name ≡ j
id_behind j name fits behind = ap (λ text. unwrap_or (id_of text) 0) (first_of (id_digits j) name (length-id_digits j) behind) ∙ ap (λ o. unwrap_or o 0) (id_reads_back j fits)

-- and where a file of that name stands beside a bucket, its id has the text
named_by : (j i : ℕ) (name : List ℕ) → j < 2 ^ 128 → IsBehind (id_digits j) name → IsBehind (id_digits i) name → id_digits (id_in name) ≡ id_digits i
named_by j i name fits own other =
    ap id_digits (id_behind j name fits own) ∙ sym (first_of (id_digits j) name (length-id_digits j) own) ∙ first_of (id_digits i) name (length-id_digits i) other

pub id_told : (name : List ℕ) (file : SwiftObject) (i : ℕ) → IsSegment name file → IsBehind (id_digits i) name → id_digits (id_in name) ≡ id_digits i
id_told name file i (is_part part) behind = named_by part.id i name part.fits (subst (IsBehind (id_digits part.id)) (sym part.named) (part_behind (id_digits part.id) part.number)) behind
id_told name file i (is_sub_manifest sub) behind = named_by sub.id i name sub.fits (subst (IsBehind (id_digits sub.id)) (sym sub.named) (sub_behind (id_digits sub.id) sub.number)) behind

-- ---- the runs in a row

no_run : (list : List Segment) → take (MOST_SEGMENTS * 0) list ≡ []
no_run list = let none : MOST_SEGMENTS * 0 ≡ 0 = omega arith in ap (λ k. take k list) none ∙ by list
  where
    by : (list : List Segment) → take 0 list ≡ []
    by [] = refl
    by (s ∷ list) = refl

module _ (S : Names SwiftObject) (folder id : List ℕ) (parts : List Segment) where
  sub_lists : (n count : ℕ) → HasSubManifests S id parts count → n < count → listed_in (get S (sub_manifest_name id (n + 1))) ≡ run n parts
  sub_lists n count subs below = let sub = subs n below in ap listed_in sub.there ∙ ap (λ c. unwrap_or (bodies.listed_in c) []) sub.own

  runs_are : (n : ℕ) → HasSubManifests S id parts n → runs_listed S id n ≡ take (MOST_SEGMENTS * n) parts
  unfolding runs_listed
  runs_are zero subs = sym (no_run parts)
  runs_are (suc n) subs =
      let before = runs_are n (λ k below. subs k (omega (arith, below))) in
      let last = sub_lists n (suc n) subs (omega arith) in
      (λ i. before i ++ last i) ∙ sym (take_run n parts)

  -- ---- how many are listed

  twice-append : (xs ys : List Segment) → listed_twice S (xs ++ ys) ≡ listed_twice S xs + listed_twice S ys
  unfolding listed_twice
  twice-append [] ys = omega arith
  twice-append (x ∷ xs) ys =
      let later = twice-append xs ys in
      let both : listed_twice S (x ∷ (xs ++ ys)) ≡ 1 + length (listed_in (get S x.name)) + listed_twice S (xs ++ ys) = refl in
      let first : listed_twice S (x ∷ xs) ≡ 1 + length (listed_in (get S x.name)) + listed_twice S xs = refl in
      omega (arith, later, both, first)

  twice_subs : (n : ℕ) → HasSubManifests S id parts n → listed_twice S (sub_segments folder id parts n) ≡ length (take (MOST_SEGMENTS * n) parts) + n
  unfolding sub_segments listed_twice
  twice_subs zero subs =
      let none : length (take (MOST_SEGMENTS * 0) parts) ≡ 0 = ap length (no_run parts) in
      let made : listed_twice S (sub_segments folder id parts zero) ≡ 0 = refl in
      omega (arith, none, made)
  twice_subs (suc n) subs =
      let before = twice_subs n (λ k below. subs k (omega (arith, below))) in
      let both = twice-append (sub_segments folder id parts n) (sub_segment folder id n (run n parts) ∷ []) in
      let last = ap length (sub_lists n (suc n) subs (omega arith)) in
      let longer : length (take (MOST_SEGMENTS * suc n) parts) ≡ length (take (MOST_SEGMENTS * n) parts) + length (run n parts)
      = ap length (take_run n parts) ∙ length-append (take (MOST_SEGMENTS * n) parts) (run n parts) in
      let made : listed_twice S (sub_segments folder id parts (suc n)) ≡ listed_twice S (sub_segments folder id parts n ++ sub_segment folder id n (run n parts) ∷ []) = refl in
      let one : listed_twice S (sub_segment folder id n (run n parts) ∷ []) ≡ 1 + length (listed_in (get S (sub_manifest_name id (n + 1)))) + 0 = refl in
      omega (arith, before, both, last, longer, made, one)

  twice_parts : (above : ℕ) (list : List Segment) → AreParts S folder id above list → listed_twice S list ≡ length list
  unfolding listed_twice
  twice_parts above [] are = refl
  twice_parts above (s ∷ list) (number, low, high, listed, rest) =
      let later = twice_parts number list rest in
      let none : length (listed_in (get S s.name)) ≡ 0 = ap (λ n. length (listed_in (get S n))) listed.named ∙ ap (λ o. length (listed_in o)) listed.there ∙ ap (λ c. length (unwrap_or (bodies.listed_in c) [])) listed.own in
      let first : listed_twice S (s ∷ list) ≡ 1 + length (listed_in (get S s.name)) + listed_twice S list = refl in
      omega (arith, later, none, first)

-- ---- the first of them

unfoldable pub first_name : List Segment → List ℕ
first_name [] = []
first_name (s ∷ list) = s.name

subs_by_name : (list : List Segment) → 0 < length list → lists_subs list ≡ is_sub_name (first_name list)
unfolding first_name
subs_by_name [] some = absurd (omega (arith, some))
subs_by_name (s ∷ list) some = refl

pub id_by_name : (list : List Segment) → 0 < length list → list_id list ≡ id_in (first_name list)
unfolding first_name
id_by_name [] some = absurd (omega (arith, some))
id_by_name (s ∷ list) some = refl

first_append : (xs ys : List Segment) → 0 < length xs → first_name (xs ++ ys) ≡ first_name xs
unfolding first_name
first_append [] ys some = absurd (omega (arith, some))
first_append (x ∷ xs) ys some = refl

first_sub : (folder id : List ℕ) (parts : List Segment) (n : ℕ) → first_name (sub_segments folder id parts (suc n)) ≡ sub_manifest_name id 1
unfolding first_name sub_segments
first_sub folder id parts zero = refl
first_sub folder id parts (suc n) =
    let long = length-sub_segments folder id parts (suc n) in
    first_append (sub_segments folder id parts (suc n)) (sub_segment folder id (suc n) (run (suc n) parts) ∷ []) (omega (arith, long)) ∙ first_sub folder id parts n

-- ---- what an object lists, read as the lists of its parts

-- these are the parts, or they are their sub-manifests, of which there are so many
pub record ReadsAs (S : Names SwiftObject) (id : List ℕ) (parts listed : List Segment) (count : ℕ) : Type 0 where
  pub twice : listed_twice S listed ≡ length parts + count
  pub asked : subs_in listed ≡ count
  pub direct : lists_subs listed ≡ false → listed ≡ parts
  pub few : lists_subs listed ≡ true → length listed ≤ 10
  pub here : lists_subs listed ≡ true → HasSubManifests S id parts (length listed)
  pub runs : lists_subs listed ≡ true → runs_listed S id (length listed) ≡ parts
  pub some : 0 < length listed
  pub behind : IsBehind id (first_name listed)
  pub file : SwiftObject
  pub there : get S (first_name listed) ≡ Some file

not_both : (t : Bool) → t ≡ true → t ≡ false → ⊥
not_both t e f = true≢false (sym e ∙ f)

module _ (S : Names SwiftObject) (folder id : List ℕ) (parts : List Segment) (are : AreParts S folder id 0 parts) (some : 0 < length parts) where
  first_part : (list : List Segment) → 0 < length list → AreParts S folder id 0 list → (number : ℕ) × (file : SwiftObject) × (first_name list ≡ segment_name id number) × (get S (segment_name id number) ≡ Some file)
  unfolding first_name
  first_part [] filled of_parts = absurd (omega (arith, filled))
  first_part (s ∷ list) filled (number, low, high, listed, rest) = (number, listed.file, listed.named, listed.there)

  parts_read : ReadsAs S id parts parts 0
  parts_read =
      let first = first_part parts some are in
      let plain : lists_subs parts ≡ false = subs_by_name parts some ∙ ap is_sub_name first.2 ∙ part_named id first.0 in
      record {
        twice = let all = twice_parts S folder id parts 0 parts are in omega (arith, all);
        asked = ap (λ t. cond t (length parts) 0) plain;
        direct = λ e. refl;
        few = λ e. absurd (not_both (lists_subs parts) e plain);
        here = λ e. absurd (not_both (lists_subs parts) e plain);
        runs = λ e. absurd (not_both (lists_subs parts) e plain);
        some = some;
        behind = subst (IsBehind id) (sym first.2) (part_behind id first.0);
        file = first.1;
        there = ap (get S) first.2 ∙ first.3;
      }

  subs_read : (count : ℕ) → 0 < count → count ≤ 10 → length parts ≤ MOST_SEGMENTS * count → HasSubManifests S id parts count → ReadsAs S id parts (sub_segments folder id parts count) count
  subs_read zero low high within subs = absurd (omega (arith, low))
  subs_read (suc n) low high within subs =
      let count : ℕ = suc n in
      let listed : List Segment = sub_segments folder id parts count in
      let long : length listed ≡ count = length-sub_segments folder id parts count in
      let filled : 0 < length listed = omega (arith, long) in
      let named : first_name listed ≡ sub_manifest_name id 1 = first_sub folder id parts n in
      let are_subs : lists_subs listed ≡ true = subs_by_name listed filled ∙ ap is_sub_name named ∙ sub_named id 1 in
      let all : take (MOST_SEGMENTS * count) parts ≡ parts = take_all (MOST_SEGMENTS * count) parts within in
      let first = subs 0 (omega arith) in
      record {
        twice = let twice = twice_subs S folder id parts count subs in let same = ap length all in omega (arith, twice, same);
        asked = ap (λ t. cond t (length listed) 0) are_subs ∙ long;
        direct = λ e. absurd (not_both (lists_subs listed) are_subs e);
        few = λ e. omega (arith, long, high);
        here = λ e. subst (HasSubManifests S id parts) (sym long) subs;
        runs = λ e. ap (runs_listed S id) long ∙ runs_are S folder id parts count subs ∙ all;
        some = filled;
        behind = subst (IsBehind id) (sym named) (sub_behind id 1);
        file = first.file;
        there = ap (get S) named ∙ first.there;
      }

  by_length : (t : Bool) → length parts ≤ 10000 → HasSubManifests S id parts (cond t 0 ((length parts + 999) / MOST_SEGMENTS))
      → ReadsAs S id parts (cond t parts (sub_segments folder id parts (cond t 0 ((length parts + 999) / MOST_SEGMENTS)))) (cond t 0 ((length parts + 999) / MOST_SEGMENTS))
  by_length true most subs = parts_read
  by_length false most subs = subs_read ((length parts + 999) / MOST_SEGMENTS) (omega (arith, some)) (omega (arith, most)) (omega arith) subs

  listing_read : length parts ≤ most_parts → HasSubManifests S id parts (sub_manifests (length parts)) → ReadsAs S id parts (listing_by folder id parts) (sub_manifests (length parts))
  unfolding listing_by most_parts
  listing_read most subs = by_length (nat_le (length parts) MOST_SEGMENTS) (omega (arith, most)) subs

-- what an object lists
pub list_reads : (S : Names SwiftObject) (folder id : List ℕ) (listed : List Segment) (list : IsSegmentList S folder id listed) → ReadsAs S id list.parts listed (sub_manifests (length list.parts))
list_reads S folder id listed list =
    subst (λ l. ReadsAs S id list.parts l (sub_manifests (length list.parts))) (sym list.lists) (listing_read S folder id list.parts list.are list.some list.few list.subs)
