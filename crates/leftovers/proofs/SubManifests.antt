-- What the object of a completed upload names: its sub-manifests, and each of its parts; and what is known of what it lists.
use Rattle.std.specs.Prelude.{◌≡◌, ◌<◌, ◌≤◌, ◌+◌, ◌*◌, ◌/◌, ◌||◌, ℕ, zero, suc, Bool, true, false, cond, bytes_eq, nat_le, List, [], ◌∷◌, ◌++◌, length, take}
use Rattle.std.specs.List.{AllByRecursion, filter, list_any}
use Rattle.std.specs.Option.{unwrap_or}
use Rattle.std.specs.FinMap.{get}
use Rattle.std.proofs.Common.{refl, sym, ap, subst, ◌∙◌, inl, inr, arith, true≢false}
use Rattle.std.proofs.lemmas.Bool.{cases_lt}
use Rattle.std.proofs.lemmas.List.{take_all}
use Rattle.std.proofs.lemmas.List.Folds.{list_any-append}
use Rattle.gate_base.specs.Maps.{Names}
use Rattle.s3_names.specs.Id.{id_digits}
use Rattle.slo_manifest.specs.declared.manifest.TheConstants.{MOST_SEGMENTS}
use Rattle.slo_manifest.specs.declared.Segment.{Segment}
use Rattle.swift_calls.specs.Account.{SwiftObject, SwiftAccount, files}
use Rattle.swift_calls.specs.Bodies.{listed_in}
use Rattle.upload_records.specs.Layout.{segments_name, sub_manifest_name}
use Rattle.upload_records.specs.Native.{run, sub_manifests, sub_segment, sub_segments, listing_by}
use Rattle.upload_records.specs.Consistent.{IsListedPart, AreParts, IsSubManifestOf, HasSubManifests, IsSegmentList}
use Rattle.upload_records.proofs.lemmas.Subs.{length-sub_segments, sub_manifests_few, take_run}
use Rattle.leftovers.specs.Gathering.{AreKnown, IsKnown, IsKnownBy, segments_at, sub_manifests_in}
use Rattle.leftovers.specs.Leftovers.{is_named_in, is_sub_manifest_name, names_segment, segments_in}
use Rattle.leftovers.proofs.WholeLists.{run_whole}
use Rattle.leftovers.proofs.SegmentNames.{part_name_not, sub_name_is}

pub or_false : (a b : Bool) → (a || b) ≡ false → (a ≡ false) × (b ≡ false)
or_false true b e = absurd (true≢false e)
or_false false b e = (refl, e)

-- ---- a name that the object doesn't name

module _ (S : Names SwiftObject) (name : List ℕ) where
  -- what segments don't name isn't one of them
  named_none : (list : List Segment) → list_any (names_segment S name) list ≡ false → is_named_in name list ≡ false
  named_none [] none = refl
  named_none (s ∷ list) none =
      let parts = or_false (names_segment S name s) (list_any (names_segment S name) list) none in
      let one = or_false (bytes_eq s.name name) (is_named_in name (segments_in (get S s.name))) parts.0 in
      (λ i. one.0 i || named_none list parts.1 i)

  module _ (folder id : List ℕ) (parts : List Segment) where
    -- no sub-manifest before this one has the name
    abbrev pub SubsApart : ℕ → Type 0
    SubsApart count = (n : ℕ) → n < count → bytes_eq (sub_manifest_name id (n + 1)) name ≡ false

    -- nor a part of the runs before it
    pub record RunsApart (n : ℕ) : Type 0 where
      pub subs : SubsApart n
      pub parts_apart : is_named_in name (take (MOST_SEGMENTS * n) parts) ≡ false

    run_listed : (n : ℕ) → IsSubManifestOf S id parts n → segments_in (get S (sub_manifest_name id (n + 1))) ≡ run n parts
    run_listed n sub = ap segments_in sub.there ∙ ap (λ c. unwrap_or (listed_in c) []) sub.own

    one_more : (n : ℕ) → RunsApart n → IsSubManifestOf S id parts n → names_segment S name (sub_segment folder id n (run n parts)) ≡ false → RunsApart (suc n)
    one_more n before sub none =
        let both = or_false (bytes_eq (sub_manifest_name id (n + 1)) name) (is_named_in name (segments_in (get S (sub_manifest_name id (n + 1))))) none in
        let listed : is_named_in name (run n parts) ≡ false = ap (is_named_in name) (sym (run_listed n sub)) ∙ both.1 in
        record {
          subs = λ k below. by k below both.0;
          parts_apart =
              ap (is_named_in name) (take_run n parts) ∙ list_any-append (λ (s : Segment). bytes_eq s.name name) (take (MOST_SEGMENTS * n) parts) (run n parts)
              ∙ (λ i. before.parts_apart i || listed i);
        }
      where
        by : (k : ℕ) → k < suc n → bytes_eq (sub_manifest_name id (n + 1)) name ≡ false → bytes_eq (sub_manifest_name id (k + 1)) name ≡ false
        by k below last = elim (cases_lt k n) as (λ _. bytes_eq (sub_manifest_name id (k + 1)) name ≡ false) [
          | inl less ↦ before.subs k less
          | inr from ↦ let same : n ≡ k = omega (arith, below, from) in subst (λ m. bytes_eq (sub_manifest_name id (m + 1)) name ≡ false) same last
        ]

    no_run : is_named_in name (take (MOST_SEGMENTS * 0) parts) ≡ false
    no_run = let none : MOST_SEGMENTS * 0 ≡ 0 = omega arith in ap (λ k. is_named_in name (take k parts)) none

    runs_apart : (n : ℕ) → HasSubManifests S id parts n → list_any (names_segment S name) (sub_segments folder id parts n) ≡ false → RunsApart n
    unfolding sub_segments
    runs_apart zero subs none = record { subs = λ k below. absurd (omega (arith, below)); parts_apart = no_run }
    runs_apart (suc n) subs none =
        let x = sub_segment folder id n (run n parts) in
        let both = or_false (list_any (names_segment S name) (sub_segments folder id parts n)) (list_any (names_segment S name) (x ∷ []))
        (sym (list_any-append (names_segment S name) (sub_segments folder id parts n) (x ∷ [])) ∙ none) in
        one_more n (runs_apart n (λ k below. subs k (omega (arith, below))) both.0) (subs n (omega arith)) (or_false (names_segment S name x) false both.1).0

    -- neither a sub-manifest nor a part of the object has it
    pub record ListApart : Type 0 where
      pub subs : SubsApart (sub_manifests (length parts))
      pub parts_apart : is_named_in name parts ≡ false

    by_length : (t : Bool) → nat_le (length parts) MOST_SEGMENTS ≡ t → HasSubManifests S id parts (cond t 0 ((length parts + 999) / MOST_SEGMENTS))
        → list_any (names_segment S name) (cond t parts (sub_segments folder id parts (cond t 0 ((length parts + 999) / MOST_SEGMENTS)))) ≡ false
        → SubsApart (cond t 0 ((length parts + 999) / MOST_SEGMENTS)) × (is_named_in name parts ≡ false)
    by_length true few subs none = (λ n below. absurd (omega (arith, below)), named_none parts none)
    by_length false many subs none =
        let runs = runs_apart ((length parts + 999) / MOST_SEGMENTS) subs none in
        (runs.subs, ap (is_named_in name) (sym (take_all (MOST_SEGMENTS * ((length parts + 999) / MOST_SEGMENTS)) parts (omega arith))) ∙ runs.parts_apart)

    pub list_apart : HasSubManifests S id parts (sub_manifests (length parts)) → list_any (names_segment S name) (listing_by folder id parts) ≡ false → ListApart
    unfolding listing_by
    list_apart subs none = let both = by_length (nat_le (length parts) MOST_SEGMENTS) refl subs none in record { subs = both.0; parts_apart = both.1 }

-- ---- what is known of what it lists

all_append : {X : Type 0} (P : X → Type 0) (xs ys : List X) → AllByRecursion P xs → AllByRecursion P ys → AllByRecursion P (xs ++ ys)
all_append P [] ys h k = k
all_append P (x ∷ xs) ys h k = (h.0, all_append P xs ys h.1 k)

filter_less : {X : Type 0} (p : X → Bool) (xs : List X) → length (filter p xs) ≤ length xs
filter_less p [] = omega arith
filter_less p (x ∷ xs) = let rest = filter_less p xs in elim (p x) as (λ t. length (cond t (x ∷ filter p xs) (filter p xs)) ≤ length (x ∷ xs)) [ true ↦ omega (arith, rest) | false ↦ omega (arith, rest) ]

module _ (tree : SwiftAccount) (bucket : List ℕ) (id : ℕ) where
  abbrev S : Names SwiftObject
  S = files tree (segments_name bucket)

  -- a part lists none
  part_plain : (number : ℕ) (s : Segment) → IsListedPart S (segments_name bucket) (id_digits id) number s → segments_at tree (segments_name bucket) s.name ≡ []
  part_plain number s listed = ap (λ n. segments_in (get S n)) listed.named ∙ ap segments_in listed.there ∙ ap (λ c. unwrap_or (listed_in c) []) listed.own

  parts_known : (above : ℕ) (parts : List Segment) → AreParts S (segments_name bucket) (id_digits id) above parts → AreKnown bucket parts tree × (sub_manifests_in parts ≡ 0)
  parts_known above [] h = (tt, refl)
  parts_known above (s ∷ parts) (number, low, high, listed, rest) =
      let no : is_sub_manifest_name s.name ≡ false = ap is_sub_manifest_name listed.named ∙ part_name_not id number high in
      let later = parts_known number parts rest in (
        (subst (λ t. IsKnownBy t bucket s tree) (sym no) (part_plain number s listed), later.0),
        ap (λ t. length (cond t (s ∷ filter (λ (x : Segment). is_sub_manifest_name x.name) parts) (filter (λ (x : Segment). is_sub_manifest_name x.name) parts))) no ∙ later.1,
      )

  -- a sub-manifest has a whole list
  sub_known : (parts : List Segment) (n : ℕ) → AreParts S (segments_name bucket) (id_digits id) 0 parts → n < sub_manifests (length parts) → IsSubManifestOf S (id_digits id) parts n → IsKnown bucket (sub_segment (segments_name bucket) (id_digits id) n (run n parts)) tree
  sub_known parts n are below sub = subst (λ t. IsKnownBy t bucket (sub_segment (segments_name bucket) (id_digits id) n (run n parts)) tree) (sym (sub_name_is id (n + 1)))
      (record { has = record { file = sub.file; listed = run n parts; found = sub.there; lists = sub.own }; whole = run_whole S (segments_name bucket) id parts n are below })

  subs_known : (parts : List Segment) (n : ℕ) → AreParts S (segments_name bucket) (id_digits id) 0 parts → n ≤ sub_manifests (length parts) → HasSubManifests S (id_digits id) parts n → AreKnown bucket (sub_segments (segments_name bucket) (id_digits id) parts n) tree
  unfolding sub_segments
  subs_known parts zero are near subs = tt
  subs_known parts (suc n) are near subs =
      all_append (λ s. IsKnown bucket s tree) (sub_segments (segments_name bucket) (id_digits id) parts n) (sub_segment (segments_name bucket) (id_digits id) n (run n parts) ∷ [])
      (subs_known parts n are (omega (arith, near)) (λ k below. subs k (omega (arith, below)))) (sub_known parts n are (omega (arith, near)) (subs n (omega arith)), tt)

  known_by : (parts : List Segment) (t : Bool) → cond t 0 ((length parts + 999) / MOST_SEGMENTS) ≤ sub_manifests (length parts) → AreParts S (segments_name bucket) (id_digits id) 0 parts → HasSubManifests S (id_digits id) parts (cond t 0 ((length parts + 999) / MOST_SEGMENTS))
      → cond t 0 ((length parts + 999) / MOST_SEGMENTS) ≤ 10
      → AreKnown bucket (cond t parts (sub_segments (segments_name bucket) (id_digits id) parts (cond t 0 ((length parts + 999) / MOST_SEGMENTS)))) tree
      × (sub_manifests_in (cond t parts (sub_segments (segments_name bucket) (id_digits id) parts (cond t 0 ((length parts + 999) / MOST_SEGMENTS)))) ≤ 10)
  known_by parts true near are subs few = let known = parts_known 0 parts are in (known.0, omega (arith, known.1))
  known_by parts false near are subs few =
      let count = (length parts + 999) / MOST_SEGMENTS in
      let list = sub_segments (segments_name bucket) (id_digits id) parts count in
      let less = filter_less (λ (x : Segment). is_sub_manifest_name x.name) list in
      let size = length-sub_segments (segments_name bucket) (id_digits id) parts count in
      (subs_known parts count are near subs, omega (arith, less, size, few))

  -- each segment that a completed object lists is a part or a sub-manifest, and of these there are ten at most
  pub list_known : (listed : List Segment) → IsSegmentList S (segments_name bucket) (id_digits id) listed → AreKnown bucket listed tree × (sub_manifests_in listed ≤ 10)
  unfolding listing_by
  list_known listed list =
      subst (λ l. AreKnown bucket l tree × (sub_manifests_in l ≤ 10)) (sym list.lists)
      (known_by list.parts (nat_le (length list.parts) MOST_SEGMENTS) (omega arith) list.are list.subs (sub_manifests_few (length list.parts) list.few))
