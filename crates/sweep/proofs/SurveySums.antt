-- What the containers have together is what stands on the account.
use Rattle.std.specs.Prelude.{◌≡◌, ◌≤◌, ◌+◌, ◌⊎◌, ℕ, Bool, true, false, cond, not, is_some, List, [], ◌∷◌, length, sum_by, Option, None, Some}
use Rattle.std.specs.List.{AllByRecursion, filter}
use Rattle.std.specs.Ordering.{eq_by_cmp}
use Rattle.std.specs.FinMap.{entries, get, keys, len, len-empty, len-entries}
use Rattle.std.proofs.Common.{refl, sym, ap, ◌∙◌, inl, inr, arith, true≢false}
use Rattle.std.proofs.lemmas.List.Sums.{sum_by-cons}
use Rattle.std.proofs.lemmas.Bool.{and_from}
use Rattle.std.proofs.lemmas.Map.Text.{is_eq-slice_cmp}
use Rattle.gate_base.specs.Maps.{Names, name_cmp}
use Rattle.gate_base.proofs.lemmas.Maps.{by_name, key_itself}
use Rattle.s3_names.specs.Bucket.{is_bucket}
use Rattle.swift_calls.specs.Account.{SwiftAccount, SwiftContainer, SwiftObject, files, files_of}
use Rattle.upload_records.specs.Layout.{segments_name, uploads_name}
use Rattle.upload_records.specs.Native.{seal_of}
use Rattle.upload_records.proofs.lemmas.Sides.{bucket_segments, uploads_segments}
use Rattle.account_calls.proofs.lemmas.Markers.{IsKey, keys_are}
use Rattle.leftovers.specs.declared.sides.Kind.TheVariants.{Records, Segments}
use Rattle.sweep.specs.declared.counting.Surveyed.{Surveyed}
use Rattle.leftovers.specs.Sides.{bucket_beside, is_side_of, Side, beside_records, beside_segments, without_last}
use Rattle.sweep.specs.Forgetting.{buckets_in, count_records}
use Rattle.leftovers.specs.Leftovers.{all_if, count_files, is_open, is_orphan, left_by, left_in, left_there, leftovers}
use Rattle.sweep.specs.Surveying.{orphans_beside, share_by, share_of, share_of_side, shares_of, stray_orphans}
use Rattle.sweep.specs.Swept.{is_done, survey_of}
use Rattle.sweep.proofs.Named.{side_none, side_records, side_segments, told_side}
use Rattle.sweep.proofs.NameSums.{Leads, keys_differ, length_filter, sum_filter, sum_led, sum_plus, sum_same}
use Rattle.sweep.proofs.SurveyCalls.{not_there, without_segments}

-- ---- sums of names of which something holds

sum_of : {P : List ℕ → Type 0} (f g : List ℕ → ℕ) (ks : List (List ℕ)) → AllByRecursion P ks → ((k : List ℕ) → P k → f k ≡ g k) → sum_by f ks ≡ sum_by g ks
sum_of f g [] all same = refl
sum_of f g (k ∷ ks) all same = let one = same k all.0 in let rest = sum_of f g ks all.1 same in omega (arith, one, rest, sum_by-cons f k ks, sum_by-cons g k ks)

-- ---- the bucket beside which segments stand

-- a bucket stands beside none
bucket_none : (name : List ℕ) → is_bucket name ≡ true → bucket_beside Segments name ≡ None
bucket_none name is = by (bucket_beside Segments name) refl
  where
    by : (o : Option (List ℕ)) → bucket_beside Segments name ≡ o → o ≡ None
    by None e = refl
    by (Some b) e = absurd (true≢false (sym (key_itself by_name name) ∙ ap (eq_by_cmp name_cmp name) (told_side Segments name b e).1 ∙ bucket_segments name b is))

-- nor do records
records_none : (name bucket : List ℕ) → bucket_beside Records name ≡ Some bucket → bucket_beside Segments name ≡ None
records_none name bucket is = by (bucket_beside Segments name) refl
  where
    by : (o : Option (List ℕ)) → bucket_beside Segments name ≡ o → o ≡ None
    by None e = refl
    by (Some b) e =
        let first = told_side Records name bucket is in
        let then = told_side Segments name b e in
        absurd (true≢false (sym (key_itself by_name name) ∙ (λ i. eq_by_cmp name_cmp (first.1 i) (then.1 i)) ∙ uploads_segments bucket b first.0 then.0))

segments_some : (bucket : List ℕ) → is_bucket bucket ≡ true → bucket_beside Segments (segments_name bucket) ≡ Some bucket
segments_some bucket is =
    let whole : is_side_of Segments bucket (segments_name bucket) ≡ true = and_from _ _ is (sym (is_eq-slice_cmp (segments_name bucket) (segments_name bucket)) ∙ key_itself by_name (segments_name bucket)) in
    (λ i. cond (is_side_of Segments (without_segments bucket i) (segments_name bucket)) (Some (without_segments bucket i)) None) ∙ ap (λ t. cond t (Some bucket) None) whole

module _ (tree : SwiftAccount) where
  abbrev orphans : List ℕ → ℕ
  orphans bucket = orphans_beside tree bucket

  -- ---- what one container has

  abbrev by_side : Option (List ℕ) → ℕ
  by_side None = 0
  by_side (Some bucket) = orphans bucket

  abbrev by_stray : Option (List ℕ) → ℕ
  by_stray None = 0
  by_stray (Some bucket) = stray_orphans tree bucket

  abbrev by_there : Option (List ℕ) → ℕ
  by_there None = 0
  by_there (Some bucket) = all_if (is_some (get tree bucket)) (orphans bucket)

  none_counted : (test : List ℕ → Bool) (fs : Names SwiftObject) → len fs ≡ 0 → count_files test fs ≡ 0
  none_counted test fs none = by (entries fs) (sym (len-entries fs) ∙ none)
    where
      by : (es : List (List ℕ × SwiftObject)) → length es ≡ 0 → length (filter (λ e. test e.0) es) ≡ 0
      by [] e = refl
      by (e ∷ es) some = absurd (omega (arith, some))

  not_counted : (name : List ℕ) (test : List ℕ → Bool) → is_some (get tree name) ≡ false → count_files test (files tree name) ≡ 0
  not_counted name test none = none_counted test (files tree name) (by (get tree name) none)
    where
      by : (o : Option SwiftContainer) → is_some o ≡ false → len (files_of o) ≡ 0
      by None e = len-empty name_cmp SwiftObject
      by (Some folder) e = cc

  -- what is left over in segments
  left_segments : (name bucket : List ℕ) → name ≡ segments_name bucket → (t : Bool) → is_some (get tree name) ≡ t → (left_there t (left_by tree name (Some (beside_segments bucket)))).segments ≡ orphans bucket
  left_segments name bucket named true there = ap (λ n. count_files (is_orphan tree bucket) (files tree n)) named
  left_segments name bucket named false none = sym (not_counted name (is_orphan tree bucket) none) ∙ ap (λ n. count_files (is_orphan tree bucket) (files tree n)) named

  no_segments : (name : List ℕ) (side : Option Side) → (left_by tree name side).segments ≡ 0 → (t : Bool) → (left_there t (left_by tree name side)).segments ≡ 0
  no_segments name side none true = none
  no_segments name side none false = refl

  left_is : (name : List ℕ) → (left_in tree name).segments ≡ by_side (bucket_beside Segments name)
  left_is name = by (bucket_beside Records name) refl
    where
      other : (o : Option (List ℕ)) → bucket_beside Records name ≡ None → bucket_beside Segments name ≡ o → (left_in tree name).segments ≡ by_side o
      other None none e = ap (λ s. (left_there (is_some (get tree name)) (left_by tree name s)).segments) (side_none name none e) ∙ no_segments name None refl (is_some (get tree name))
      other (Some bucket) none e = ap (λ s. (left_there (is_some (get tree name)) (left_by tree name s)).segments) (side_segments name bucket none e) ∙ left_segments name bucket (told_side Segments name bucket e).1 (is_some (get tree name)) refl

      by : (o : Option (List ℕ)) → bucket_beside Records name ≡ o → (left_in tree name).segments ≡ by_side (bucket_beside Segments name)
      by None e = other (bucket_beside Segments name) e refl
      by (Some bucket) e =
          ap (λ s. (left_there (is_some (get tree name)) (left_by tree name s)).segments) (side_records name bucket e) ∙ no_segments name (Some (beside_records bucket)) refl (is_some (get tree name)) ∙ sym (ap by_side (records_none name bucket e))

  -- beside a bucket that is missing, or beside one that is there
  both_sides : (o : Option (List ℕ)) → by_side o ≡ by_stray o + by_there o
  both_sides None = omega arith
  both_sides (Some bucket) = elim (is_some (get tree bucket)) as (λ t. orphans bucket ≡ all_if (not t) (orphans bucket) + all_if t (orphans bucket)) [ true ↦ omega arith | false ↦ omega arith ]

  -- those that are counted with their bucket
  abbrev with_bucket : List ℕ → ℕ
  with_bucket name = cond (is_bucket name) (orphans name) 0

  abbrev with_there : List ℕ → ℕ
  with_there name = cond (is_bucket name) (all_if (is_some (get tree name)) (orphans name)) 0

  abbrev beside_there : List ℕ → ℕ
  beside_there name = by_there (bucket_beside Segments name)

  side_orphans : (o : Option (List ℕ)) → (share_of_side tree o).orphans ≡ by_stray o
  side_orphans None = refl
  side_orphans (Some bucket) = refl

  share_orphans : (name : List ℕ) → (share_of tree name).orphans ≡ with_bucket name + by_stray (bucket_beside Segments name)
  share_orphans name =
      elim (is_bucket name) as (λ t. is_bucket name ≡ t → (share_by t tree name).orphans ≡ cond t (orphans name) 0 + by_stray (bucket_beside Segments name)) [
        | true ↦ λ e. let none = ap by_stray (bucket_none name e) in omega (arith, none)
        | false ↦ λ e. let same = side_orphans (bucket_beside Segments name) in omega (arith, same)
      ] refl

  -- ---- each is counted once

  all_there : sum_by with_bucket (keys tree) ≡ sum_by with_there (keys tree)
  all_there = sum_of {P = IsKey tree} with_bucket with_there (keys tree) (keys_are tree) (λ name key. ap (λ o. cond (is_bucket name) (all_if (is_some o) (orphans name)) 0) (sym key.1))

  gone_in : (name : List ℕ) → is_some (get tree name) ≡ false → with_there name ≡ 0
  gone_in name none = ap (λ t. cond (is_bucket name) (all_if t (orphans name)) 0) none ∙ by (is_bucket name)
    where
      by : (t : Bool) → let none : ℕ = 0 in cond t none none ≡ none
      by true = refl
      by false = refl

  gone_beside : (name : List ℕ) → is_some (get tree name) ≡ false → beside_there name ≡ 0
  gone_beside name none = by (bucket_beside Segments name) refl
    where
      at : (bucket : List ℕ) → name ≡ segments_name bucket → (t : Bool) → all_if t (orphans bucket) ≡ 0
      at bucket named true = ap (λ n. count_files (is_orphan tree bucket) (files tree n)) (sym named) ∙ not_counted name (is_orphan tree bucket) none
      at bucket named false = refl

      by : (o : Option (List ℕ)) → bucket_beside Segments name ≡ o → by_there o ≡ 0
      by None e = refl
      by (Some bucket) e = at bucket (told_side Segments name bucket e).1 (is_some (get tree bucket))

  to_side : Leads segments_name (without_last 9) with_there beside_there
  to_side = record {
    within = λ name.
        elim (is_bucket name) as (λ t. is_bucket name ≡ t → cond t (all_if (is_some (get tree name)) (orphans name)) 0 ≤ beside_there (segments_name name)) [
          | true ↦ λ e. let same : beside_there (segments_name name) ≡ by_there (Some name) = ap by_there (segments_some name e) in omega (arith, same)
          | false ↦ λ e. omega arith
        ] refl;
    returns = λ name. inr (without_segments name);
  }

  to_bucket : Leads (without_last 9) segments_name beside_there with_there
  to_bucket = record { within = λ name. within name (bucket_beside Segments name) refl; returns = λ name. returns name (bucket_beside Segments name) refl }
    where
      bucket_is : (name bucket : List ℕ) → bucket_beside Segments name ≡ Some bucket → without_last 9 name ≡ bucket
      bucket_is name bucket e = ap (without_last 9) (told_side Segments name bucket e).1 ∙ without_segments bucket

      within : (name : List ℕ) (o : Option (List ℕ)) → bucket_beside Segments name ≡ o → by_there o ≤ with_there (without_last 9 name)
      within name None e = omega arith
      within name (Some bucket) e =
          let same : with_there (without_last 9 name) ≡ by_there (Some bucket) =
          ap with_there (bucket_is name bucket e) ∙ ap (λ t. cond t (all_if (is_some (get tree bucket)) (orphans bucket)) 0) (told_side Segments name bucket e).0 in
          omega (arith, same)

      returns : (name : List ℕ) (o : Option (List ℕ)) → bucket_beside Segments name ≡ o → (by_there (bucket_beside Segments name) ≡ 0) ⊎ (segments_name (without_last 9 name) ≡ name)
      returns name None e = inl (ap by_there e)
      returns name (Some bucket) e = inr (ap segments_name (bucket_is name bucket e) ∙ sym (told_side Segments name bucket e).1)

  once : sum_by with_bucket (keys tree) ≡ sum_by beside_there (keys tree)
  once =
      let more = sum_led segments_name (without_last 9) (keys tree) with_there beside_there to_side (λ name other. gone_beside name (not_there tree name other)) (keys tree) (keys_differ tree) in
      let less = sum_led (without_last 9) segments_name (keys tree) beside_there with_there to_bucket (λ name other. gone_in name (not_there tree name other)) (keys tree) (keys_differ tree) in
      omega (arith, more, less, all_there)

  abbrev strays : List ℕ → ℕ
  strays name = by_stray (bucket_beside Segments name)

  orphans_are : sum_by (λ name. (share_of tree name).orphans) (keys tree) ≡ sum_by (λ name. (left_in tree name).segments) (keys tree)
  orphans_are =
      let given = sum_same (λ name. (share_of tree name).orphans) (λ name. with_bucket name + strays name) (keys tree) share_orphans in
      let wanted = sum_same (λ name. (left_in tree name).segments) (λ name. strays name + beside_there name) (keys tree) (λ name. left_is name ∙ both_sides (bucket_beside Segments name)) in
      omega (arith, given, wanted, sum_plus with_bucket strays (keys tree), sum_plus strays beside_there (keys tree), once)

  -- ---- the buckets

  module _ (field : Surveyed → ℕ) (count : List ℕ → ℕ) (of_bucket : (name : List ℕ) → field (share_by true tree name) ≡ count name) (of_side : (o : Option (List ℕ)) → field (share_of_side tree o) ≡ 0) where
    one_share : (name : List ℕ) → field (share_of tree name) ≡ cond (is_bucket name) (count name) 0
    one_share name = elim (is_bucket name) as (λ t. field (share_by t tree name) ≡ cond t (count name) 0) [ true ↦ of_bucket name | false ↦ of_side (bucket_beside Segments name) ]

    shares_are : sum_by (λ name. field (share_of tree name)) (keys tree) ≡ sum_by count (buckets_in tree)
    shares_are = sum_same (λ name. field (share_of tree name)) (λ name. cond (is_bucket name) (count name) 0) (keys tree) one_share ∙ sym (sum_filter is_bucket count (keys tree))

  side_none_of : (field : Surveyed → ℕ) → ((n : ℕ) → field (record { buckets = 0; objects = 0; uploads = 0; kept = 0; orphans = n; sealed = false }) ≡ 0) → (o : Option (List ℕ)) → field (share_of_side tree o) ≡ 0
  side_none_of field none None = none 0
  side_none_of field none (Some bucket) = none (stray_orphans tree bucket)

  buckets_are : sum_by (λ name. (share_of tree name).buckets) (keys tree) ≡ length (buckets_in tree)
  buckets_are =
      sum_same (λ name. (share_of tree name).buckets) (λ name. cond (is_bucket name) 1 0) (keys tree) (one_share (λ s. s.buckets) (λ name. 1) (λ name. refl) (side_none_of (λ s. s.buckets) (λ n. refl)))
      ∙ sym (length_filter is_bucket (keys tree))

  left_are : (leftovers tree).segments ≡ sum_by (λ name. (left_in tree name).segments) (keys tree)
  unfolding leftovers
  left_are = refl

  -- the account
  pub survey_is : (told : Surveyed) → told ≡ shares_of tree (keys tree) → (sealed : Bool) → sealed ≡ is_some (seal_of tree)
      → record { buckets = told.buckets; objects = told.objects; uploads = told.uploads; kept = told.kept; orphans = told.orphans; sealed = sealed } ≡ survey_of tree
  survey_is told is sealed seals = λ i. record {
    buckets = (ap (λ (s : Surveyed). s.buckets) is ∙ buckets_are) i;
    objects = (ap (λ (s : Surveyed). s.objects) is ∙ shares_are (λ s. s.objects) (λ bucket. len (files tree bucket)) (λ name. refl) (side_none_of (λ s. s.objects) (λ n. refl))) i;
    uploads = (ap (λ (s : Surveyed). s.uploads) is ∙ shares_are (λ s. s.uploads) (λ bucket. count_records is_open (files tree (uploads_name bucket))) (λ name. refl) (side_none_of (λ s. s.uploads) (λ n. refl))) i;
    kept = (ap (λ (s : Surveyed). s.kept) is ∙ shares_are (λ s. s.kept) (λ bucket. count_records is_done (files tree (uploads_name bucket))) (λ name. refl) (side_none_of (λ s. s.kept) (λ n. refl))) i;
    orphans = (ap (λ (s : Surveyed). s.orphans) is ∙ orphans_are ∙ sym left_are) i;
    sealed = seals i;
  }
