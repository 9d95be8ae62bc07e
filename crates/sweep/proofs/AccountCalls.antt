-- A sweep of an account makes at most a fixed number of calls for each container and each file.
use Rattle.std.specs.Prelude.{◌≡◌, ◌≤◌, ◌+◌, ◌*◌, ◌/◌, ℕ, Bool, true, false, cond, sum_by, List, is_some, Option, None, Some}
use Rattle.std.specs.FinMap.{contains_key-keys, get, keys, len}
use Rattle.std.proofs.Common.{refl, sym, ap, subst, ◌∙◌, arith, true≢false}
use Rattle.s3_names.specs.Bucket.{is_bucket}
use Rattle.swift_calls.specs.Account.{SwiftAccount, files}
use Rattle.upload_records.specs.Layout.{segments_name, uploads_name}
use Rattle.upload_records.specs.Consistent.{IsConsistent, IsThere}
use Rattle.upload_records.proofs.lemmas.Beside.{records_there}
use Rattle.account_calls.specs.Answers.{pages}
use Rattle.account_calls.proofs.lemmas.Ascending.{keys_ascend}
use Rattle.account_calls.proofs.lemmas.Walk.{length-keys}
use Rattle.leftovers.specs.declared.sides.Kind.TheVariants.{Records, Segments}
use Rattle.sweep.specs.Containers.{calls_beside, calls_by_side, name_calls}
use Rattle.leftovers.specs.Sides.{Side, beside_records, beside_segments, side_of}
use Rattle.sweep.specs.Swept.{account_calls, files_in}
use Rattle.sweep.specs.Walk.{names_calls}
use Rattle.sweep.proofs.Charges.{charge, charges, sums, three_within}
use Rattle.sweep.proofs.NamesSwept.{is_in}
use Rattle.sweep.proofs.SideNames.{bucket_no_side, records_side, segments_side, uploads_have_side}

module _ (tree : SwiftAccount) where
  -- the files of a container
  abbrev own : List ℕ → ℕ
  own n = len (files tree n)

  -- those of buckets, and those of records beside buckets that are there, by the side of the name
  abbrev of_bucket : ℕ → Option Side → ℕ
  of_bucket n None = n
  of_bucket n (Some (beside_records b)) = 0
  of_bucket n (Some (beside_segments b)) = 0

  abbrev of_records : ℕ → Option Side → ℕ
  of_records n None = 0
  of_records n (Some (beside_records b)) = cond (is_some (get tree b)) n 0
  of_records n (Some (beside_segments b)) = 0

  -- and the others, which their own container pays for
  abbrev of_others : ℕ → Option Side → ℕ
  of_others n None = 0
  of_others n (Some (beside_records b)) = cond (is_some (get tree b)) 0 n
  of_others n (Some (beside_segments b)) = n

  abbrev objects : List ℕ → ℕ
  objects n = of_bucket (own n) (side_of n)

  abbrev records : List ℕ → ℕ
  records n = of_records (own n) (side_of n)

  abbrev others : List ℕ → ℕ
  others n = of_others (own n) (side_of n)

  one_of_two : (t : Bool) (n : ℕ) → 0 + cond t n 0 + cond t 0 n ≤ n
  one_of_two true n = omega arith
  one_of_two false n = omega arith

  apart_by : (n : ℕ) (s : Option Side) → of_bucket n s + of_records n s + of_others n s ≤ n
  apart_by n None = omega arith
  apart_by n (Some (beside_records b)) = one_of_two (is_some (get tree b)) n
  apart_by n (Some (beside_segments b)) = omega arith

  -- ---- the segments of a bucket that is there are charged to it, and to its records

  abbrev charged_by : Option Side → Bool
  charged_by None = false
  charged_by (Some (beside_records b)) = false
  charged_by (Some (beside_segments b)) = is_some (get tree b)

  abbrev bucket_by : List ℕ → Option Side → List ℕ
  bucket_by n None = n
  bucket_by n (Some (beside_records b)) = b
  bucket_by n (Some (beside_segments b)) = b

  abbrev charged : List ℕ → Bool
  charged n = charged_by (side_of n)

  abbrev bucket : List ℕ → List ℕ
  bucket n = bucket_by n (side_of n)

  abbrev uploads : List ℕ → List ℕ
  uploads n = uploads_name (bucket n)

  -- what is charged is one of segments beside a bucket that is there
  record Charged (n : List ℕ) : Type 0 where
    is : is_bucket (bucket n) ≡ true
    named : segments_name (bucket n) ≡ n
    there : IsThere tree (bucket n)

  charged_is : (n : List ℕ) → charged n ≡ true → Charged n
  charged_is n so = by (side_of n) refl so
    where
      by : (s : Option Side) → side_of n ≡ s → charged_by s ≡ true → Charged n
      by None e never = absurd (true≢false (sym never))
      by (Some (beside_records b)) e never = absurd (true≢false (sym never))
      by (Some (beside_segments b)) e there =
          let told = segments_side n b e in
          let same : b ≡ bucket n = sym (ap (bucket_by n) e) in
          record {
            is = subst (λ c. is_bucket c ≡ true) same told.0;
            named = ap segments_name (sym same) ∙ sym told.1;
            there = subst (IsThere tree) same there;
          }

  objects_of : (b : List ℕ) → is_bucket b ≡ true → objects b ≡ own b
  objects_of b is = ap (of_bucket (own b)) (bucket_no_side b is)

  records_of : (b : List ℕ) → is_bucket b ≡ true → is_some (get tree b) ≡ true → records (uploads_name b) ≡ own (uploads_name b)
  records_of b is there = ap (of_records (own (uploads_name b))) (uploads_have_side b is) ∙ ap (λ t. cond t (own (uploads_name b)) 0) there

  -- ---- what a container costs

  abbrev to_objects : List ℕ → ℕ
  to_objects = charge objects charged bucket

  abbrev to_records : List ℕ → ℕ
  to_records = charge records charged uploads

  beside_missing : (n folder : List ℕ) → n ≡ folder → others n ≡ own n → 1 + (pages (len (files tree folder)) + len (files tree folder) + 1) ≤ 5 + 4 * others n
  beside_missing n folder named all = let same : own n ≡ len (files tree folder) = ap own named in omega (arith, same, all)

  segments_there : (n b : List ℕ) → is_bucket b ≡ true → n ≡ segments_name b → side_of n ≡ Some (beside_segments b) → is_some (get tree b) ≡ true
      → 1 + calls_beside true tree Segments b ≤ 5 + 4 * others n + 12 * to_objects n + 12 * to_records n
  segments_there n b is named side there =
      let so : charged n ≡ true = ap charged_by side ∙ there in
      let at : bucket n ≡ b = ap (bucket_by n) side in
      let objects_are : to_objects n ≡ own b = ap (λ t. cond t (objects (bucket n)) 0) so ∙ ap objects at ∙ objects_of b is in
      let records_are : to_records n ≡ own (uploads_name b) = ap (λ t. cond t (records (uploads n)) 0) so ∙ ap (λ c. records (uploads_name c)) at ∙ records_of b is there in
      let segments_are : others n ≡ own (segments_name b) = ap (of_others (own n)) side ∙ ap own named in
      let calls : calls_beside true tree Segments b ≡ (own (uploads_name b) / 1000 + 1 + 11 * own (uploads_name b)) + (own b / 1000 + 1 + 11 * own b) + (own (segments_name b) / 1000 + 1 + 2 * own (segments_name b)) + (own (segments_name b) / 1000 + 1 + own (segments_name b)) = refl in
      omega (arith, objects_are, records_are, segments_are, calls)

  most : (n : List ℕ) → name_calls tree n ≤ 5 + 4 * others n + 12 * to_objects n + 12 * to_records n
  most n = by (side_of n) refl
    where
      records_by : (b : List ℕ) → n ≡ uploads_name b → side_of n ≡ Some (beside_records b) → (t : Bool) → is_some (get tree b) ≡ t → 1 + calls_beside t tree Records b ≤ 5 + 4 * others n + 12 * to_objects n + 12 * to_records n
      records_by b named side true there = omega arith
      records_by b named side false missing =
          let few = beside_missing n (uploads_name b) named (ap (of_others (own n)) side ∙ ap (λ t. cond t 0 (own n)) missing) in
          omega (arith, few)

      segments_by : (b : List ℕ) → is_bucket b ≡ true → n ≡ segments_name b → side_of n ≡ Some (beside_segments b) → (t : Bool) → is_some (get tree b) ≡ t → 1 + calls_beside t tree Segments b ≤ 5 + 4 * others n + 12 * to_objects n + 12 * to_records n
      segments_by b is named side true there = segments_there n b is named side there
      segments_by b is named side false missing = let few = beside_missing n (segments_name b) named (ap (of_others (own n)) side) in omega (arith, few)

      by : (s : Option Side) → side_of n ≡ s → calls_by_side tree s ≤ 5 + 4 * others n + 12 * to_objects n + 12 * to_records n
      by None e = omega arith
      by (Some (beside_records b)) e = records_by b (records_side n b e).1 e (is_some (get tree b)) refl
      by (Some (beside_segments b)) e = let told = segments_side n b e in segments_by b told.0 told.1 e (is_some (get tree b)) refl

  -- ---- and all of them

  there_in : (n : List ℕ) → IsThere tree n → is_in (keys tree) n ≡ true
  there_in n there = sym (contains_key-keys tree n) ∙ there

  abbrev segments_by_uploads : List ℕ → List ℕ
  segments_by_uploads m = segments_name (bucket_by m (side_of m))

  pub names_within : IsConsistent tree → names_calls tree (keys tree) ≤ 5 * len tree + 12 * files_in tree
  names_within sound =
      let all = sums (name_calls tree) others to_objects to_records most (keys tree) in
      let by_objects = charges objects charged bucket segments_name (λ n so. (charged_is n so).named) (keys tree) (keys tree) (keys_ascend tree) (λ n here so. there_in (bucket n) (charged_is n so).there) in
      let by_records = charges records charged uploads segments_by_uploads
      (λ n so. ap (λ s. segments_name (bucket_by (uploads n) s)) (uploads_have_side (bucket n) (charged_is n so).is) ∙ (charged_is n so).named)
      (keys tree) (keys tree) (keys_ascend tree) (λ n here so. there_in (uploads n) (records_there tree (bucket n) sound (charged_is n so).is (charged_is n so).there)) in
      let three = three_within objects records others own (λ n. apart_by (own n) (side_of n)) (keys tree) in
      let files_are : files_in tree ≡ sum_by own (keys tree) = refl in
      omega (arith, all, by_objects, by_records, three, files_are, length-keys tree)

  pub account_within : IsConsistent tree → pages (len tree) + names_calls tree (keys tree) ≤ account_calls tree
  account_within sound = within_by (len tree) (names_calls tree (keys tree)) (files_in tree) (names_within sound)
    where
      within_by : (c calls n : ℕ) → calls ≤ 5 * c + 12 * n → pages c + calls ≤ 4 + 16 * (c + n)
      within_by c calls n few = omega (arith, few)
