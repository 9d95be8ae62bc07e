-- How many calls the forgetting beside all buckets takes: at most one for each container and three for each file.
use Rattle.std.specs.Prelude.{◌≡◌, ◌≤◌, ◌+◌, ◌*◌, ℕ, Bool, true, false, cond, sum_by, List, [], ◌∷◌, length, Option, None, Some}
use Rattle.std.specs.List.{filter}
use Rattle.std.specs.FinMap.{contains_key-keys, keys, len}
use Rattle.std.proofs.Common.{refl, sym, ap, ◌∙◌, arith}
use Rattle.std.proofs.lemmas.List.Sums.{sum_by-cons}
use Rattle.s3_names.specs.Bucket.{is_bucket}
use Rattle.swift_calls.specs.Account.{SwiftAccount, files}
use Rattle.upload_records.specs.Layout.{uploads_name}
use Rattle.upload_records.specs.Consistent.{IsConsistent, IsThere}
use Rattle.upload_records.proofs.lemmas.Beside.{records_there}
use Rattle.account_calls.proofs.lemmas.Ascending.{keys_ascend}
use Rattle.account_calls.proofs.lemmas.Walk.{length-keys}
use Rattle.sweep.specs.Aging.{aging_calls, forget_calls, names_forget_calls}
use Rattle.leftovers.specs.Sides.{Side, beside_records, beside_segments, side_of}
use Rattle.sweep.specs.Swept.{files_in}
use Rattle.sweep.proofs.Charges.{charge, charges}
use Rattle.sweep.proofs.NamesSwept.{is_in}
use Rattle.sweep.proofs.SideNames.{uploads_have_side}

module _ (tree : SwiftAccount) where
  abbrev own : List ℕ → ℕ
  own n = len (files tree n)

  abbrev to_records : List ℕ → ℕ
  to_records = charge own is_bucket uploads_name

  abbrev back_by : List ℕ → Option Side → List ℕ
  back_by n None = n
  back_by n (Some (beside_records b)) = b
  back_by n (Some (beside_segments b)) = b

  abbrev back : List ℕ → List ℕ
  back n = back_by n (side_of n)

  few : (n : ℕ) → aging_calls n ≤ 1 + 3 * n
  few n = omega arith

  each : (names : List (List ℕ)) → sum_by (λ bucket. forget_calls bucket tree) (filter is_bucket names) ≤ length names + 3 * sum_by to_records names
  each [] = omega arith
  each (n ∷ names) = by (is_bucket n) refl (each names)
    where
      by : (t : Bool) → is_bucket n ≡ t → sum_by (λ bucket. forget_calls bucket tree) (filter is_bucket names) ≤ length names + 3 * sum_by to_records names
          → sum_by (λ bucket. forget_calls bucket tree) (filter is_bucket (n ∷ names)) ≤ length (n ∷ names) + 3 * sum_by to_records (n ∷ names)
      by true is rest =
          let one = few (own (uploads_name n)) in
          let charged : to_records n ≡ own (uploads_name n) = ap (λ t. cond t (own (uploads_name n)) 0) is in
          let split : sum_by (λ bucket. forget_calls bucket tree) (filter is_bucket (n ∷ names)) ≡ forget_calls n tree + sum_by (λ bucket. forget_calls bucket tree) (filter is_bucket names) =
          ap (λ t. sum_by (λ bucket. forget_calls bucket tree) (cond t (n ∷ filter is_bucket names) (filter is_bucket names))) is ∙ sum_by-cons (λ bucket. forget_calls bucket tree) n (filter is_bucket names) in
          omega (arith, rest, one, charged, split, sum_by-cons to_records n names)
      by false not rest =
          let split : sum_by (λ bucket. forget_calls bucket tree) (filter is_bucket (n ∷ names)) ≡ sum_by (λ bucket. forget_calls bucket tree) (filter is_bucket names) =
          ap (λ t. sum_by (λ bucket. forget_calls bucket tree) (cond t (n ∷ filter is_bucket names) (filter is_bucket names))) not in
          omega (arith, rest, split, sum_by-cons to_records n names)

  back_is : (n : List ℕ) → is_bucket n ≡ true → back (uploads_name n) ≡ n
  back_is n is = ap (back_by (uploads_name n)) (uploads_have_side n is)

  there_in : (n : List ℕ) → IsThere tree n → is_in (keys tree) n ≡ true
  there_in n there = sym (contains_key-keys tree n) ∙ there

  in_there : (n : List ℕ) → is_in (keys tree) n ≡ true → IsThere tree n
  in_there n here = contains_key-keys tree n ∙ here

  pub forget_within : IsConsistent tree → names_forget_calls (keys tree) tree ≤ len tree + 3 * files_in tree
  forget_within sound =
      let all = each (keys tree) in
      let charged = charges own is_bucket uploads_name back back_is (keys tree) (keys tree) (keys_ascend tree) (λ n here is. there_in (uploads_name n) (records_there tree n sound is (in_there n here))) in
      let files_are : files_in tree ≡ sum_by own (keys tree) = refl in
      omega (arith, all, charged, files_are, length-keys tree)
