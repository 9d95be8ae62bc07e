-- How many calls a survey makes: each container is gone through as itself, and once more with its bucket.
use Rattle.std.specs.Prelude.{◌≡◌, ◌≤◌, ◌+◌, ◌*◌, ℕ, Bool, true, false, cond, is_some, codes, List, [], ◌∷◌, ◌++◌, length, take, sum_by, Option, None, Some}
use Rattle.std.specs.Ordering.{eq_by_cmp}
use Rattle.std.specs.FinMap.{contains_key-keys, get, keys, len, len-empty}
use Rattle.std.proofs.Common.{refl, sym, ap, ◌∙◌, inr, arith, true≢false}
use Rattle.std.proofs.lemmas.List.{length-append}
use Rattle.std.proofs.lemmas.List.Sums.{sum_by-cons}
use Rattle.gate_base.specs.Maps.{name_cmp}
use Rattle.gate_base.proofs.lemmas.Maps.{by_name, key_itself}
use Rattle.s3_names.specs.Bucket.{is_bucket}
use Rattle.swift_calls.specs.Account.{SwiftAccount, SwiftContainer, SwiftObject, files, files_of}
use Rattle.upload_records.specs.Layout.{segments_name, uploads_name}
use Rattle.upload_records.proofs.lemmas.Sides.{bucket_segments, bucket_uploads}
use Rattle.account_calls.specs.Answers.{pages}
use Rattle.account_calls.proofs.lemmas.Walk.{length-keys}
use Rattle.leftovers.specs.declared.sides.Kind.TheVariants.{Segments}
use Rattle.leftovers.specs.Sides.{bucket_beside, without_last}
use Rattle.sweep.specs.Surveying.{calls_by, calls_of_side, share_calls, shares_calls}
use Rattle.sweep.specs.Swept.{account_calls, files_in}
use Rattle.sweep.proofs.Named.{told_side}
use Rattle.sweep.proofs.NameSums.{is_one_of, keys_differ, sum_led, sum_plus, sum_same}

-- ---- the names beside a bucket

take_front : {X : Type 0} (xs ys : List X) → take (length xs) (xs ++ ys) ≡ xs
take_front [] [] = refl
take_front [] (y ∷ ys) = refl
take_front (x ∷ xs) ys = ap (λ l. x ∷ l) (take_front xs ys)

pub without_uploads : (b : List ℕ) → without_last 8 (uploads_name b) ≡ b
unfolding uploads_name
without_uploads b = ap (λ n. take n (b ++ codes "+uploads")) (omega (arith, length-append b (codes "+uploads"))) ∙ take_front b (codes "+uploads")

pub without_segments : (b : List ℕ) → without_last 9 (segments_name b) ≡ b
unfolding segments_name
without_segments b = ap (λ n. take n (b ++ codes "+segments")) (omega (arith, length-append b (codes "+segments"))) ∙ take_front b (codes "+segments")

-- none of them is a bucket's
no_bucket : (name : List ℕ) → (is_bucket name ≡ true → eq_by_cmp name_cmp name name ≡ false) → is_bucket name ≡ false
no_bucket name apart = by (is_bucket name) refl
  where
    by : (t : Bool) → is_bucket name ≡ t → t ≡ false
    by true e = absurd (true≢false (sym (key_itself by_name name) ∙ apart e))
    by false e = refl

pub uploads_no_bucket : (b : List ℕ) → is_bucket (uploads_name b) ≡ false
uploads_no_bucket b = no_bucket (uploads_name b) (bucket_uploads (uploads_name b) b)

pub segments_no_bucket : (b : List ℕ) → is_bucket (segments_name b) ≡ false
segments_no_bucket b = no_bucket (segments_name b) (bucket_segments (segments_name b) b)

-- ---- what is bounded name by name is bounded in the sum

bounded : (f a b c d : List ℕ → ℕ) (ks : List (List ℕ)) → ((k : List ℕ) → f k ≤ 5 + 12 * a k + 12 * b k + c k + d k)
    → sum_by f ks ≤ 5 * length ks + 12 * sum_by a ks + 12 * sum_by b ks + sum_by c ks + sum_by d ks
bounded f a b c d [] each = omega arith
bounded f a b c d (k ∷ ks) each =
    let one = each k in
    let rest = bounded f a b c d ks each in
    omega (arith, one, rest, sum_by-cons f k ks, sum_by-cons a k ks, sum_by-cons b k ks, sum_by-cons c k ks, sum_by-cons d k ks)

-- ---- the files of the containers

none_len : (o : Option SwiftContainer) → is_some o ≡ false → len (files_of o) ≡ 0
none_len None e = len-empty name_cmp SwiftObject
none_len (Some folder) e = cc

-- a container that isn't there has none
pub not_there : (tree : SwiftAccount) (name : List ℕ) → is_one_of name (keys tree) ≡ false → is_some (get tree name) ≡ false
not_there tree name other = contains_key-keys tree name ∙ other

module _ (tree : SwiftAccount) where
  abbrev sizes : List ℕ → ℕ
  sizes name = len (files tree name)

  abbrev own : List ℕ → ℕ
  own name = cond (is_bucket name) (sizes name) 0

  abbrev beside : List ℕ → ℕ
  beside name = cond (is_bucket name) 0 (sizes name)

  abbrev uploads : List ℕ → ℕ
  uploads name = cond (is_bucket name) (sizes (uploads_name name)) 0

  abbrev segments : List ℕ → ℕ
  segments name = cond (is_bucket name) (sizes (segments_name name)) 0

  side_paid : (name : List ℕ) (o : Option (List ℕ)) → bucket_beside Segments name ≡ o → calls_of_side tree o ≤ 5 + 12 * 0 + 12 * 0 + 0 + sizes name
  side_paid name None e = omega arith
  side_paid name (Some bucket) e = let same : sizes name ≡ sizes (segments_name bucket) = ap sizes (told_side Segments name bucket e).1 in omega (arith, same)

  share_paid : (name : List ℕ) → share_calls tree name ≤ 5 + 12 * own name + 12 * uploads name + segments name + beside name
  share_paid name = elim (is_bucket name) as (λ t. calls_by t tree name ≤ 5 + 12 * cond t (sizes name) 0 + 12 * cond t (sizes (uploads_name name)) 0 + cond t (sizes (segments_name name)) 0 + cond t 0 (sizes name)) [
    | true ↦ omega arith
    | false ↦ side_paid name (bucket_beside Segments name) refl
  ]

  both_are : sum_by own (keys tree) + sum_by beside (keys tree) ≡ files_in tree
  both_are = sym (sum_plus own beside (keys tree)) ∙ sum_same (λ name. own name + beside name) sizes (keys tree) one
    where
      one : (name : List ℕ) → own name + beside name ≡ sizes name
      one name = elim (is_bucket name) as (λ t. cond t (sizes name) 0 + cond t 0 (sizes name) ≡ sizes name) [ true ↦ omega arith | false ↦ omega arith ]

  none_beside : (name : List ℕ) → is_one_of name (keys tree) ≡ false → beside name ≡ 0
  none_beside name other =
      let none = none_len (get tree name) (not_there tree name other) in
      elim (is_bucket name) as (λ t. cond t 0 (sizes name) ≡ 0) [ true ↦ refl | false ↦ none ]

  led_within : (name side : List ℕ) → is_bucket side ≡ false → cond (is_bucket name) (sizes side) 0 ≤ beside side
  led_within name side isnt =
      let whole : beside side ≡ sizes side = ap (λ t. cond t 0 (sizes side)) isnt in
      elim (is_bucket name) as (λ t. cond t (sizes side) 0 ≤ beside side) [ true ↦ omega (arith, whole) | false ↦ omega arith ]

  uploads_few : sum_by uploads (keys tree) ≤ sum_by beside (keys tree)
  uploads_few = sum_led uploads_name (without_last 8) (keys tree) uploads beside
      (record { within = λ name. led_within name (uploads_name name) (uploads_no_bucket name); returns = λ name. inr (without_uploads name) }) none_beside (keys tree) (keys_differ tree)

  segments_few : sum_by segments (keys tree) ≤ sum_by beside (keys tree)
  segments_few = sum_led segments_name (without_last 9) (keys tree) segments beside
      (record { within = λ name. led_within name (segments_name name) (segments_no_bucket name); returns = λ name. inr (without_segments name) }) none_beside (keys tree) (keys_differ tree)

  -- what is sealed, the names, and the containers one by one
  pub survey_paid : 1 + (pages (len tree) + shares_calls tree (keys tree)) ≤ account_calls tree
  survey_paid =
      let all = bounded (share_calls tree) own uploads segments beside (keys tree) share_paid in
      omega (arith, all, both_are, uploads_few, segments_few, length-keys tree)
