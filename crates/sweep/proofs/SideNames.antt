-- Beside which bucket a container stands, by its name: one beside a bucket tells its bucket, and the bucket's own and the gateway's
-- stand beside none.
use Rattle.std.specs.Prelude.{◌≡◌, ◌-◌, ◌&&◌, ℕ, Bool, true, false, cond, bytes_eq, codes, List, ◌++◌, length, take, Option, None, Some}
use Rattle.std.specs.Ordering.{eq_by_cmp}
use Rattle.std.proofs.Common.{refl, sym, ap, subst, ◌∙◌, arith, true≢false}
use Rattle.std.proofs.Math.Seq.{take-append_seam}
use Rattle.std.proofs.lemmas.Bool.{and_parts}
use Rattle.std.proofs.lemmas.List.{length-append}
use Rattle.std.proofs.lemmas.Map.Text.{is_eq-slice_cmp}
use Rattle.std.proofs.lemmas.Slice.Eq.{bytes_eq-Decides}
use Rattle.gate_base.specs.Maps.{name_cmp}
use Rattle.s3_names.specs.Bucket.{is_bucket}
use Rattle.upload_records.specs.Layout.{gateway_name, segments_name, uploads_name}
use Rattle.upload_records.proofs.lemmas.Sides.{bucket_segments, bucket_uploads, gateway_segments, gateway_uploads, segments_uploads}
use Rattle.leftovers.specs.Sides.{Side, beside_records, beside_segments, is_segments_of, is_uploads_of, side_of, without_last}
use Rattle.leftovers.proofs.lemmas.Consistency.{none_found}

pub bytes_apart : (n m : List ℕ) → eq_by_cmp name_cmp n m ≡ false → bytes_eq n m ≡ false
bytes_apart n m apart = sym (is_eq-slice_cmp n m) ∙ apart

bytes_same : (n : List ℕ) → bytes_eq n n ≡ true
bytes_same n = (bytes_eq-Decides n n).1 refl

and_false : (a b : Bool) → (a ≡ true → b ≡ false) → (a && b) ≡ false
and_false true b not = not refl
and_false false b not = refl

-- ---- names that stand beside no bucket

module _ (n : List ℕ) where
  off_uploads : ((b : List ℕ) → is_bucket b ≡ true → bytes_eq n (uploads_name b) ≡ false) → is_uploads_of (without_last 8 n) n ≡ false
  off_uploads off = and_false (is_bucket (without_last 8 n)) (bytes_eq n (uploads_name (without_last 8 n))) (off (without_last 8 n))

  off_segments : ((b : List ℕ) → is_bucket b ≡ true → bytes_eq n (segments_name b) ≡ false) → is_segments_of (without_last 9 n) n ≡ false
  off_segments off = and_false (is_bucket (without_last 9 n)) (bytes_eq n (segments_name (without_last 9 n))) (off (without_last 9 n))

  side_by_segments : is_uploads_of (without_last 8 n) n ≡ false → side_of n ≡ cond (is_segments_of (without_last 9 n) n) (Some (beside_segments (without_last 9 n))) None
  side_by_segments off = ap (λ t. cond t (Some (beside_records (without_last 8 n))) (cond (is_segments_of (without_last 9 n) n) (Some (beside_segments (without_last 9 n))) None)) off

  no_side : ((b : List ℕ) → is_bucket b ≡ true → bytes_eq n (uploads_name b) ≡ false) → ((b : List ℕ) → is_bucket b ≡ true → bytes_eq n (segments_name b) ≡ false) → side_of n ≡ None
  no_side uploads segments = side_by_segments (off_uploads uploads) ∙ ap (λ t. cond t (Some (beside_segments (without_last 9 n))) None) (off_segments segments)

pub bucket_no_side : (b : List ℕ) → is_bucket b ≡ true → side_of b ≡ None
bucket_no_side b is = no_side b (λ c is_c. bytes_apart b (uploads_name c) (bucket_uploads b c is)) (λ c is_c. bytes_apart b (segments_name c) (bucket_segments b c is))

pub gateway_no_side : side_of gateway_name ≡ None
gateway_no_side = no_side gateway_name (λ c is. bytes_apart gateway_name (uploads_name c) (gateway_uploads c is)) (λ c is. bytes_apart gateway_name (segments_name c) (gateway_segments c is))

-- ---- the two beside a bucket

last_off : (b more : List ℕ) (n : ℕ) → length more ≡ n → without_last n (b ++ more) ≡ b
last_off b more n long =
    let near : length (b ++ more) - n ≡ length b = omega (arith, length-append b more, long) in
    ap (λ k. take k (b ++ more)) near ∙ take-append_seam b more

last_uploads : (b : List ℕ) → without_last 8 (uploads_name b) ≡ b
unfolding uploads_name
last_uploads b = last_off b (codes "+uploads") 8 refl

last_segments : (b : List ℕ) → without_last 9 (segments_name b) ≡ b
unfolding segments_name
last_segments b = last_off b (codes "+segments") 9 refl

module _ (b : List ℕ) (is : is_bucket b ≡ true) where
  pub uploads_have_side : side_of (uploads_name b) ≡ Some (beside_records b)
  uploads_have_side =
      let rest = cond (is_segments_of (without_last 9 (uploads_name b)) (uploads_name b)) (Some (beside_segments (without_last 9 (uploads_name b)))) None in
      ap (λ c. cond (is_uploads_of c (uploads_name b)) (Some (beside_records c)) rest) (last_uploads b)
      ∙ ap (λ t. cond (t && bytes_eq (uploads_name b) (uploads_name b)) (Some (beside_records b)) rest) is
      ∙ ap (λ t. cond t (Some (beside_records b)) rest) (bytes_same (uploads_name b))

  pub segments_have_side : side_of (segments_name b) ≡ Some (beside_segments b)
  segments_have_side =
      side_by_segments (segments_name b) (off_uploads (segments_name b) (λ c is_c. bytes_apart (segments_name b) (uploads_name c) (segments_uploads b c is is_c)))
      ∙ ap (λ c. cond (is_segments_of c (segments_name b)) (Some (beside_segments c)) None) (last_segments b)
      ∙ ap (λ t. cond (t && bytes_eq (segments_name b) (segments_name b)) (Some (beside_segments b)) None) is
      ∙ ap (λ t. cond t (Some (beside_segments b)) None) (bytes_same (segments_name b))

-- ---- what a side tells of the name

abbrev bucket_in : List ℕ → Option Side → List ℕ
bucket_in d None = d
bucket_in d (Some (beside_records b)) = b
bucket_in d (Some (beside_segments b)) = b

abbrev is_of_records : Option Side → Bool
is_of_records None = false
is_of_records (Some (beside_records b)) = true
is_of_records (Some (beside_segments b)) = false

same_name : (n m : List ℕ) → bytes_eq n m ≡ true → n ≡ m
same_name n m e = (bytes_eq-Decides n m).0 e

module _ (n b : List ℕ) where
  pub records_side : side_of n ≡ Some (beside_records b) → (is_bucket b ≡ true) × (n ≡ uploads_name b)
  records_side side = by (is_uploads_of (without_last 8 n) n) (is_segments_of (without_last 9 n) n) refl side
    where
      by : (t s : Bool) → is_uploads_of (without_last 8 n) n ≡ t → cond t (Some (beside_records (without_last 8 n))) (cond s (Some (beside_segments (without_last 9 n))) None) ≡ Some (beside_records b) → (is_bucket b ≡ true) × (n ≡ uploads_name b)
      by true s is same =
          let parts = and_parts (is_bucket (without_last 8 n)) (bytes_eq n (uploads_name (without_last 8 n))) is in
          subst (λ c. (is_bucket c ≡ true) × (n ≡ uploads_name c)) (ap (bucket_in b) same) (parts.0, same_name n (uploads_name (without_last 8 n)) parts.1)
      by false true is same = absurd (true≢false (sym (ap is_of_records same)))
      by false false is never = absurd (none_found (beside_records b) never)

  pub segments_side : side_of n ≡ Some (beside_segments b) → (is_bucket b ≡ true) × (n ≡ segments_name b)
  segments_side side = by (is_uploads_of (without_last 8 n) n) (is_segments_of (without_last 9 n) n) refl side
    where
      by : (t s : Bool) → is_segments_of (without_last 9 n) n ≡ s → cond t (Some (beside_records (without_last 8 n))) (cond s (Some (beside_segments (without_last 9 n))) None) ≡ Some (beside_segments b) → (is_bucket b ≡ true) × (n ≡ segments_name b)
      by true s is same = absurd (true≢false (ap is_of_records same))
      by false true is same =
          let parts = and_parts (is_bucket (without_last 9 n)) (bytes_eq n (segments_name (without_last 9 n))) is in
          subst (λ c. (is_bucket c ≡ true) × (n ≡ segments_name c)) (ap (bucket_in b) same) (parts.0, same_name n (segments_name (without_last 9 n)) parts.1)
      by false false is never = absurd (none_found (beside_segments b) never)
