-- The containers beside buckets are apart from each other, from the buckets and from the gateway's own; and the name of a part
-- tells its id and its number.
use Rattle.std.specs.Prelude.{◌≡◌, ◌≢◌, ◌==◌, ◌+◌, ◌*◌, ◌/◌, ◌%◌, ℕ, Bool, true, false, ◌||◌, cond, List, [], ◌∷◌, ◌++◌, codes, length, take}
use Rattle.std.specs.List.{list_any}
use Rattle.std.specs.Ordering.{eq_by_cmp}
use Rattle.std.proofs.Common.{refl, sym, ap, ◌∙◌, inl, inr, arith, true≢false}
use Rattle.std.proofs.lemmas.List.{append_assoc, append_cancel_left, append_cancel_right, length-append}
use Rattle.std.proofs.Math.Seq.{take-append_seam}
use Rattle.gate_base.specs.Maps.{name_cmp}
use Rattle.gate_base.proofs.lemmas.Maps.{by_name, apart, apart_back, key_itself, not_same}
use Rattle.s3_names.specs.Bucket.{is_bucket}
use Rattle.s3_names.proofs.lemmas.BucketLemmas.{bucket_has_no_plus}
use Rattle.upload_records.specs.Layout.{uploads_name, segments_name, gateway_name, segment_name, sub_manifest_name, five_digits}
use Rattle.upload_records.specs.Consistent.{IsBeside}
use Rattle.upload_records.proofs.Apart.{uploads_apart, segments_apart}

-- ---- names of containers

pub bucket_uploads : (n b : List ℕ) → is_bucket n ≡ true → eq_by_cmp name_cmp n (uploads_name b) ≡ false
bucket_uploads n b is = apart_back by_name (uploads_name b) n (uploads_apart n b is)

pub bucket_segments : (n b : List ℕ) → is_bucket n ≡ true → eq_by_cmp name_cmp n (segments_name b) ≡ false
bucket_segments n b is = apart_back by_name (segments_name b) n (segments_apart n b is)

-- what stands behind the first `+`
abbrev kind : List ℕ → List ℕ
kind [] = []
kind (c ∷ rest) = cond (c == 43) rest (kind rest)

kind_by : (t : Bool) (c : ℕ) (name rest : List ℕ) → (t || list_any (λ b. b == 43) name) ≡ false → (list_any (λ b. b == 43) name ≡ false → kind (name ++ 43 ∷ rest) ≡ rest)
    → cond t (name ++ 43 ∷ rest) (kind (name ++ 43 ∷ rest)) ≡ rest
kind_by true c name rest none later = absurd (true≢false none)
kind_by false c name rest none later = later none

kind_of : (name rest : List ℕ) → list_any (λ b. b == 43) name ≡ false → kind (name ++ 43 ∷ rest) ≡ rest
kind_of [] rest none = refl
kind_of (c ∷ name) rest none = kind_by (c == 43) c name rest none (kind_of name rest)

first_is_u : List ℕ → Bool
first_is_u [] = false
first_is_u (c ∷ rest) = c == 117

kinds_differ : codes "uploads" ≡ codes "segments" → ⊥
unfolding first_is_u
kinds_differ same = true≢false (ap first_is_u same)

pub uploads_segments : (n b : List ℕ) → is_bucket n ≡ true → is_bucket b ≡ true → eq_by_cmp name_cmp (uploads_name n) (segments_name b) ≡ false
unfolding uploads_name segments_name
uploads_segments n b is_n is = apart by_name (uploads_name n) (segments_name b) (λ e.
    kinds_differ (sym (kind_of n (codes "uploads") (bucket_has_no_plus n is_n)) ∙ ap kind e ∙ kind_of b (codes "segments") (bucket_has_no_plus b is)))

pub segments_uploads : (n b : List ℕ) → is_bucket n ≡ true → is_bucket b ≡ true → eq_by_cmp name_cmp (segments_name n) (uploads_name b) ≡ false
segments_uploads n b is_n is = apart_back by_name (uploads_name b) (segments_name n) (uploads_segments b n is is_n)

pub segments_segments : (n b : List ℕ) → eq_by_cmp name_cmp n b ≡ false → eq_by_cmp name_cmp (segments_name n) (segments_name b) ≡ false
unfolding segments_name
segments_segments n b off = apart by_name (segments_name n) (segments_name b) (λ e. not_same by_name n b off (append_cancel_right n b (codes "+segments") e))

pub uploads_uploads : (n b : List ℕ) → eq_by_cmp name_cmp n b ≡ false → eq_by_cmp name_cmp (uploads_name n) (uploads_name b) ≡ false
unfolding uploads_name
uploads_uploads n b off = apart by_name (uploads_name n) (uploads_name b) (λ e. not_same by_name n b off (append_cancel_right n b (codes "+uploads") e))

-- ---- the gateway's own

empty_is_none : is_bucket [] ≡ false
unfolding is_bucket
empty_is_none = refl

-- no bucket's name begins with a `+`, nor is it empty
not_plus : (name rest gate : List ℕ) → is_bucket name ≡ true → name ++ rest ≢ 43 ∷ gate
not_plus [] rest gate is e = true≢false (sym is ∙ empty_is_none)
not_plus (b ∷ name) rest gate is e =
    let first : b ≡ 43 = cc in
    true≢false (sym (ap (λ c. (c == 43) || list_any (λ x. x == 43) name) first) ∙ bucket_has_no_plus (b ∷ name) is)

pub gateway_uploads : (n : List ℕ) → is_bucket n ≡ true → eq_by_cmp name_cmp gateway_name (uploads_name n) ≡ false
unfolding uploads_name gateway_name
gateway_uploads n is = apart_back by_name (uploads_name n) gateway_name (apart by_name (uploads_name n) gateway_name (not_plus n (codes "+uploads") (codes "gateway") is))

pub gateway_segments : (n : List ℕ) → is_bucket n ≡ true → eq_by_cmp name_cmp gateway_name (segments_name n) ≡ false
unfolding segments_name gateway_name
gateway_segments n is = apart_back by_name (segments_name n) gateway_name (apart by_name (segments_name n) gateway_name (not_plus n (codes "+segments") (codes "gateway") is))

-- ---- one of the two beside a bucket

not_true : (t : Bool) → (t ≡ true → ⊥) → t ≡ false
not_true true never = absurd (never refl)
not_true false never = refl

module _ (c b : List ℕ) (beside : IsBeside c b) where
  pub bucket_side : (n : List ℕ) → is_bucket n ≡ true → eq_by_cmp name_cmp n c ≡ false
  bucket_side n is_n = elim (beside.is) [
    | inl e ↦ ap (eq_by_cmp name_cmp n) e ∙ bucket_uploads n b is_n
    | inr e ↦ ap (eq_by_cmp name_cmp n) e ∙ bucket_segments n b is_n
  ]

  pub uploads_side : (n : List ℕ) → is_bucket n ≡ true → eq_by_cmp name_cmp n b ≡ false → eq_by_cmp name_cmp (uploads_name n) c ≡ false
  uploads_side n is_n off = elim (beside.is) [
    | inl e ↦ ap (eq_by_cmp name_cmp (uploads_name n)) e ∙ uploads_uploads n b off
    | inr e ↦ ap (eq_by_cmp name_cmp (uploads_name n)) e ∙ uploads_segments n b is_n beside.of_bucket
  ]

  pub segments_side : (n : List ℕ) → is_bucket n ≡ true → eq_by_cmp name_cmp n b ≡ false → eq_by_cmp name_cmp (segments_name n) c ≡ false
  segments_side n is_n off = elim (beside.is) [
    | inl e ↦ ap (eq_by_cmp name_cmp (segments_name n)) e ∙ segments_uploads n b is_n beside.of_bucket
    | inr e ↦ ap (eq_by_cmp name_cmp (segments_name n)) e ∙ segments_segments n b off
  ]

  pub gateway_side : eq_by_cmp name_cmp gateway_name c ≡ false
  gateway_side = elim (beside.is) [
    | inl e ↦ ap (eq_by_cmp name_cmp gateway_name) e ∙ gateway_uploads b beside.of_bucket
    | inr e ↦ ap (eq_by_cmp name_cmp gateway_name) e ∙ gateway_segments b beside.of_bucket
  ]

  pub side_is_none : is_bucket c ≡ false
  side_is_none = not_true (is_bucket c) (λ is. true≢false (sym (key_itself by_name c) ∙ bucket_side c is))

-- ---- names of parts, and of sub-manifests

-- the name of a part tells its id
pub segment_id : (i j : List ℕ) (k n : ℕ) → segment_name i k ≡ segment_name j n → i ≡ j
unfolding segment_name
segment_id i j k n e =
    let lengths : length i + 6 ≡ length j + 6 = sym (length-append i (47 ∷ five_digits k)) ∙ ap length e ∙ length-append j (47 ∷ five_digits n) in
    let same : length i ≡ length j = omega (arith, lengths) in
    sym (take-append_seam i (47 ∷ five_digits k)) ∙ ap (λ l. take l (i ++ 47 ∷ five_digits k)) same ∙ ap (take (length j)) e ∙ take-append_seam j (47 ∷ five_digits n)

-- a number is the sum of its digits
digits_sum : (n : ℕ) → n ≡ n / 10000 * 10000 + n / 1000 % 10 * 1000 + n / 100 % 10 * 100 + n / 10 % 10 * 10 + n % 10
digits_sum n = omega arith

abbrev tail_of : List ℕ → List ℕ
tail_of [] = []
tail_of (c ∷ rest) = rest

digits_one : (k n : ℕ) → five_digits k ≡ five_digits n → k ≡ n
digits_one k n e =
    let a : 48 + k / 10000 ≡ 48 + n / 10000 = cc in
    let b : 48 + k / 1000 % 10 ≡ 48 + n / 1000 % 10 = cc in
    let c : 48 + k / 100 % 10 ≡ 48 + n / 100 % 10 = cc in
    let d : 48 + k / 10 % 10 ≡ 48 + n / 10 % 10 = cc in
    let f : 48 + k % 10 ≡ 48 + n % 10 = cc in
    let p = digits_sum k in
    let q = digits_sum n in
    omega (arith, a, b, c, d, f, p, q)

-- and its number
pub segment_number : (i : List ℕ) (k n : ℕ) → segment_name i k ≡ segment_name i n → k ≡ n
unfolding segment_name
segment_number i k n e =
    let tails : 47 ∷ five_digits k ≡ 47 ∷ five_digits n = append_cancel_left i (47 ∷ five_digits k) (47 ∷ five_digits n) e in
    digits_one k n (ap tail_of tails)

-- the name of a sub-manifest tells its id
pub sub_id : (i j : List ℕ) (k n : ℕ) → sub_manifest_name i k ≡ sub_manifest_name j n → i ≡ j
unfolding sub_manifest_name
sub_id i j k n e =
    let lengths : length i + 7 ≡ length j + 7 = sym (length-append i (47 ∷ (109 ∷ five_digits k))) ∙ ap length e ∙ length-append j (47 ∷ (109 ∷ five_digits n)) in
    let same : length i ≡ length j = omega (arith, lengths) in
    sym (take-append_seam i (47 ∷ (109 ∷ five_digits k))) ∙ ap (λ l. take l (i ++ 47 ∷ (109 ∷ five_digits k))) same ∙ ap (take (length j)) e ∙ take-append_seam j (47 ∷ (109 ∷ five_digits n))

-- and its number
pub sub_number : (i : List ℕ) (k n : ℕ) → sub_manifest_name i k ≡ sub_manifest_name i n → k ≡ n
unfolding sub_manifest_name
sub_number i k n e =
    let tails : 47 ∷ (109 ∷ five_digits k) ≡ 47 ∷ (109 ∷ five_digits n) = append_cancel_left i (47 ∷ (109 ∷ five_digits k)) (47 ∷ (109 ∷ five_digits n)) e in
    digits_one k n (ap tail_of (ap tail_of tails))

first_is_m : List ℕ → Bool
first_is_m [] = false
first_is_m (c ∷ rest) = c == 109

-- no name is one of a part and one of a sub-manifest
pub part_no_sub : (i j : List ℕ) (k n : ℕ) → segment_name i k ≢ sub_manifest_name j n
unfolding segment_name sub_manifest_name first_is_m
part_no_sub i j k n e =
    let moved : i ++ 47 ∷ five_digits k ≡ (j ++ 47 ∷ []) ++ 109 ∷ five_digits n = e ∙ sym (append_assoc j (47 ∷ []) (109 ∷ five_digits n)) in
    let longer = length-append j (47 ∷ []) in
    let lengths : length i + 6 ≡ length (j ++ 47 ∷ []) + 6 = sym (length-append i (47 ∷ five_digits k)) ∙ ap length moved ∙ length-append (j ++ 47 ∷ []) (109 ∷ five_digits n) in
    let same : length i ≡ length (j ++ 47 ∷ []) = omega (arith, lengths) in
    let front : i ≡ j ++ 47 ∷ []
    = sym (take-append_seam i (47 ∷ five_digits k)) ∙ ap (λ l. take l (i ++ 47 ∷ five_digits k)) same ∙ ap (take (length (j ++ 47 ∷ []))) moved ∙ take-append_seam (j ++ 47 ∷ []) (109 ∷ five_digits n) in
    let tails : 47 ∷ five_digits k ≡ 109 ∷ five_digits n = append_cancel_left (j ++ 47 ∷ []) (47 ∷ five_digits k) (109 ∷ five_digits n) (ap (λ t. t ++ 47 ∷ five_digits k) (sym front) ∙ moved) in
    true≢false (sym (ap first_is_m tails))
