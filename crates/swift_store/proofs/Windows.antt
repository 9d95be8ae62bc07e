-- Bytes behind the first ones, of texts in a row.
use Rattle.std.specs.Prelude.{◌≡◌, ℕ, ◌+◌, ◌-◌, ◌≤◌, min, List, [], ◌++◌, length, take, drop, slice_range}
use Rattle.std.proofs.Common.{refl, sym, ap, ◌∙◌, arith, inl, inr, append-nil}
use Rattle.std.proofs.lemmas.Bool.{cases_lt}
use Rattle.std.proofs.lemmas.List.{drop_all, drop-append-le, length-drop, take_all, take-append-le}
use Rattle.std.proofs.Math.Seq.{drop-append-add, drop-nil, take-append-add, take-nil}
use Rattle.swift_store.specs.Listed.{window}

take_both : (n : ℕ) (xs ys : List ℕ) → take n (xs ++ ys) ≡ take n xs ++ take (n - length xs) ys
take_both n xs ys = elim (cases_lt n (length xs)) [
  | inl below ↦
      let nothing : n - length xs ≡ 0 = omega arith in
      take-append-le n xs ys (omega arith) ∙ sym (append-nil (take n xs)) ∙ sym (ap (λ k. take n xs ++ take k ys) nothing)
  | inr past ↦
      let whole : length xs + (n - length xs) ≡ n = omega arith in
      sym (ap (λ k. take k (xs ++ ys)) whole) ∙ take-append-add xs ys (n - length xs) ∙ ap (λ l. l ++ take (n - length xs) ys) (sym (take_all n xs past))
]

drop_both : (n : ℕ) (xs ys : List ℕ) → drop n (xs ++ ys) ≡ drop n xs ++ drop (n - length xs) ys
drop_both n xs ys = elim (cases_lt n (length xs)) [
  | inl below ↦
      let nothing : n - length xs ≡ 0 = omega arith in
      drop-append-le n xs ys (omega arith) ∙ sym (ap (λ k. drop n xs ++ drop k ys) nothing)
  | inr past ↦
      let whole : length xs + (n - length xs) ≡ n = omega arith in
      sym (ap (λ k. drop k (xs ++ ys)) whole) ∙ drop-append-add xs ys (n - length xs) ∙ ap (λ l. l ++ drop (n - length xs) ys) (sym (drop_all n xs past))
]

-- of two texts
pub window_both : (skip count : ℕ) (xs ys : List ℕ) → window skip count (xs ++ ys) ≡ window skip count xs ++ window (skip - length xs) (count - (length xs - skip)) ys
window_both skip count xs ys =
    ap (take count) (drop_both skip xs ys)
    ∙ take_both count (drop skip xs) (drop (skip - length xs) ys)
    ∙ ap (λ k. take count (drop skip xs) ++ take (count - k) (drop (skip - length xs) ys)) (length-drop skip xs)

-- of none
pub window_nil : (skip count : ℕ) → window skip count [] ≡ []
window_nil skip count = ap (take count) (drop-nil skip) ∙ take-nil count

-- behind the last
pub window_past : (skip count : ℕ) (xs : List ℕ) → length xs ≤ skip → window skip count xs ≡ []
window_past skip count xs past = ap (take count) (drop_all skip xs past) ∙ take-nil count

-- no more than there are
pub window_min : (skip count : ℕ) (xs : List ℕ) → window skip (min count (length xs - skip)) xs ≡ window skip count xs
window_min skip count xs = elim (cases_lt count (length xs - skip)) [
  | inl below ↦ let is : min count (length xs - skip) ≡ count = omega arith in ap (λ k. take k (drop skip xs)) is
  | inr past ↦
      let is : min count (length xs - skip) ≡ length xs - skip = omega arith in
      let most : length (drop skip xs) ≤ count = omega (arith, length-drop skip xs) in
      let all : length (drop skip xs) ≤ length xs - skip = omega (arith, length-drop skip xs) in
      ap (λ k. take k (drop skip xs)) is ∙ take_all (length xs - skip) (drop skip xs) all ∙ sym (take_all count (drop skip xs) most)
]

-- no byte
pub window_none : (skip : ℕ) (xs : List ℕ) → window skip 0 xs ≡ []
window_none skip xs = refl

-- all that stands between two places
pub window_range : (from end : ℕ) (xs : List ℕ) → window from (end - from) xs ≡ slice_range xs from end
window_range from end xs = refl
