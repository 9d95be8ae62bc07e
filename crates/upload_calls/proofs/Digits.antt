-- The names of the parts of an upload, in the order of their numbers.
use Rattle.std.proofs.Common.{◌≡◌, ℕ, ◌+◌, ◌*◌, ◌/◌, ◌%◌, ◌<◌, ◌≤◌, cond, bytes_eq, List, [], ◌∷◌, ◌++◌, length, drop, Some, None, refl, ap, sym, ◌∙◌, arith, append_assoc}
use Rattle.std.specs.declared.cmp.Ordering.TheVariants.{Less}
use Rattle.std.specs.Ordering.{nat_cmp, ordering_reverse}
use Rattle.std.specs.Cmp.{tied_itself}
use Rattle.std.proofs.lemmas.Slice.Eq.{bytes_eq-Decides}
use Rattle.std.proofs.Math.Seq.{take-append_seam}
use Rattle.gate_base.specs.Maps.{name_cmp}
use Rattle.gate_base.proofs.lemmas.Maps.{name_total, number_total}
use Rattle.list_pages.proofs.lemmas.Rising.{bytes_order, below, same, above, then_same, then_below}
use Rattle.list_pages.proofs.lemmas.Rolling.{common}
use Rattle.upload_records.specs.Layout.{five_digits, segments_prefix, segment_name}
use Rattle.upload_calls.specs.Listing.{digits_in, number_in}
use Rattle.upload_calls.proofs.lemmas.Digits.{digits_read, digits_sum}

drop_seam : (x y : List ℕ) → drop (length x) (x ++ y) ≡ y
drop_seam [] y = refl
drop_seam (b ∷ x) y = drop_seam x y

pub name_is : (id : List ℕ) (n : ℕ) → segment_name id n ≡ segments_prefix id ++ five_digits n
unfolding segment_name segments_prefix
name_is id n = sym (append_assoc id (47 ∷ []) (five_digits n))

-- the number of a part is read from its name
pub number_read : (id : List ℕ) (n : ℕ) → n ≤ 99999 → number_in (segments_prefix id) (segment_name id n) ≡ Some n
number_read id n small =
    let p = segments_prefix id in
    ap (number_in p) (name_is id n)
    ∙ ap (λ x. cond (bytes_eq x p) (digits_in (drop (length p) (p ++ five_digits n))) None) (take-append_seam p (five_digits n))
    ∙ ap (λ t. cond t (digits_in (drop (length p) (p ++ five_digits n))) None) ((bytes_eq-Decides p p).1 refl)
    ∙ ap digits_in (drop_seam p (five_digits n))
    ∙ digits_read n small

-- ---- their order

-- digits of which the first are the same or below, and where they are the same the rest is below
step : (a b : ℕ) (x y : List ℕ) → a ≤ b → (a ≡ b → name_cmp x y ≡ Less) → name_cmp ((48 + a) ∷ x) ((48 + b) ∷ y) ≡ Less
step a b x y near rest = elim (bytes_order (48 + a) (48 + b)) [
  | below less is ↦ then_below (48 + a) (48 + b) x y is
  | same e ↦ then_same (48 + a) (48 + b) x y e ∙ rest (omega (arith, e))
  | above more is ↦ absurd (omega (arith, more, near))
]

last : (a b : ℕ) → a < b → name_cmp ((48 + a) ∷ []) ((48 + b) ∷ []) ≡ Less
last a b less = elim (bytes_order (48 + a) (48 + b)) [
  | below l is ↦ then_below (48 + a) (48 + b) [] [] is
  | same e ↦ absurd (omega (arith, e, less))
  | above more is ↦ absurd (omega (arith, more, less))
]

by_digits : (a b c d e v w x y z : ℕ) → b ≤ 9 → c ≤ 9 → d ≤ 9 → e ≤ 9 → w ≤ 9 → x ≤ 9 → y ≤ 9 → z ≤ 9
    → a * 10000 + b * 1000 + c * 100 + d * 10 + e < v * 10000 + w * 1000 + x * 100 + y * 10 + z
    → name_cmp ((48 + a) ∷ ((48 + b) ∷ ((48 + c) ∷ ((48 + d) ∷ ((48 + e) ∷ []))))) ((48 + v) ∷ ((48 + w) ∷ ((48 + x) ∷ ((48 + y) ∷ ((48 + z) ∷ []))))) ≡ Less
by_digits a b c d e v w x y z b9 c9 d9 e9 w9 x9 y9 z9 less =
    step a v ((48 + b) ∷ (48 + c) ∷ (48 + d) ∷ (48 + e) ∷ []) ((48 + w) ∷ (48 + x) ∷ (48 + y) ∷ (48 + z) ∷ []) (omega (arith, b9, c9, d9, e9, w9, x9, y9, z9, less)) (λ p.
    step b w ((48 + c) ∷ (48 + d) ∷ (48 + e) ∷ []) ((48 + x) ∷ (48 + y) ∷ (48 + z) ∷ []) (omega (arith, p, c9, d9, e9, x9, y9, z9, less)) (λ q.
    step c x ((48 + d) ∷ (48 + e) ∷ []) ((48 + y) ∷ (48 + z) ∷ []) (omega (arith, p, q, d9, e9, y9, z9, less)) (λ r.
    step d y ((48 + e) ∷ []) ((48 + z) ∷ []) (omega (arith, p, q, r, e9, z9, less)) (λ s.
    last e z (omega (arith, p, q, r, s, less))))))

five_less : (n k : ℕ) → n < k → name_cmp (five_digits n) (five_digits k) ≡ Less
five_less n k less =
    let s = digits_sum n in
    let t = digits_sum k in
    by_digits (n / 10000) (n / 1000 % 10) (n / 100 % 10) (n / 10 % 10) (n % 10) (k / 10000) (k / 1000 % 10) (k / 100 % 10) (k / 10 % 10) (k % 10)
    (omega arith) (omega arith) (omega arith) (omega arith) (omega arith) (omega arith) (omega arith) (omega arith) (omega (arith, s, t, less))

segment_less : (id : List ℕ) (n k : ℕ) → n < k → name_cmp (segment_name id n) (segment_name id k) ≡ Less
segment_less id n k less =
    (λ i. name_cmp (name_is id n i) (name_is id k i)) ∙ common (segments_prefix id) (five_digits n) (five_digits k) ∙ five_less n k less

-- the names of parts are in the order of their numbers
pub segments_order : (id : List ℕ) (n k : ℕ) → name_cmp (segment_name id n) (segment_name id k) ≡ nat_cmp n k
segments_order id n k = elim (bytes_order n k) [
  | below less is ↦ segment_less id n k less ∙ sym is
  | same e ↦ ap (λ m. name_cmp (segment_name id n) (segment_name id m)) (sym e) ∙ tied_itself name_total (segment_name id n) ∙ sym (ap (nat_cmp n) (sym e) ∙ tied_itself number_total n)
  | above more is ↦ name_total.antisymm (segment_name id n) (segment_name id k) ∙ ap ordering_reverse (segment_less id k n more) ∙ sym is
]
