-- Where a byte lies is one place, and the bytes there are the same.
use Rattle.std.proofs.Common.{◌≡◌, ℕ, ◌+◌, ◌<◌, ◌≤◌, List, [], ◌∷◌, refl, length, get_or, map, take, sum, inl, inr, sym, ap, ◌∙◌, subst, arith}
use Rattle.std.specs.List.{fold, flat_map}
use Rattle.std.proofs.lemmas.Bool.{cases_lt}
use Rattle.std.proofs.lemmas.List.{take-take, take-map, length-map, get_or-map}
use Rattle.std.proofs.lemmas.List.Concat.{length-flat_map, get_or-flat_map}
use Rattle.std.proofs.lemmas.List.Sums.{sum_by_more, sum_by-take-le}
use Rattle.slo_manifest.specs.Cover.{Lies}

sums_rise : (sizes : List ℕ) (i j : ℕ) → i ≤ j → sum (take i sizes) ≤ sum (take j sizes)
sums_rise sizes i j h =
    let P : List ℕ → Type 0 = λ xs. sum xs ≤ sum (take j sizes) in
    subst P (take-take i j sizes h) (sum_by-take-le (λ x. x) (take j sizes) i)

-- a later byte lies in no earlier segment
pub places_rise : (sizes : List ℕ) (a b i j v w : ℕ) → a ≤ b → Lies sizes a i v → Lies sizes b j w → i ≤ j
places_rise sizes a b i j v w h first last = elim (cases_lt j i) [
  | inl below ↦ absurd (omega (arith, sums_rise sizes (j + 1) i (omega arith), sum_by_more (λ x. x) sizes j 0 last.0, first.1, last.1, last.2, h))
  | inr above ↦ above
]

fold_lengths : (a : ℕ) (bodies : List (List ℕ)) → fold (λ total size. total + size) a (map length bodies) ≡ fold (λ total body. total + length body) a bodies
fold_lengths a [] = refl
fold_lengths a (body ∷ rest) = fold_lengths (a + length body) rest

-- the bytes before a segment are as many as the sizes before it add up to
sum_lengths : (bodies : List (List ℕ)) (i : ℕ) → sum (take i (map length bodies)) ≡ length (flat_map (λ body. body) (take i bodies))
sum_lengths bodies i =
    ap sum (take-map length i bodies) ∙ fold_lengths 0 (take i bodies) ∙ sym (length-flat_map (λ (body : List ℕ). body) (take i bodies))

-- the byte of the joined bodies is the byte of the one in which it lies
pub byte_lies : (bodies : List (List ℕ)) (at index within : ℕ) → Lies (map length bodies) at index within → get_or (flat_map (λ body. body) bodies) at 0 ≡ get_or (get_or bodies index []) within 0
byte_lies bodies at index within h =
    let there : index < length bodies = omega (arith, h.0, length-map bodies (length {A = ℕ})) in
    let size = get_or-map (length {A = ℕ}) bodies index [] 0 there in
    let inside : within < length (get_or bodies index []) = omega (arith, h.2, size) in
    let place : at ≡ length (flat_map (λ body. body) (take index bodies)) + within = omega (arith, h.1, sum_lengths bodies index) in
    ap (λ k. get_or (flat_map (λ body. body) bodies) k 0) place ∙ get_or-flat_map (λ (body : List ℕ). body) bodies index within [] 0 there inside
