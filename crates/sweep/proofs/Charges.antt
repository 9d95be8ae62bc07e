-- Sums over names, of which some stand for others: each is charged to another one of the names, none of them twice.
use Rattle.std.specs.Prelude.{◌≡◌, ◌≤◌, ◌+◌, ◌*◌, ℕ, Bool, true, false, not, cond, ◌||◌, sum_by, List, [], ◌∷◌, length}
use Rattle.std.specs.List.{filter, AllByRecursion}
use Rattle.std.specs.Ordering.{eq_by_cmp, is_eq}
use Rattle.std.specs.declared.cmp.Ordering.TheVariants.{Less}
use Rattle.std.proofs.Common.{refl, sym, ap, subst, ◌∙◌, inl, inr, arith, true≢false}
use Rattle.std.proofs.lemmas.List.Sums.{sum_by-cons}
use Rattle.gate_base.specs.Maps.{name_cmp}
use Rattle.gate_base.proofs.lemmas.Maps.{apart, apart_back, by_name, key_itself, same_key}
use Rattle.account_calls.proofs.lemmas.Ascending.{Ascends}
use Rattle.sweep.proofs.NamesSwept.{is_in}

-- the names but for one
abbrev others : List ℕ → List (List ℕ) → List (List ℕ)
others k names = filter (λ y. not (eq_by_cmp name_cmp k y)) names

same_of : (k y : List ℕ) → eq_by_cmp name_cmp k y ≡ true → k ≡ y
same_of k y e = elim (same_key by_name k y) [
  | inl same ↦ same
  | inr apart ↦ absurd (true≢false (sym e ∙ apart))
]

-- some names are charged to others
abbrev pub charge : (List ℕ → ℕ) → (List ℕ → Bool) → (List ℕ → List ℕ) → List ℕ → ℕ
charge f charged to n = cond (charged n) (f (to n)) 0

module _ (f : List ℕ → ℕ) where
  fewer : (k : List ℕ) (names : List (List ℕ)) → sum_by f (others k names) ≤ sum_by f names
  fewer k [] = omega arith
  fewer k (y ∷ names) = by (eq_by_cmp name_cmp k y) (fewer k names)
    where
      by : (t : Bool) → sum_by f (others k names) ≤ sum_by f names → sum_by f (cond (not t) (y ∷ others k names) (others k names)) ≤ sum_by f (y ∷ names)
      by true rest = omega (arith, rest, sum_by-cons f y names)
      by false rest = omega (arith, rest, sum_by-cons f y names, sum_by-cons f y (others k names))

  taken_out : (k : List ℕ) (names : List (List ℕ)) → is_in names k ≡ true → f k + sum_by f (others k names) ≤ sum_by f names
  taken_out k [] never = absurd (true≢false (sym never))
  taken_out k (y ∷ names) here = by (eq_by_cmp name_cmp k y) refl here (taken_out k names)
    where
      by : (t : Bool) → eq_by_cmp name_cmp k y ≡ t → (t || is_in names k) ≡ true → (is_in names k ≡ true → f k + sum_by f (others k names) ≤ sum_by f names) → f k + sum_by f (cond (not t) (y ∷ others k names) (others k names)) ≤ sum_by f (y ∷ names)
      by true same here later = let e = ap f (same_of k y same) in omega (arith, e, fewer k names, sum_by-cons f y names)
      by false apart here later = let rest = later here in omega (arith, rest, sum_by-cons f y names, sum_by-cons f y (others k names))

  -- a name that isn't the one is still there
  still_in : (k n : List ℕ) (names : List (List ℕ)) → eq_by_cmp name_cmp k n ≡ false → is_in names n ≡ true → is_in (others k names) n ≡ true
  still_in k n [] off never = never
  still_in k n (y ∷ names) off here = by (eq_by_cmp name_cmp k y) refl (still_in k n names off)
    where
      at : (t : Bool) → (is_in names n ≡ true → is_in (others k names) n ≡ true) → (t || is_in names n) ≡ true → (t || is_in (others k names) n) ≡ true
      at true later here = refl
      at false later here = later here

      by : (t : Bool) → eq_by_cmp name_cmp k y ≡ t → (is_in names n ≡ true → is_in (others k names) n ≡ true) → is_in (cond (not t) (y ∷ others k names) (others k names)) n ≡ true
      by true same later =
          let other : eq_by_cmp name_cmp n y ≡ false = apart_back by_name y n (subst (λ x. eq_by_cmp name_cmp x n ≡ false) (same_of k y same) off) in
          later (ap (λ t. t || is_in names n) (sym other) ∙ here)
      by false kept later = at (eq_by_cmp name_cmp n y) later here

  -- no name is charged twice, where the one that it is charged to tells it
  module _ (charged : List ℕ → Bool) (to : List ℕ → List ℕ) (back : List ℕ → List ℕ) (tells : (n : List ℕ) → charged n ≡ true → back (to n) ≡ n) where
    below : (x : List ℕ) (names : List (List ℕ)) → AllByRecursion (λ y. name_cmp x y ≡ Less) names → (n : List ℕ) → is_in names n ≡ true → eq_by_cmp name_cmp x n ≡ false
    below x [] all n never = absurd (true≢false (sym never))
    below x (y ∷ names) all n here = by (eq_by_cmp name_cmp n y) refl here (below x names all.1 n)
      where
        by : (t : Bool) → eq_by_cmp name_cmp n y ≡ t → (t || is_in names n) ≡ true → (is_in names n ≡ true → eq_by_cmp name_cmp x n ≡ false) → eq_by_cmp name_cmp x n ≡ false
        by true same here later = ap (eq_by_cmp name_cmp x) (same_of n y same) ∙ ap is_eq all.0
        by false apart here later = later here

    -- the first of some names, and the others
    module _ (x : List ℕ) (names all : List (List ℕ)) (below_x : AllByRecursion (λ y. name_cmp x y ≡ Less) names) (within : (n : List ℕ) → is_in (x ∷ names) n ≡ true → charged n ≡ true → is_in all (to n) ≡ true)
        (rest : (left : List (List ℕ)) → ((n : List ℕ) → is_in names n ≡ true → charged n ≡ true → is_in left (to n) ≡ true) → sum_by (charge f charged to) names ≤ sum_by f left) where
      or_here : (a b : Bool) → b ≡ true → (a || b) ≡ true
      or_here true b e = refl
      or_here false b e = e

      later : (n : List ℕ) → is_in names n ≡ true → is_in (x ∷ names) n ≡ true
      later n here = or_here (eq_by_cmp name_cmp n x) (is_in names n) here

      other : charged x ≡ true → (n : List ℕ) → is_in names n ≡ true → charged n ≡ true → eq_by_cmp name_cmp (to x) (to n) ≡ false
      other so n here also = apart by_name (to x) (to n) (λ same.
          let e : x ≡ n = sym (tells x so) ∙ ap back same ∙ tells n also in
          true≢false (sym (key_itself by_name x) ∙ ap (eq_by_cmp name_cmp x) e ∙ below x names below_x n here))

      charges_by : (t : Bool) → charged x ≡ t → sum_by (charge f charged to) (x ∷ names) ≤ sum_by f all
      charges_by false not =
          let left = rest all (λ n here so. within n (later n here) so) in
          let none : charge f charged to x ≡ 0 = ap (λ t. cond t (f (to x)) 0) not in
          omega (arith, left, none, sum_by-cons (charge f charged to) x names)
      charges_by true so =
          let one : charge f charged to x ≡ f (to x) = ap (λ t. cond t (f (to x)) 0) so in
          let first = taken_out (to x) all (within x (ap (λ t. t || is_in names x) (key_itself by_name x)) so) in
          let left = rest (others (to x) all) (λ n here also. still_in (to x) (to n) all (other so n here also) (within n (later n here) also)) in
          omega (arith, left, one, first, sum_by-cons (charge f charged to) x names)

    pub charges : (names all : List (List ℕ)) → Ascends names → ((n : List ℕ) → is_in names n ≡ true → charged n ≡ true → is_in all (to n) ≡ true) → sum_by (charge f charged to) names ≤ sum_by f all
    charges [] all up within = omega arith
    charges (x ∷ names) all up within = charges_by x names all up.0 within (λ left within. charges names left up.1 within) (charged x) refl

-- what is at most a sum for each name is so for all
pub sums : (c f a b : List ℕ → ℕ) → ((n : List ℕ) → c n ≤ 5 + 4 * f n + 12 * a n + 12 * b n) → (names : List (List ℕ)) → sum_by c names ≤ 5 * length names + 4 * sum_by f names + 12 * sum_by a names + 12 * sum_by b names
sums c f a b most [] = omega arith
sums c f a b most (n ∷ names) =
    let rest = sums c f a b most names in
    let one = most n in
    omega (arith, rest, one, sum_by-cons c n names, sum_by-cons f n names, sum_by-cons a n names, sum_by-cons b n names)

pub three_within : (a b c f : List ℕ → ℕ) → ((n : List ℕ) → a n + b n + c n ≤ f n) → (names : List (List ℕ)) → sum_by a names + sum_by b names + sum_by c names ≤ sum_by f names
three_within a b c f most [] = omega arith
three_within a b c f most (n ∷ names) =
    let rest = three_within a b c f most names in
    let one = most n in
    omega (arith, rest, one, sum_by-cons a n names, sum_by-cons b n names, sum_by-cons c n names, sum_by-cons f n names)
