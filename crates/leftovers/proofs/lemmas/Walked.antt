-- A list that is gone through from its front: what is left at a place begins with the segment there.
use Rattle.std.specs.Prelude.{◌≡◌, ◌<◌, ◌≤◌, ◌+◌, ◌-◌, ◌==◌, ◌&&◌, ◌||◌, ℕ, Bool, true, false, List, [], ◌∷◌, drop, length, get_or}
use Rattle.std.specs.List.{list_all, list_any}
use Rattle.std.specs.Ordering.{is_lt}
use Rattle.std.proofs.Common.{refl, sym, ap, ◌∙◌, add-one, arith}
use Rattle.std.proofs.Math.Seq.{drop-cons}
use Rattle.std.proofs.lemmas.Bool.Decides.{nat_tests}
use Rattle.std.proofs.lemmas.List.{drop_all}
use Rattle.std.proofs.lemmas.List.Sums.{sum_by-cons}
use Rattle.gate_base.specs.Maps.{name_cmp}
use Rattle.slo_manifest.specs.declared.Segment.{Segment}
use Rattle.leftovers.specs.Lists.{names_rise, size_of_list}

pub drop_zero : {X : Type 0} (xs : List X) → drop 0 xs ≡ xs
drop_zero [] = refl
drop_zero (x ∷ xs) = refl

pub drop_at : {X : Type 0} (xs : List X) (i : ℕ) (x : X) → i < length xs → x ≡ get_or xs i x → drop i xs ≡ x ∷ drop (i + 1) xs
drop_at xs i x near is = drop-cons xs i x near ∙ (λ k. sym is k ∷ drop (sym (add-one i) k) xs)

-- ---- a test of each

module _ {X : Type 0} (p : X → Bool) (xs : List X) where
  pub all_start : list_all p xs ≡ list_all p (drop 0 xs)
  all_start = ap (list_all p) (sym (drop_zero xs))

  module _ (i : ℕ) (x : X) (near : i < length xs) (is : x ≡ get_or xs i x) (so : list_all p xs ≡ list_all p (drop i xs)) where
    here : list_all p xs ≡ (p x && list_all p (drop (i + 1) xs))
    here = so ∙ ap (list_all p) (drop_at xs i x near is)

    pub all_on : p x ≡ true → list_all p xs ≡ list_all p (drop (i + 1) xs)
    all_on passes = here ∙ ap (λ t. t && list_all p (drop (i + 1) xs)) passes

    pub all_stop : p x ≡ false → list_all p xs ≡ false
    all_stop fails = here ∙ ap (λ t. t && list_all p (drop (i + 1) xs)) fails

  pub all_end : (i : ℕ) → length xs ≤ i → list_all p xs ≡ list_all p (drop i xs) → list_all p xs ≡ true
  all_end i far so = so ∙ ap (list_all p) (drop_all i xs far)

-- ---- a test of some

module _ {X : Type 0} (p : X → Bool) (xs : List X) where
  pub any_start : list_any p xs ≡ list_any p (drop 0 xs)
  any_start = ap (list_any p) (sym (drop_zero xs))

  module _ (i : ℕ) (x : X) (near : i < length xs) (is : x ≡ get_or xs i x) (so : list_any p xs ≡ list_any p (drop i xs)) where
    any_here : list_any p xs ≡ (p x || list_any p (drop (i + 1) xs))
    any_here = so ∙ ap (list_any p) (drop_at xs i x near is)

    pub any_on : p x ≡ false → list_any p xs ≡ list_any p (drop (i + 1) xs)
    any_on fails = any_here ∙ ap (λ t. t || list_any p (drop (i + 1) xs)) fails

    pub any_stop : p x ≡ true → list_any p xs ≡ true
    any_stop passes = any_here ∙ ap (λ t. t || list_any p (drop (i + 1) xs)) passes

  pub any_end : (i : ℕ) → length xs ≤ i → list_any p xs ≡ list_any p (drop i xs) → list_any p xs ≡ false
  any_end i far so = so ∙ ap (list_any p) (drop_all i xs far)

-- ---- the names of segments

module _ (xs : List Segment) where
  pub rise_start : names_rise [] xs ≡ names_rise [] (drop 0 xs)
  rise_start = ap (names_rise []) (sym (drop_zero xs))

  module _ (last : List ℕ) (i : ℕ) (x : Segment) (near : i < length xs) (is : x ≡ get_or xs i x) (so : names_rise [] xs ≡ names_rise last (drop i xs)) where
    risen : names_rise [] xs ≡ (is_lt (name_cmp last x.name) && names_rise x.name (drop (i + 1) xs))
    risen = so ∙ ap (names_rise last) (drop_at xs i x near is)

    pub rise_on : is_lt (name_cmp last x.name) ≡ true → names_rise [] xs ≡ names_rise x.name (drop (i + 1) xs)
    rise_on less = risen ∙ ap (λ t. t && names_rise x.name (drop (i + 1) xs)) less

    pub rise_stop : is_lt (name_cmp last x.name) ≡ false → names_rise [] xs ≡ false
    rise_stop not = risen ∙ ap (λ t. t && names_rise x.name (drop (i + 1) xs)) not

  pub rise_end : (last : List ℕ) (i : ℕ) → length xs ≤ i → names_rise [] xs ≡ names_rise last (drop i xs) → names_rise [] xs ≡ true
  rise_end last i far so = so ∙ ap (names_rise last) (drop_all i xs far)

-- ---- their sizes

less_is : (a r left : ℕ) → a ≤ left → (a + r == left) ≡ (r == left - a)
less_is a r left near = grind (arith, nat_tests)

more_not : (a r left : ℕ) → left < a → (a + r == left) ≡ false
more_not a r left far = grind (arith, nat_tests)

module _ (xs : List Segment) (size : ℕ) where
  pub size_start : (size_of_list xs == size) ≡ (size_of_list (drop 0 xs) == size)
  size_start = ap (λ l. size_of_list l == size) (sym (drop_zero xs))

  module _ (i left : ℕ) (x : Segment) (near : i < length xs) (is : x ≡ get_or xs i x) (so : (size_of_list xs == size) ≡ (size_of_list (drop i xs) == left)) where
    sized : (size_of_list xs == size) ≡ (x.size + size_of_list (drop (i + 1) xs) == left)
    sized = so ∙ ap (λ l. size_of_list l == left) (drop_at xs i x near is) ∙ ap (λ n. n == left) (sum_by-cons (λ (s : Segment). s.size) x (drop (i + 1) xs))

    pub size_on : x.size ≤ left → (size_of_list xs == size) ≡ (size_of_list (drop (i + 1) xs) == left - x.size)
    size_on fits = sized ∙ less_is x.size (size_of_list (drop (i + 1) xs)) left fits

    pub size_stop : left < x.size → (size_of_list xs == size) ≡ false
    size_stop more = sized ∙ more_not x.size (size_of_list (drop (i + 1) xs)) left more

  pub size_end : (i left : ℕ) → length xs ≤ i → (size_of_list xs == size) ≡ (size_of_list (drop i xs) == left) → (size_of_list xs == size) ≡ (0 == left)
  size_end i left far so = so ∙ ap (λ l. size_of_list l == left) (drop_all i xs far)
