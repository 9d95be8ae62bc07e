-- Names in ascending order, and those of them that stand after a marker.
use Rattle.std.proofs.Common.{◌≡◌, ℕ, zero, suc, ◌<◌, Bool, true, false, cond, T, ◌&&◌, List, [], ◌∷◌, map, length, drop, get_or, refl, sym, ap, ◌∙◌, arith}
use Rattle.std.specs.declared.cmp.Ordering.{Ordering}
use Rattle.std.specs.declared.cmp.Ordering.TheVariants.{Less, Equal, Greater}
use Rattle.std.specs.Ordering.{is_gt, is_lt, ordering_reverse}
use Rattle.std.specs.Cmp.{tied_itself}
use Rattle.std.specs.List.{filter, AllByRecursion}
use Rattle.std.specs.FinMap.{entries, entries_sorted, keys, is_sorted}
use Rattle.std.specs.FinMap.Entries.{below_all}
use Rattle.gate_base.specs.Maps.{Names, name_cmp}
use Rattle.gate_base.proofs.lemmas.Maps.{name_total}
use Rattle.account_calls.specs.Listing.{after}

-- each name is below those after it
abbrev pub Ascends : List (List ℕ) → Type 0
Ascends [] = Unit {0}
Ascends (x ∷ xs) = AllByRecursion (λ y. name_cmp x y ≡ Less) xs × Ascends xs

pub lt_is : (o : Ordering) → T (is_lt o) → o ≡ Less
lt_is Less p = refl
lt_is Equal p = absurd p
lt_is Greater p = absurd p

gt_is : (o : Ordering) → is_gt o ≡ true → o ≡ Greater
gt_is Less e = cc
gt_is Equal e = cc
gt_is Greater e = refl

pub front : (a b : Bool) → T (a && b) → T a
front true b p = tt
front false b p = p

pub back : (a b : Bool) → T (a && b) → T b
back true b p = p
back false b p = absurd p

below_keys : {X : Type 0} (x : List ℕ) (es : List (List ℕ × X)) → T (below_all name_cmp x es) → AllByRecursion (λ y. name_cmp x y ≡ Less) (map (λ e. e.0) es)
below_keys x [] p = tt
below_keys x (e ∷ es) p = (lt_is (name_cmp x e.0) (front (is_lt (name_cmp x e.0)) (below_all name_cmp x es) p), below_keys x es (back (is_lt (name_cmp x e.0)) (below_all name_cmp x es) p))

sorted_keys : {X : Type 0} (es : List (List ℕ × X)) → T (is_sorted name_cmp es) → Ascends (map (λ e. e.0) es)
sorted_keys [] p = tt
sorted_keys (e ∷ es) p = (below_keys e.0 es (front (below_all name_cmp e.0 es) (is_sorted name_cmp es) p), sorted_keys es (back (below_all name_cmp e.0 es) (is_sorted name_cmp es) p))

pub keys_ascend : {X : Type 0} (m : Names X) → Ascends (keys m)
keys_ascend m = sorted_keys (entries m) (entries_sorted m)

-- the other way round
above : (x y : List ℕ) → name_cmp x y ≡ Less → is_gt (name_cmp y x) ≡ true
above x y e = ap is_gt (name_total.antisymm y x ∙ ap ordering_reverse e)

not_above : (x y : List ℕ) → name_cmp x y ≡ Less → is_gt (name_cmp x y) ≡ false
not_above x y e = ap is_gt e

not_above_itself : (x : List ℕ) → is_gt (name_cmp x x) ≡ false
not_above_itself x = ap is_gt (tied_itself name_total x)

less_of_gt : (x y : List ℕ) → is_gt (name_cmp x y) ≡ true → name_cmp y x ≡ Less
less_of_gt x y e = name_total.antisymm y x ∙ ap ordering_reverse (gt_is (name_cmp x y) e)

-- ---- names after a marker

all_above : (x : List ℕ) (xs : List (List ℕ)) → AllByRecursion (λ y. name_cmp x y ≡ Less) xs → after x xs ≡ xs
all_above x [] h = refl
all_above x (y ∷ ys) h = ap (λ t. cond t (y ∷ after x ys) (after x ys)) (above x y h.0) ∙ ap (λ zs. y ∷ zs) (all_above x ys h.1)

at_index : {X : Type 0} (P : X → Type 0) (xs : List X) (n : ℕ) (d : X) → AllByRecursion P xs → n < length xs → P (get_or xs n d)
at_index P [] n d h near = absurd (omega arith)
at_index P (x ∷ xs) zero d h near = h.0
at_index P (x ∷ xs) (suc n) d h near = at_index P xs n d h.1 (omega arith)

-- after a name stand those behind it
pub after_at : (xs : List (List ℕ)) (n : ℕ) (d : List ℕ) → Ascends xs → n < length xs → after (get_or xs n d) xs ≡ drop (suc n) xs
after_at [] n d up near = absurd (omega arith)
after_at (x ∷ xs) zero d up near = ap (λ t. cond t (x ∷ after x xs) (after x xs)) (not_above_itself x) ∙ all_above x xs up.0
after_at (x ∷ xs) (suc n) d up near =
    let m = get_or xs n d in
    ap (λ t. cond t (x ∷ after m xs) (after m xs)) (not_above x m (at_index (λ y. name_cmp x y ≡ Less) xs n d up.0 (omega arith))) ∙ after_at xs n d up.1 (omega arith)

filter_below : (p : List ℕ → Bool) (x : List ℕ) (xs : List (List ℕ)) → AllByRecursion (λ y. name_cmp x y ≡ Less) xs → AllByRecursion (λ y. name_cmp x y ≡ Less) (filter p xs)
filter_below p x [] h = tt
filter_below p x (y ∷ ys) h =
    elim (p y) as (λ t. AllByRecursion (λ y. name_cmp x y ≡ Less) (cond t (y ∷ filter p ys) (filter p ys))) [
      | true ↦ (h.0, filter_below p x ys h.1)
      | false ↦ filter_below p x ys h.1
    ]

pub filter_ascends : (p : List ℕ → Bool) (xs : List (List ℕ)) → Ascends xs → Ascends (filter p xs)
filter_ascends p [] up = tt
filter_ascends p (x ∷ xs) up =
    elim (p x) as (λ t. Ascends (cond t (x ∷ filter p xs) (filter p xs))) [
      | true ↦ (filter_below p x xs up.0, filter_ascends p xs up.1)
      | false ↦ filter_ascends p xs up.1
    ]

-- a test that another one follows from may be made after it
filter_twice : {X : Type 0} (p q : X → Bool) → ((x : X) → p x ≡ true → q x ≡ true) → (xs : List X) → filter p xs ≡ filter p (filter q xs)
filter_twice p q gives [] = refl
filter_twice p q gives (x ∷ xs) =
    elim (q x) as (λ t. q x ≡ t → cond (p x) (x ∷ filter p xs) (filter p xs) ≡ filter p (cond t (x ∷ filter q xs) (filter q xs))) [
      | true ↦ λ e. ap (λ ys. cond (p x) (x ∷ ys) ys) (filter_twice p q gives xs)
      | false ↦ λ e. elim (p x) as (λ s. p x ≡ s → cond s (x ∷ filter p xs) (filter p xs) ≡ filter p (filter q xs)) [
        | true ↦ λ passed. let no : true ≡ false = sym (gives x passed) ∙ e in cc
        | false ↦ λ failed. filter_twice p q gives xs
      ] refl
    ] refl

-- a later marker leaves names of those after the earlier one
pub after_later : (marker next : List ℕ) (xs : List (List ℕ)) → is_gt (name_cmp next marker) ≡ true → after next xs ≡ after next (after marker xs)
after_later marker next xs later =
    filter_twice (λ name. is_gt (name_cmp name next)) (λ name. is_gt (name_cmp name marker))
    (λ name e. above marker name (name_total.trans marker next name (less_of_gt next marker later) (less_of_gt name next e)))
    xs
