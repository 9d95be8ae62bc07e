-- What is kept of a list in another order is what is kept of the list, in another order.
use Rattle.std.proofs.Common.{ℕ, zero, suc, ◌<◌, Bool, true, false, cond, List, [], ◌∷◌, length, get_or, set, arith}
use Rattle.std.specs.Prelude.{IsPermutation, filter, swap}
use Rattle.std.proofs.lemmas.List.Sorted.{IsPermutation-refl, IsPermutation-cons, IsPermutation-trans, IsPermutation-keeps, IsPermutation-append_left, IsPermutation-append_comm}

module _ {X : Type 0} (p : X → Bool) where
  abbrev Alike : List X → List X → Type 0
  Alike xs ys = IsPermutation (filter p xs) (filter p ys)

  one_more : (b : Bool) (x : X) (us vs : List X) → IsPermutation us vs → IsPermutation (cond b (x ∷ us) us) (cond b (x ∷ vs) vs)
  one_more true x us vs h = IsPermutation-cons x us vs h
  one_more false x us vs h = h

  under : (x : X) (xs ys : List X) → Alike xs ys → Alike (x ∷ xs) (x ∷ ys)
  under x xs ys h = one_more (p x) x (filter p xs) (filter p ys) h

  two_more : (a b : Bool) (x y : X) (us : List X) → IsPermutation (cond a (x ∷ cond b (y ∷ us) us) (cond b (y ∷ us) us)) (cond b (y ∷ cond a (x ∷ us) us) (cond a (x ∷ us) us))
  two_more true true x y us = IsPermutation-append_left us (x ∷ y ∷ []) (y ∷ x ∷ []) (IsPermutation-append_comm (x ∷ []) (y ∷ []))
  two_more true false x y us = IsPermutation-refl (x ∷ us)
  two_more false true x y us = IsPermutation-refl (y ∷ us)
  two_more false false x y us = IsPermutation-refl us

  turned : (x y : X) (xs : List X) → Alike (x ∷ y ∷ xs) (y ∷ x ∷ xs)
  turned x y xs = two_more (p x) (p y) x y (filter p xs)

  through : (xs ys zs : List X) → Alike xs ys → Alike ys zs → Alike xs zs
  through xs ys zs a b = IsPermutation-trans (filter p xs) (filter p ys) (filter p zs) a b

  to_head : (l : List X) (j : ℕ) (x d : X) → j < length l → Alike (x ∷ l) (get_or l j d ∷ set l j x)
  to_head [] j x d h = absurd (omega arith)
  to_head (y ∷ l) zero x d h = turned x y l
  to_head (y ∷ l) (suc j) x d h =
      let z : X = get_or l j d in
      through (x ∷ y ∷ l) (y ∷ x ∷ l) (z ∷ y ∷ set l j x) (turned x y l)
      (through (y ∷ x ∷ l) (y ∷ z ∷ set l j x) (z ∷ y ∷ set l j x) (under y (x ∷ l) (z ∷ set l j x) (to_head l j x d (omega arith))) (turned y z (set l j x)))

  exchanged : (l : List X) (i j : ℕ) (d : X) → i < length l → j < length l → Alike l (set (set l i (get_or l j d)) j (get_or l i d))
  exchanged [] i j d a b = absurd (omega arith)
  exchanged (x ∷ l) zero zero d a b = IsPermutation-refl (filter p (x ∷ l))
  exchanged (x ∷ l) zero (suc j) d a b = to_head l j x d (omega arith)
  exchanged (x ∷ l) (suc i) zero d a b = to_head l i x d (omega arith)
  exchanged (x ∷ l) (suc i) (suc j) d a b = under x l (set (set l i (get_or l j d)) j (get_or l i d)) (exchanged l i j d (omega arith) (omega arith))

  swapped : (l : List X) (i j : ℕ) → i < length l → j < length l → Alike l (swap l i j)
  swapped [] i j a b = IsPermutation-refl []
  swapped (x ∷ l) i j a b = exchanged (x ∷ l) i j x a b

  pub kept_moved : (xs ys : List X) → IsPermutation xs ys → IsPermutation (filter p xs) (filter p ys)
  kept_moved xs ys moved = IsPermutation-keeps xs (Alike xs) (IsPermutation-refl (filter p xs)) (λ l i j a b h. through xs l (swap l i j) h (swapped l i j a b)) ys moved
