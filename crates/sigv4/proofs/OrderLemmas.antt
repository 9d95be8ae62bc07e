-- The order of pairs, and the place of a pair among others.
use Rattle.std.proofs.Common.{◌≡◌, ◌+◌, suc, Bool, true, false, cond, not, List, [], ◌∷◌, ◌++◌, fold, append-nil, refl, ap, sym, ◌∙◌, inl, inr, arith}
use Rattle.std.specs.Prelude.{IsPermutation}
use Rattle.std.specs.Cmp.Lexicographic.{slice_cmp, nat_list_cmp_total}
use Rattle.std.specs.Ordering.{nat_cmp, is_lt, ordering_then, ordering_reverse}
use Rattle.std.specs.declared.cmp.Ordering.{Ordering}
use Rattle.std.specs.declared.cmp.Ordering.TheVariants.{Less, Equal, Greater}
use Rattle.std.proofs.lemmas.Bool.{cases_Bool, and_from, and_parts}
use Rattle.std.proofs.lemmas.List.Sorted.{IsPermutation-refl, IsPermutation-trans, IsPermutation-middle, IsPermutation-insert, IsPermutation-append_left}
use Rattle.gate_base.specs.declared.page.Pair.{Pair}
use Rattle.sigv4.specs.Canonical.{pair_cmp, place_of, placed, ordered, is_ordered}

placed_front : (pair q : Pair) (qs : List Pair) → is_lt (pair_cmp pair q) ≡ true → placed (q ∷ qs) pair ≡ pair ∷ q ∷ qs
placed_front pair q qs e =
    let none : place_of pair (q ∷ qs) ≡ 0 = ap (λ b. cond (not b) (1 + place_of pair qs) 0) e in
    rw none refl

placed_behind : (pair q : Pair) (qs : List Pair) → is_lt (pair_cmp pair q) ≡ false → placed (q ∷ qs) pair ≡ q ∷ placed qs pair
placed_behind pair q qs e =
    let next : place_of pair (q ∷ qs) ≡ suc (place_of pair qs) = ap (λ b. cond (not b) (1 + place_of pair qs) 0) e ∙ omega arith in
    rw next refl

abbrev fits_head : Pair → List Pair → Bool
fits_head q [] = true
fits_head q (r ∷ rs) = not (is_lt (pair_cmp r q))

ordered_cons : (q : Pair) (qs : List Pair) → fits_head q qs ≡ true → is_ordered qs ≡ true → is_ordered (q ∷ qs) ≡ true
unfolding is_ordered
ordered_cons q [] h k = refl
ordered_cons q (r ∷ rs) h k = and_from _ _ h k

ordered_head : (q : Pair) (qs : List Pair) → is_ordered (q ∷ qs) ≡ true → fits_head q qs ≡ true
unfolding is_ordered
ordered_head q [] h = refl
ordered_head q (r ∷ rs) h = (and_parts _ (is_ordered (r ∷ rs)) h).0

ordered_tail : (q : Pair) (qs : List Pair) → is_ordered (q ∷ qs) ≡ true → is_ordered qs ≡ true
unfolding is_ordered
ordered_tail q [] h = refl
ordered_tail q (r ∷ rs) h = (and_parts (not (is_lt (pair_cmp r q))) _ h).1

turned : (a b : Ordering) → is_lt (ordering_then a b) ≡ true → is_lt (ordering_then (ordering_reverse a) (ordering_reverse b)) ≡ false
turned Less b h = refl
turned Equal Less h = refl
turned Equal Equal h = refl
turned Equal Greater h = sym h
turned Greater b h = sym h

-- of two pairs at most one stands before the other
asymmetric : (pair q : Pair) → is_lt (pair_cmp pair q) ≡ true → is_lt (pair_cmp q pair) ≡ false
asymmetric pair q h =
    rw (nat_list_cmp_total.antisymm q.name pair.name, nat_list_cmp_total.antisymm q.value pair.value) (turned (slice_cmp nat_cmp pair.name q.name) (slice_cmp nat_cmp pair.value q.value) h)

head_stays : (pair q : Pair) (qs : List Pair) → is_lt (pair_cmp pair q) ≡ false → fits_head q qs ≡ true → fits_head q (placed qs pair) ≡ true
head_stays pair q [] before h = ap not before
head_stays pair q (r ∷ rs) before h =
    elim (cases_Bool (is_lt (pair_cmp pair r))) [
      | inl e ↦ rw (placed_front pair r rs e) (ap not before)
      | inr e ↦ rw (placed_behind pair r rs e) h
    ]

placed_ordered : (pairs : List Pair) (pair : Pair) → is_ordered pairs ≡ true → is_ordered (placed pairs pair) ≡ true
unfolding is_ordered
placed_ordered [] pair h = refl
placed_ordered (q ∷ qs) pair h =
    elim (cases_Bool (is_lt (pair_cmp pair q))) [
      | inl e ↦ rw (placed_front pair q qs e) (ordered_cons pair (q ∷ qs) (ap not (asymmetric pair q e)) h)
      | inr e ↦ rw (placed_behind pair q qs e) (ordered_cons q (placed qs pair) (head_stays pair q qs e (ordered_head q qs h)) (placed_ordered qs pair (ordered_tail q qs h)))
    ]

ordered_from : (done pairs : List Pair) → is_ordered done ≡ true → is_ordered (fold placed done pairs) ≡ true
ordered_from done [] h = h
ordered_from done (pair ∷ pairs) h = ordered_from (placed done pair) pairs (placed_ordered done pair h)

-- the pairs in order are in order
pub stands_ordered : (pairs : List Pair) → is_ordered (ordered pairs) ≡ true
unfolding ordered is_ordered
stands_ordered pairs = ordered_from [] pairs refl

permuted_from : (done pairs : List Pair) → IsPermutation (done ++ pairs) (fold placed done pairs)
permuted_from done [] = rw (append-nil done) (IsPermutation-refl done)
permuted_from done (pair ∷ pairs) =
    IsPermutation-trans _ (pair ∷ done ++ pairs) _ (IsPermutation-middle done pair pairs) (IsPermutation-trans (pair ∷ done ++ pairs) (placed done pair ++ pairs) _ (IsPermutation-append_left pairs (pair ∷ done) (placed done pair) (IsPermutation-insert done (place_of pair done) pair)) (permuted_from (placed done pair) pairs))

-- and they are the same pairs
pub stands_permuted : (pairs : List Pair) → IsPermutation pairs (ordered pairs)
unfolding ordered
stands_permuted pairs = permuted_from [] pairs
