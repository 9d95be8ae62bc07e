-- Pairs have one order only: two lists in order with the same pairs are the same list.
use Rattle.std.proofs.Common.{◌≡◌, ℕ, ◌+◌, suc, Bool, true, false, cond, not, ◌&&◌, List, [], ◌∷◌, count_by, refl, ap, sym, ◌∙◌, inl, inr, arith}
use Rattle.std.specs.Prelude.{IsPermutation}
use Rattle.std.specs.Cmp.{IsTotalOrder, IsStrictWeakOrder}
use Rattle.std.specs.Cmp.Lexicographic.{slice_cmp, nat_list_cmp_total}
use Rattle.std.specs.FinMap.{nat_cmp-IsAntisymmetric, slice_cmp-IsAntisymmetric}
use Rattle.std.specs.List.Sorted.{IsSortedBy}
use Rattle.std.specs.Ordering.{nat_cmp, is_lt, ordering_then, ordering_reverse}
use Rattle.std.specs.declared.cmp.Ordering.{Ordering}
use Rattle.std.specs.declared.cmp.Ordering.TheVariants.{Less, Equal, Greater}
use Rattle.std.proofs.lemmas.Bool.{cases_Bool, and_from, and_parts, not-true, false≢true}
use Rattle.std.proofs.lemmas.Cmp.{then_total}
use Rattle.std.proofs.lemmas.List.Sorted.{ranks_by, sum_by-IsPermutation}
use Rattle.std.proofs.lemmas.List.Sums.{sum_by-cons}
use Rattle.gate_base.specs.declared.page.Pair.{Pair}
use Rattle.sigv4.specs.Canonical.{pair_cmp, ordered, is_ordered}
use Rattle.sigv4.proofs.OrderLemmas.{stands_ordered, stands_permuted}

abbrev pub before : Pair → Pair → Bool
before pair other = is_lt (pair_cmp pair other)

by_name : IsTotalOrder (λ (p : Pair) (q : Pair). slice_cmp nat_cmp p.name q.name)
by_name = record {
  antisymm = λ p q. nat_list_cmp_total.antisymm p.name q.name;
  trans = λ p q r. nat_list_cmp_total.trans p.name q.name r.name;
  congr = λ p q r. nat_list_cmp_total.congr p.name q.name r.name;
}

by_value : IsTotalOrder (λ (p : Pair) (q : Pair). slice_cmp nat_cmp p.value q.value)
by_value = record {
  antisymm = λ p q. nat_list_cmp_total.antisymm p.value q.value;
  trans = λ p q r. nat_list_cmp_total.trans p.value q.value r.value;
  congr = λ p q r. nat_list_cmp_total.congr p.value q.value r.value;
}

total : IsTotalOrder pair_cmp
total = then_total by_name by_value

pub strict : IsStrictWeakOrder before
strict = ranks_by total (λ pair. pair)

both_equal : (a b : Ordering) → ordering_then a b ≡ Equal → (a ≡ Equal) × (b ≡ Equal)
both_equal Less b h = let never : ⊥ = cc in absurd never
both_equal Equal b h = (refl, h)
both_equal Greater b h = let never : ⊥ = cc in absurd never

neither : (a : Ordering) → is_lt a ≡ false → is_lt (ordering_reverse a) ≡ false → a ≡ Equal
neither Less h k = absurd (false≢true (sym h))
neither Equal h k = refl
neither Greater h k = absurd (false≢true (sym k))

same_pair : (p q : Pair) → before p q ≡ false → before q p ≡ false → p ≡ q
same_pair p q h k =
    let turned : is_lt (ordering_reverse (pair_cmp p q)) ≡ false = ap is_lt (sym (total.antisymm q p)) ∙ k in
    let parts = both_equal (slice_cmp nat_cmp p.name q.name) (slice_cmp nat_cmp p.value q.value) (neither (pair_cmp p q) h turned) in
    let name : p.name ≡ q.name = slice_cmp-IsAntisymmetric nat_cmp-IsAntisymmetric p.name q.name parts.0 in
    let value : p.value ≡ q.value = slice_cmp-IsAntisymmetric nat_cmp-IsAntisymmetric p.value q.value parts.1 in
    λ i. record { name = name i; value = value i }

-- neither stands before the other
abbrev ties : Pair → Pair → Bool
ties p q = not (before p q) && not (before q p)

ties_self : (p : Pair) → ties p p ≡ true
ties_self p =
    let at_rest : before p p ≡ false = elim (cases_Bool (before p p)) [ inl e ↦ strict.one_way p p e | inr e ↦ e ] in
    and_from (not (before p p)) (not (before p p)) (ap not at_rest) (ap not at_rest)

-- what stands before a pair stands before the next one
stays_before : (p q r : Pair) → before p q ≡ true → before r q ≡ false → before p r ≡ true
stays_before p q r h k =
    elim (cases_Bool (before p r)) [ inl e ↦ e | inr e ↦ absurd (false≢true (sym (strict.chain p r q e k) ∙ h)) ]

abbrev one_if : Bool → ℕ
one_if b = cond b 1 0

count_cons : (test : Pair → Bool) (p : Pair) (ps : List Pair) → count_by test (p ∷ ps) ≡ one_if (test p) + count_by test ps
count_cons test p ps = sum_by-cons (λ q. one_if (test q)) p ps

-- a pair that stands before the first of a list in order is not in the list
none_tie : (p q : Pair) (qs : List Pair) → before p q ≡ true → is_ordered (q ∷ qs) ≡ true → count_by (ties p) (q ∷ qs) ≡ 0
unfolding is_ordered
none_tie p q [] h o = count_cons (ties p) q [] ∙ ap (λ b. one_if (not b && not (before q p)) + 0) h
none_tie p q (r ∷ qs) h o =
    let parts = and_parts (not (before r q)) (is_ordered (r ∷ qs)) o in
    let further = stays_before p q r h (not-true (before r q) parts.0) in
    let here : one_if (ties p q) ≡ 0 = ap (λ b. one_if (not b && not (before q p))) h in
    let there = none_tie p r qs further parts.1 in
    rw (count_cons (ties p) q (r ∷ qs), here, there) refl

-- a pair is in each list that has it first
one_ties : (p : Pair) (ps : List Pair) → count_by (ties p) (p ∷ ps) ≡ 1 + count_by (ties p) ps
one_ties p ps = count_cons (ties p) p ps ∙ ap (λ b. one_if b + count_by (ties p) ps) (ties_self p)

tail_ordered : (p : Pair) (ps : List Pair) → is_ordered (p ∷ ps) ≡ true → is_ordered ps ≡ true
unfolding is_ordered
tail_ordered p [] h = refl
tail_ordered p (q ∷ ps) h = (and_parts (not (before q p)) (is_ordered (q ∷ ps)) h).1

cancelled : (a b c : ℕ) → a + b ≡ a + c → b ≡ c
cancelled a b c h = omega arith

-- two lists in order with the same counts are the same
unique : (ps qs : List Pair) → is_ordered ps ≡ true → is_ordered qs ≡ true → ((test : Pair → Bool) → count_by test ps ≡ count_by test qs) → ps ≡ qs
unique [] [] o u counts = refl
unique [] (q ∷ qs) o u counts = let e : 0 ≡ 1 + count_by (ties q) qs = counts (ties q) ∙ one_ties q qs in absurd (omega arith)
unique (p ∷ ps) [] o u counts = let e : 1 + count_by (ties p) ps ≡ 0 = sym (one_ties p ps) ∙ counts (ties p) in absurd (omega arith)
unique (p ∷ ps) (q ∷ qs) o u counts =
    elim (cases_Bool (before p q)) [
      | inl e ↦ let never : 1 + count_by (ties p) ps ≡ 0 = sym (one_ties p ps) ∙ (counts (ties p) ∙ none_tie p q qs e u) in absurd (omega arith)
      | inr e ↦ elim (cases_Bool (before q p)) [
        | inl f ↦ let never : 0 ≡ 1 + count_by (ties q) qs = sym (none_tie q p ps f o) ∙ (counts (ties q) ∙ one_ties q qs) in absurd (omega arith)
        | inr f ↦
            let first : p ≡ q = same_pair p q e f in
            let rest : ps ≡ qs = unique ps qs (tail_ordered p ps o) (tail_ordered q qs u) (λ test. cancelled (one_if (test p)) (count_by test ps) (count_by test qs) (sym (count_cons test p ps) ∙ (counts test ∙ (count_cons test q qs ∙ ap (λ z. one_if (test z) + count_by test qs) (sym first))))) in
            λ i. first i ∷ rest i
      ]
    ]

-- a list in order with the pairs of another is that one in order
pub only_order : (pairs sorted : List Pair) → is_ordered sorted ≡ true → IsPermutation pairs sorted → sorted ≡ ordered pairs
only_order pairs sorted o perm =
    unique sorted (ordered pairs) o (stands_ordered pairs) (λ test. sum_by-IsPermutation (λ p. one_if (test p)) pairs sorted perm ∙ sym (sum_by-IsPermutation (λ p. one_if (test p)) pairs (ordered pairs) (stands_permuted pairs)))

-- what std's sort says of neighbours, by their places
pub from_places : (ps : List Pair) → IsSortedBy before ps → is_ordered ps ≡ true
unfolding is_ordered
from_places [] h = refl
from_places (p ∷ []) h = refl
from_places (p ∷ q ∷ ps) h =
    and_from (not (before q p)) (is_ordered (q ∷ ps)) (ap not (h 0 p (omega arith) (omega arith)))
    (from_places (q ∷ ps) (λ k d low high. let next : suc k + 1 ≡ suc (k + 1) = omega arith in rw next at (h (suc k) d (omega arith) (omega arith))))
