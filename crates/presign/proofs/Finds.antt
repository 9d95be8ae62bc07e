-- What a list and a list of the same pairs in another order find.
use Rattle.std.proofs.Common.{◌≡◌, ℕ, ◌+◌, ◌<◌, Bool, true, false, cond, not, ◌||◌, List, [], ◌∷◌, ◌++◌, All, Option, Some, None, count_by, refl, ap, sym, ◌∙◌, inl, inr, arith}
use Rattle.std.specs.Prelude.{IsPermutation, find, filter}
use Rattle.std.specs.List.{list_any}
use Rattle.std.proofs.lemmas.Bool.{cases_Bool, false≢true, or_parts}
use Rattle.std.proofs.lemmas.List.Elements.{All-nil, All-cons, All-head, All-tail}
use Rattle.std.proofs.lemmas.List.Sorted.{All-permutation, sum_by-IsPermutation}
use Rattle.std.proofs.lemmas.List.Sums.{sum_by-cons, sum_by-append}
use Rattle.gate_base.specs.declared.page.Pair.{Pair}

abbrev one_if : Bool → ℕ
one_if b = cond b 1 0

module _ (p : Pair → Bool) where
  count_cons : (q : Pair) (qs : List Pair) → count_by p (q ∷ qs) ≡ one_if (p q) + count_by p qs
  count_cons q qs = sum_by-cons (λ r. one_if (p r)) q qs

  count_here : (q : Pair) (qs : List Pair) → p q ≡ true → count_by p (q ∷ qs) ≡ 1 + count_by p qs
  count_here q qs e = count_cons q qs ∙ ap (λ b. one_if b + count_by p qs) e

  count_past : (q : Pair) (qs : List Pair) → p q ≡ false → count_by p (q ∷ qs) ≡ count_by p qs
  count_past q qs e = count_cons q qs ∙ ap (λ b. one_if b + count_by p qs) e ∙ omega arith

  -- where none passes, of a pair that does anything is said
  none_says : (X : Pair → Type 0) (qs : List Pair) → count_by p qs ≡ 0 → All (λ q. p q ≡ true → X q) qs
  none_says X [] none = All-nil (λ q. p q ≡ true → X q)
  none_says X (q ∷ qs) none =
      elim (cases_Bool (p q)) [
        | inl e ↦ let more = count_here q qs e in absurd (omega arith)
        | inr e ↦ All-cons (λ r. p r ≡ true → X r) q qs (λ h. absurd (false≢true (sym e ∙ h))) (none_says X qs (sym (count_past q qs e) ∙ none))
      ]

  -- the one that passes is found
  one_found : (qs : List Pair) → count_by p qs ≡ 1 → All (λ q. p q ≡ true → find p qs ≡ Some q) qs
  one_found [] one = All-nil (λ q. p q ≡ true → None ≡ Some q)
  one_found (q ∷ qs) one =
      elim (cases_Bool (p q)) [
        | inl e ↦
            let more = count_here q qs e in
            let none : count_by p qs ≡ 0 = omega arith in
            All-cons (λ r. p r ≡ true → find p (q ∷ qs) ≡ Some r) q qs (λ h. ap (λ b. cond b (Some q) (find p qs)) e) (none_says (λ r. find p (q ∷ qs) ≡ Some r) qs none)
        | inr e ↦
            let P : Pair → Type 0 = λ r. p r ≡ true → find p (q ∷ qs) ≡ Some r in
            let past : find p (q ∷ qs) ≡ find p qs = ap (λ b. cond b (Some q) (find p qs)) e in
            let rest = one_found qs (sym (count_past q qs e) ∙ one) in
            All-cons P q qs (λ h. absurd (false≢true (sym e ∙ h))) (λ k d lt h. past ∙ rest k d lt h)
      ]

  -- where some passes, it is found
  found_by : (answer : Option Pair) (qs : List Pair) → 0 < count_by p qs → All (λ q. p q ≡ true → answer ≡ Some q) qs → find p qs ≡ answer
  found_by answer [] some all = absurd (omega arith)
  found_by answer (q ∷ qs) some all =
      elim (cases_Bool (p q)) [
        | inl e ↦ ap (λ b. cond b (Some q) (find p qs)) e ∙ sym (All-head (λ r. p r ≡ true → answer ≡ Some r) q qs all e)
        | inr e ↦
            let fewer = count_past q qs e in
            ap (λ b. cond b (Some q) (find p qs)) e ∙ found_by answer qs (omega arith) (All-tail (λ r. p r ≡ true → answer ≡ Some r) q qs all)
      ]

  pub moved_count : (ps qs : List Pair) → IsPermutation ps qs → count_by p qs ≡ count_by p ps
  moved_count ps qs moved = sum_by-IsPermutation (λ r. one_if (p r)) ps qs moved

  -- the one that passes is found in each order
  pub moved_find : (ps qs : List Pair) → IsPermutation ps qs → count_by p ps ≡ 1 → find p qs ≡ find p ps
  moved_find ps qs moved one =
      let same = moved_count ps qs moved in
      found_by (find p ps) qs (omega arith) (All-permutation (λ q. p q ≡ true → find p ps ≡ Some q) ps qs moved (one_found ps one))

  -- behind pairs none of which passes
  none_count : (ps : List Pair) → list_any p ps ≡ false → count_by p ps ≡ 0
  none_count [] none = refl
  none_count (q ∷ ps) none =
      let parts = or_parts (p q) (list_any p ps) none in
      count_past q ps parts.0 ∙ none_count ps parts.1

  pub behind_count : (ps qs : List Pair) → list_any p ps ≡ false → count_by p (ps ++ qs) ≡ count_by p qs
  behind_count ps qs none =
      let both = sum_by-append (λ r. one_if (p r)) ps qs in
      let zero_there = none_count ps none in
      omega arith

  pub behind_find : (ps qs : List Pair) → list_any p ps ≡ false → find p (ps ++ qs) ≡ find p qs
  behind_find [] qs none = refl
  behind_find (q ∷ ps) qs none =
      let parts = or_parts (p q) (list_any p ps) none in
      ap (λ b. cond b (Some q) (find p (ps ++ qs))) parts.0 ∙ behind_find ps qs parts.1

  pub behind_any : (ps qs : List Pair) → list_any p ps ≡ false → list_any p (ps ++ qs) ≡ list_any p qs
  behind_any [] qs none = refl
  behind_any (q ∷ ps) qs none =
      let parts = or_parts (p q) (list_any p ps) none in
      ap (λ b. b || list_any p (ps ++ qs)) parts.0 ∙ behind_any ps qs parts.1

  -- what is kept where none goes
  pub all_kept : (ps : List Pair) → list_any p ps ≡ false → filter (λ q. not (p q)) ps ≡ ps
  all_kept [] none = refl
  all_kept (q ∷ ps) none =
      let parts = or_parts (p q) (list_any p ps) none in
      ap (λ b. cond (not b) (q ∷ filter (λ r. not (p r)) ps) (filter (λ r. not (p r)) ps)) parts.0 ∙ ap (λ rs. q ∷ rs) (all_kept ps parts.1)
