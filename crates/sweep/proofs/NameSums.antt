-- Sums over names.
use Rattle.std.specs.Prelude.{◌≡◌, ◌≤◌, ◌+◌, ◌⊎◌, ℕ, Bool, true, false, cond, T, ◌&&◌, ◌||◌, List, [], ◌∷◌, map, length, sum_by}
use Rattle.std.specs.List.{filter, list_any}
use Rattle.std.specs.Ordering.{eq_by_cmp, is_eq, is_lt}
use Rattle.std.specs.declared.cmp.Ordering.{Ordering}
use Rattle.std.specs.declared.cmp.Ordering.TheVariants.{Less, Equal, Greater}
use Rattle.std.specs.FinMap.{entries, entries_sorted, is_sorted, keys}
use Rattle.std.specs.FinMap.Entries.{below_all}
use Rattle.std.proofs.Common.{refl, sym, ap, ◌∙◌, inl, inr, arith, true≢false}
use Rattle.std.proofs.lemmas.List.Sums.{sum_by-cons}
use Rattle.gate_base.specs.Maps.{Names, name_cmp}
use Rattle.gate_base.proofs.lemmas.Maps.{by_name, key_itself, same_key}

-- ---- sums of the same names

module _ (f g : List ℕ → ℕ) where
  pub sum_le : (ks : List (List ℕ)) → ((k : List ℕ) → f k ≤ g k) → sum_by f ks ≤ sum_by g ks
  sum_le [] le = omega arith
  sum_le (k ∷ ks) le = let one = le k in let rest = sum_le ks le in omega (arith, one, rest, sum_by-cons f k ks, sum_by-cons g k ks)

  pub sum_same : (ks : List (List ℕ)) → ((k : List ℕ) → f k ≡ g k) → sum_by f ks ≡ sum_by g ks
  sum_same [] same = refl
  sum_same (k ∷ ks) same = let one = same k in let rest = sum_same ks same in omega (arith, one, rest, sum_by-cons f k ks, sum_by-cons g k ks)

  pub sum_plus : (ks : List (List ℕ)) → sum_by (λ k. f k + g k) ks ≡ sum_by f ks + sum_by g ks
  sum_plus [] = omega arith
  sum_plus (k ∷ ks) = let rest = sum_plus ks in omega (arith, rest, sum_by-cons f k ks, sum_by-cons g k ks, sum_by-cons (λ k. f k + g k) k ks)

pub sum_none : (f : List ℕ → ℕ) (ks : List (List ℕ)) → ((k : List ℕ) → f k ≡ 0) → sum_by f ks ≡ 0
sum_none f [] none = refl
sum_none f (k ∷ ks) none = let one = none k in let rest = sum_none f ks none in omega (arith, one, rest, sum_by-cons f k ks)

pub sum_filter : (p : List ℕ → Bool) (f : List ℕ → ℕ) (ks : List (List ℕ)) → sum_by f (filter p ks) ≡ sum_by (λ k. cond (p k) (f k) 0) ks
sum_filter p f [] = refl
sum_filter p f (k ∷ ks) =
    let rest = sum_filter p f ks in
    let head = sum_by-cons (λ k. cond (p k) (f k) 0) k ks in
    elim (p k) as (λ t. sum_by (λ k. cond (p k) (f k) 0) (k ∷ ks) ≡ cond t (f k) 0 + sum_by (λ k. cond (p k) (f k) 0) ks → sum_by f (cond t (k ∷ filter p ks) (filter p ks)) ≡ sum_by (λ k. cond (p k) (f k) 0) (k ∷ ks)) [
      | true ↦ λ h. omega (arith, rest, h, sum_by-cons f k (filter p ks))
      | false ↦ λ h. omega (arith, rest, h)
    ] head

pub length_filter : (p : List ℕ → Bool) (ks : List (List ℕ)) → length (filter p ks) ≡ sum_by (λ k. cond (p k) 1 0) ks
length_filter p [] = refl
length_filter p (k ∷ ks) =
    let rest = length_filter p ks in
    let head = sum_by-cons (λ k. cond (p k) 1 0) k ks in
    elim (p k) as (λ t. sum_by (λ k. cond (p k) 1 0) (k ∷ ks) ≡ cond t 1 0 + sum_by (λ k. cond (p k) 1 0) ks → length (cond t (k ∷ filter p ks) (filter p ks)) ≡ sum_by (λ k. cond (p k) 1 0) (k ∷ ks)) [
      | true ↦ λ h. omega (arith, rest, h)
      | false ↦ λ h. omega (arith, rest, h)
    ] head

-- ---- names that differ

abbrev pub is_one_of : List ℕ → List (List ℕ) → Bool
is_one_of q ks = list_any (eq_by_cmp name_cmp q) ks

abbrev pub Differ : List (List ℕ) → Type 0
Differ [] = Unit {0}
Differ (k ∷ ks) = (is_one_of k ks ≡ false) × Differ ks

less_not_equal : (o : Ordering) → T (is_lt o) → is_eq o ≡ false
less_not_equal Less h = refl
less_not_equal Equal h = absurd h
less_not_equal Greater h = absurd h

front : (s t : Bool) → T (s && t) → T s
front true t h = tt
front false t h = absurd h

back : (s t : Bool) → T (s && t) → T t
back true t h = h
back false t h = absurd h

none_below : {X : Type 0} (q : List ℕ) (es : List (List ℕ × X)) → T (below_all name_cmp q es) → is_one_of q (map (λ e. e.0) es) ≡ false
none_below q [] below = refl
none_below q (e ∷ es) below =
    (λ i. less_not_equal (name_cmp q e.0) (front (is_lt (name_cmp q e.0)) (below_all name_cmp q es) below) i || none_below q es (back (is_lt (name_cmp q e.0)) (below_all name_cmp q es) below) i)

differ_sorted : {X : Type 0} (es : List (List ℕ × X)) → T (is_sorted name_cmp es) → Differ (map (λ e. e.0) es)
differ_sorted [] sorted = tt
differ_sorted (e ∷ es) sorted =
    (none_below e.0 es (front (below_all name_cmp e.0 es) (is_sorted name_cmp es) sorted), differ_sorted es (back (below_all name_cmp e.0 es) (is_sorted name_cmp es) sorted))

pub keys_differ : {X : Type 0} (m : Names X) → Differ (keys m)
keys_differ m = differ_sorted (entries m) (entries_sorted m)

-- ---- sums of other names: each of these leads to one of those, and no two to the same

or_false : (s t : Bool) → (s || t) ≡ false → (s ≡ false) × (t ≡ false)
or_false true t e = absurd (true≢false e)
or_false false t e = (refl, e)

module _ (to from : List ℕ → List ℕ) where
  -- what is counted of a name is no more than what is of the one that it leads to, and it leads back, or nothing is counted of it
  pub record Leads (u w : List ℕ → ℕ) : Type 0 where
    pub within : (k : List ℕ) → u k ≤ w (to k)
    pub returns : (k : List ℕ) → (u k ≡ 0) ⊎ (from (to k) ≡ k)

  -- without those that lead to this one
  abbrev past : List ℕ → (List ℕ → ℕ) → List ℕ → ℕ
  past x u k = cond (eq_by_cmp name_cmp (to k) x) 0 (u k)

  abbrev but : List ℕ → (List ℕ → ℕ) → List ℕ → ℕ
  but x w y = cond (eq_by_cmp name_cmp y x) 0 (w y)

  module _ (u w : List ℕ → ℕ) (leads : Leads u w) (x : List ℕ) where
    zero_past : (t : Bool) (n : ℕ) → n ≡ 0 → cond t 0 n ≡ 0
    zero_past true n e = refl
    zero_past false n e = e

    -- one that isn't led back to counts as before
    one_past : (k : List ℕ) → eq_by_cmp name_cmp (from x) k ≡ false → past x u k ≡ u k
    one_past k other = elim (same_key by_name (to k) x) [
      | inl e ↦ elim (leads.returns k) [
        | inl none ↦ zero_past (eq_by_cmp name_cmp (to k) x) (u k) none ∙ sym none
        | inr back ↦ let here : from x ≡ k = ap from (sym e) ∙ back in absurd (true≢false (sym (key_itself by_name k) ∙ sym (ap (λ q. eq_by_cmp name_cmp q k) here) ∙ other))
      ]
      | inr a ↦ ap (λ t. cond t 0 (u k)) a
    ]

    none_past : (ks : List (List ℕ)) → is_one_of (from x) ks ≡ false → sum_by (past x u) ks ≡ sum_by u ks
    none_past [] other = refl
    none_past (k ∷ ks) other =
        let both = or_false (eq_by_cmp name_cmp (from x) k) (is_one_of (from x) ks) other in
        let one = one_past k both.0 in
        let rest = none_past ks both.1 in
        omega (arith, one, rest, sum_by-cons (past x u) k ks, sum_by-cons u k ks)

    one_goes : (ks : List (List ℕ)) → Differ ks → sum_by u ks ≤ w x + sum_by (past x u) ks
    one_goes [] differ = omega arith
    one_goes (k ∷ ks) differ =
        let rest = one_goes ks differ.1 in
        let heads = sum_by-cons (past x u) k ks in
        let headu = sum_by-cons u k ks in
        elim (same_key by_name (to k) x) [
          | inl e ↦ elim (leads.returns k) [
            | inl none ↦ omega (arith, none, rest, heads, headu)
            | inr back ↦
                let here : from x ≡ k = ap from (sym e) ∙ back in
                let same = none_past ks (ap (λ q. is_one_of q ks) here ∙ differ.0) in
                let near = leads.within k in
                omega (arith, near, ap w e, same, heads, headu)
          ]
          | inr a ↦ let one : past x u k ≡ u k = ap (λ t. cond t 0 (u k)) a in omega (arith, one, rest, heads, headu)
        ]

    both_less : (t : Bool) (m n : ℕ) → m ≤ n → cond t 0 m ≤ cond t 0 n
    both_less true m n le = omega arith
    both_less false m n le = le

    but_less : (y : List ℕ) → but x w y ≤ w y
    but_less y = elim (eq_by_cmp name_cmp y x) as (λ t. cond t 0 (w y) ≤ w y) [ true ↦ omega arith | false ↦ omega arith ]

    leads_past : Leads (past x u) (but x w)
    leads_past = record {
      within = λ k. both_less (eq_by_cmp name_cmp (to k) x) (u k) (w (to k)) (leads.within k);
      returns = λ k. elim (leads.returns k) [ inl none ↦ inl (zero_past (eq_by_cmp name_cmp (to k) x) (u k) none) | inr back ↦ inr back ];
    }

  -- so the sum of these is no more than the sum of those
  pub sum_led : (names : List (List ℕ)) (u w : List ℕ → ℕ) → Leads u w → ((y : List ℕ) → is_one_of y names ≡ false → w y ≡ 0) → (ks : List (List ℕ)) → Differ ks → sum_by u ks ≤ sum_by w names
  sum_led [] u w leads none ks differ =
      let all = sum_none u ks (λ k. let near = leads.within k in omega (arith, near, none (to k) refl)) in
      omega (arith, all)
  sum_led (x ∷ names) u w leads none ks differ =
      let first = one_goes u w leads x ks differ in
      let rest = sum_led names (past x u) (but x w) (leads_past u w leads x) (λ y other. but_none y other (eq_by_cmp name_cmp y x) refl) ks differ in
      let less = sum_le (but x w) w names (but_less u w leads x) in
      omega (arith, first, rest, less, sum_by-cons w x names)
    where
      but_none : (y : List ℕ) → is_one_of y names ≡ false → (t : Bool) → eq_by_cmp name_cmp y x ≡ t → cond t 0 (w y) ≡ 0
      but_none y other true e = refl
      but_none y other false e = none y ((λ i. e i || other i))
