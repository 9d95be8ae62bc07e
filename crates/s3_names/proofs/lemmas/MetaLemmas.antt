-- Pairs in the order of their names.
use Rattle.std.proofs.Common.{◌≡◌, ℕ, ◌+◌, ◌≤◌, Bool, true, false, cond, not, ltb, List, [], ◌∷◌, ◌++◌, length, take, drop, Some, None, position, unwrap_or, suc, inl, inr, refl, ap, sym, subst, ◌∙◌, arith}
use Rattle.std.specs.Cmp.{unsigned_ties}
use Rattle.std.specs.Cmp.Lexicographic.{slice_cmp, lists_ties, nat_list_cmp_total}
use Rattle.std.specs.Ordering.{nat_cmp, is_lt, is_eq, ordering_reverse}
use Rattle.std.specs.declared.cmp.Ordering.{Ordering}
use Rattle.std.specs.declared.cmp.Ordering.TheVariants.{Less, Equal, Greater}
use Rattle.std.specs.Str.{bytes_eq}
use Rattle.std.proofs.lemmas.Bool.{cases_Bool, and_from, and_parts, or_from, or_parts}
use Rattle.std.proofs.lemmas.Bool.Decides.{nat_tests}
use Rattle.std.proofs.lemmas.List.{take-append-drop}
use Rattle.std.proofs.lemmas.List.Elements.{Contains-append_left, Contains-append_right, Contains-append_cases, Contains-push, Contains-push_cases}
use Rattle.std.proofs.lemmas.List.Sums.{prefix_len-le-length}
use Rattle.std.specs.Prelude.{◌⊎◌, Contains}
use Rattle.gate_base.specs.declared.page.Pair.{Pair}
use Rattle.s3_names.specs.Laws.{HasOneMore}
use Rattle.s3_names.specs.Meta.{is_before, names_ascend, has_name, place_of, with_pair}

-- the place is in the list or at its end
pub place_within : (name : List ℕ) (pairs : List Pair) → place_of name pairs ≤ length pairs
place_within name pairs = prefix_len-le-length (λ pair. not (not (is_before name pair))) pairs

pub place_is : (name : List ℕ) (pairs : List Pair) → unwrap_or (position (λ pair. not (is_before name pair)) pairs) (length pairs) ≡ place_of name pairs
place_is name pairs = from_test (ltb (place_of name pairs) (length pairs)) refl
  where
    from_test : (b : Bool) → ltb (place_of name pairs) (length pairs) ≡ b
        → unwrap_or (cond b (Some (place_of name pairs)) None) (length pairs) ≡ place_of name pairs
    from_test true e = refl
    from_test false e = let within = place_within name pairs in grind (arith, nat_tests)

reversed : (o : Ordering) → is_lt o ≡ false → is_eq o ≡ false → is_lt (ordering_reverse o) ≡ true
reversed Less h k = sym h
reversed Equal h k = sym k
reversed Greater h k = refl

-- two different names stand one way or the other
apart : (a b : List ℕ) → is_lt (slice_cmp nat_cmp a b) ≡ false → bytes_eq a b ≡ false → is_lt (slice_cmp nat_cmp b a) ≡ true
apart a b later other =
    let unequal : is_eq (slice_cmp nat_cmp a b) ≡ false = sym (lists_ties nat_cmp unsigned_ties a b) ∙ other in
    ap is_lt (nat_list_cmp_total.antisymm b a) ∙ reversed (slice_cmp nat_cmp a b) later unequal

with_pair-nil : (name value : List ℕ) → with_pair name value [] ≡ record { name = name; value = value } ∷ []
unfolding with_pair
with_pair-nil name value = refl

-- a pair goes behind those that stand before it
with_pair_behind : (name value : List ℕ) (q : Pair) (qs : List Pair) → is_before name q ≡ true → with_pair name value (q ∷ qs) ≡ q ∷ with_pair name value qs
unfolding with_pair
with_pair_behind name value q qs e =
    let next : place_of name (q ∷ qs) ≡ suc (place_of name qs) = ap (λ b. cond (not (not b)) (1 + place_of name qs) 0) e ∙ omega arith in
    rw next refl

with_pair_front : (name value : List ℕ) (q : Pair) (qs : List Pair) → is_before name q ≡ false
    → with_pair name value (q ∷ qs) ≡ record { name = name; value = value } ∷ q ∷ qs
unfolding with_pair
with_pair_front name value q qs e =
    let next : place_of name (q ∷ qs) ≡ 0 = ap (λ b. cond (not (not b)) (1 + place_of name qs) 0) e in
    rw next refl

abbrev head_is_after : Pair → List Pair → Bool
head_is_after q [] = true
head_is_after q (r ∷ rs) = is_before r.name q

ascend_cons : (q : Pair) (qs : List Pair) → head_is_after q qs ≡ true → names_ascend qs ≡ true → names_ascend (q ∷ qs) ≡ true
unfolding names_ascend
ascend_cons q [] h k = refl
ascend_cons q (r ∷ rs) h k = and_from _ _ h k

ascend_head : (q : Pair) (qs : List Pair) → names_ascend (q ∷ qs) ≡ true → head_is_after q qs ≡ true
unfolding names_ascend
ascend_head q [] h = refl
ascend_head q (r ∷ rs) h = (and_parts _ (names_ascend (r ∷ rs)) h).0

ascend_tail : (q : Pair) (qs : List Pair) → names_ascend (q ∷ qs) ≡ true → names_ascend qs ≡ true
unfolding names_ascend
ascend_tail q [] h = refl
ascend_tail q (r ∷ rs) h = (and_parts (is_before r.name q) _ h).1

-- what a pair stands before, it stands before with one more
head_stays : (name value : List ℕ) (q : Pair) (qs : List Pair) → is_before name q ≡ true → head_is_after q qs ≡ true
    → head_is_after q (with_pair name value qs) ≡ true
head_stays name value q [] before h = rw (with_pair-nil name value) before
head_stays name value q (r ∷ rs) before h =
    elim (cases_Bool (is_before name r)) [
      | inl e ↦ rw (with_pair_behind name value r rs e) h
      | inr e ↦ rw (with_pair_front name value r rs e) before
    ]

pub with_pair_ascends : (name value : List ℕ) (pairs : List Pair) → names_ascend pairs ≡ true → has_name name pairs ≡ false
    → names_ascend (with_pair name value pairs) ≡ true
unfolding names_ascend
with_pair_ascends name value [] ascend fresh = rw (with_pair-nil name value) refl
with_pair_ascends name value (q ∷ qs) ascend fresh =
    let parts = or_parts (bytes_eq q.name name) (has_name name qs) fresh in
    elim (cases_Bool (is_before name q)) [
      | inl e ↦ rw (with_pair_behind name value q qs e) (ascend_cons q (with_pair name value qs) (head_stays name value q qs e (ascend_head q qs ascend)) (with_pair_ascends name value qs (ascend_tail q qs ascend) parts.1))
      | inr e ↦ rw (with_pair_front name value q qs e) (ascend_cons (record { name = name; value = value }) (q ∷ qs) (apart q.name name e parts.0) ascend)
    ]

less_where : (o : Ordering) → is_lt o ≡ true → o ≡ Less
less_where Less h = refl
less_where Equal h = cc
less_where Greater h = cc

before_through : (a b c : List ℕ) → is_lt (slice_cmp nat_cmp a b) ≡ true → is_lt (slice_cmp nat_cmp b c) ≡ true → is_lt (slice_cmp nat_cmp a c) ≡ true
before_through a b c h k = ap is_lt (nat_list_cmp_total.trans a b c (less_where _ h) (less_where _ k))

before_is_other : (a b : List ℕ) → is_lt (slice_cmp nat_cmp a b) ≡ true → bytes_eq a b ≡ false
before_is_other a b h = lists_ties nat_cmp unsigned_ties a b ∙ ap is_eq (less_where (slice_cmp nat_cmp a b) h)

-- the first pair stands before the last
ascend_last : (q : Pair) (qs : List Pair) (last : Pair) → names_ascend (q ∷ qs ++ last ∷ []) ≡ true → is_before last.name q ≡ true
ascend_last q [] last h = ascend_head q (last ∷ []) h
ascend_last q (r ∷ rs) last h =
    before_through q.name r.name last.name (ascend_head q (r ∷ rs ++ last ∷ []) h) (ascend_last r rs last (ascend_tail q (r ∷ rs ++ last ∷ []) h))

-- a pair whose name stands behind all others is put at the end
pub with_pair_push : (pairs : List Pair) (last : Pair) → names_ascend (pairs ++ last ∷ []) ≡ true → (has_name last.name pairs ≡ false)
    × (with_pair last.name last.value pairs ≡ pairs ++ last ∷ [])
with_pair_push [] last h = (refl, with_pair-nil last.name last.value)
with_pair_push (q ∷ qs) last h =
    let more = with_pair_push qs last (ascend_tail q (qs ++ last ∷ []) h) in
    let before = ascend_last q qs last h in
    (or_from _ _ (before_is_other q.name last.name before) more.0, with_pair_behind last.name last.value q qs before ∙ ap (λ x. q ∷ x) more.1)

-- ---- the elements with one more pair

pub with_pair_keeps : (name value : List ℕ) (pairs : List Pair) (pair : Pair) → Contains pairs pair → Contains (with_pair name value pairs) pair
unfolding with_pair
with_pair_keeps name value pairs pair c =
    stays (Contains-append_cases (take (place_of name pairs) pairs) (drop (place_of name pairs) pairs) pair (subst (λ all. Contains all pair) (sym (take-append-drop (place_of name pairs) pairs)) c))
  where
    stays : Contains (take (place_of name pairs) pairs) pair ⊎ Contains (drop (place_of name pairs) pairs) pair
        → Contains (take (place_of name pairs) pairs ++ record { name = name; value = value } ∷ drop (place_of name pairs) pairs) pair
    stays (inl first) = Contains-append_left (take (place_of name pairs) pairs) (record { name = name; value = value } ∷ drop (place_of name pairs) pairs) pair first
    stays (inr last) =
        Contains-append_right (take (place_of name pairs) pairs) (record { name = name; value = value } ∷ drop (place_of name pairs) pairs) pair
        (Contains-append_right (record { name = name; value = value } ∷ []) (drop (place_of name pairs) pairs) pair last)

pub with_pair_has : (name value : List ℕ) (pairs : List Pair) → Contains (with_pair name value pairs) (record { name = name; value = value })
unfolding with_pair
with_pair_has name value pairs =
    let pair : Pair = record { name = name; value = value } in
    Contains-append_right (take (place_of name pairs) pairs) (pair ∷ drop (place_of name pairs) pairs) pair
    (Contains-append_left (pair ∷ []) (drop (place_of name pairs) pairs) pair (Contains-push [] pair))

pub nowhere : (pair : Pair) → Contains [] pair → ⊥
nowhere pair (k, below, at) = omega (arith, below)

pub is_one : (one pair : Pair) → Contains (one ∷ []) pair → pair ≡ one
is_one one pair c = sym (of (Contains-push_cases [] one pair c))
  where
    of : Contains [] pair ⊎ (one ≡ pair) → one ≡ pair
    of (inl c) = absurd (nowhere pair c)
    of (inr same) = same

pub with_pair_only : (name value : List ℕ) (pairs : List Pair) (pair : Pair) → Contains (with_pair name value pairs) pair → (pair ≡ record { name = name; value = value }) ⊎ Contains pairs pair
unfolding with_pair
with_pair_only name value pairs pair c =
    of (Contains-append_cases (take (place_of name pairs) pairs) (record { name = name; value = value } ∷ drop (place_of name pairs) pairs) pair c)
  where
    whole : Contains (take (place_of name pairs) pairs ++ drop (place_of name pairs) pairs) pair → Contains pairs pair
    whole d = subst (λ all. Contains all pair) (take-append-drop (place_of name pairs) pairs) d

    new : Contains (record { name = name; value = value } ∷ []) pair ⊎ Contains (drop (place_of name pairs) pairs) pair → (pair ≡ record { name = name; value = value }) ⊎ Contains pairs pair
    new (inl one) = inl (is_one (record { name = name; value = value }) pair one)
    new (inr last) = inr (whole (Contains-append_right (take (place_of name pairs) pairs) (drop (place_of name pairs) pairs) pair last))

    of : Contains (take (place_of name pairs) pairs) pair ⊎ Contains (record { name = name; value = value } ∷ drop (place_of name pairs) pairs) pair → (pair ≡ record { name = name; value = value }) ⊎ Contains pairs pair
    of (inl first) = inr (whole (Contains-append_left (take (place_of name pairs) pairs) (drop (place_of name pairs) pairs) pair first))
    of (inr rest) = new (Contains-append_cases (record { name = name; value = value } ∷ []) (drop (place_of name pairs) pairs) pair rest)

pub with_pair_is : (name value : List ℕ) (pairs : List Pair) → names_ascend pairs ≡ true → has_name name pairs ≡ false → HasOneMore (record { name = name; value = value }) pairs (with_pair name value pairs)
with_pair_is name value pairs ascends new = record {
  ascends = with_pair_ascends name value pairs ascends new;
  only = λ pair c. with_pair_only name value pairs pair c;
  has = with_pair_has name value pairs;
  keeps = λ pair c. with_pair_keeps name value pairs pair c;
}
