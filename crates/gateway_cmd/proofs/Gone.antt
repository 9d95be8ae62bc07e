-- How many completions are gone, where the first of those that were to be forgotten are: each is named once, and what isn't named stays.
use Rattle.std.specs.Prelude.{◌≡◌, ◌≤◌, ◌&&◌, ◌||◌, ◌++◌, ℕ, zero, suc, Bool, true, false, not, cond, T, is_some, List, [], ◌∷◌, map, flat_map, length, take, Option, None, Some, option_and_then, option_map}
use Rattle.std.specs.declared.cmp.Ordering.{Ordering}
use Rattle.std.specs.declared.cmp.Ordering.TheVariants.{Less, Equal, Greater}
use Rattle.std.specs.Ordering.{is_eq, is_lt, eq_by_cmp}
use Rattle.std.specs.List.{filter, AllByRecursion}
use Rattle.std.specs.FinMap.{entries, entries_sorted, get, get-remove, is_sorted}
use Rattle.std.specs.FinMap.Entries.{below_all}
use Rattle.std.proofs.Common.{refl, sym, ap, ◌∙◌, inl, inr, arith}
use Rattle.gate_base.specs.Maps.{name_cmp, adjust}
use Rattle.gate_base.proofs.lemmas.Maps.{name_total, by_name, key_itself, same_key, apart_back, at_adjust, off_adjust}
use Rattle.s3_machine.specs.State.{Completion, Bucket, State}
use Rattle.account_calls.proofs.lemmas.Ascending.{front, back}
use Rattle.account_calls.proofs.lemmas.Markers.{IsEntry, entries_are}
use Rattle.sweep.specs.Forgetting.{is_older, old_in, all_old, forget_kept, without_kept}
use Rattle.gateway_cmd.specs.Lives.{GoneAreCounted, is_kept}

-- ---- tests

abbrev One : Type 0
One = List ℕ × List ℕ

abbrev same : One → One → Bool
same a b = eq_by_cmp name_cmp a.0 b.0 && eq_by_cmp name_cmp a.1 b.1

abbrev is_in : One → List One → Bool
is_in one [] = false
is_in one (first ∷ others) = same one first || is_in one others

and_off : (a b : Bool) → b ≡ false → (a && b) ≡ false
and_off true b off = off
and_off false b off = refl

and_all : (a : Bool) → a ≡ (a && true)
and_all true = refl
and_all false = refl

not_again : (a : Bool) → not (not a) ≡ a
not_again true = refl
not_again false = refl

neither : (a b c : Bool) → ((a && not b) && not c) ≡ (a && not (b || c))
neither true true c = refl
neither true false c = refl
neither false b c = refl

same_itself : (one : One) → same one one ≡ true
same_itself one = ap (λ t. t && eq_by_cmp name_cmp one.1 one.1) (key_itself by_name one.0) ∙ key_itself by_name one.1

-- ---- lists

module _ {A : Type 0} where
  each : {P Q : A → Type 0} → ((a : A) → P a → Q a) → (xs : List A) → AllByRecursion P xs → AllByRecursion Q xs
  each f [] h = tt
  each f (x ∷ xs) h = (f x h.0, each f xs h.1)

  all_append : (P : A → Type 0) (xs ys : List A) → AllByRecursion P xs → AllByRecursion P ys → AllByRecursion P (xs ++ ys)
  all_append P [] ys first then = then
  all_append P (x ∷ xs) ys first then = (first.0, all_append P xs ys first.1 then)

  all_map : {B : Type 0} (P : B → Type 0) (f : A → B) (xs : List A) → AllByRecursion (λ a. P (f a)) xs → AllByRecursion P (map f xs)
  all_map P f [] h = tt
  all_map P f (x ∷ xs) h = (h.0, all_map P f xs h.1)

  all_filter : (P : A → Type 0) (p : A → Bool) (xs : List A) → AllByRecursion P xs → AllByRecursion P (filter p xs)
  all_filter P p [] h = tt
  all_filter P p (x ∷ xs) h = elim (p x) as (λ t. AllByRecursion P (cond t (x ∷ filter p xs) (filter p xs))) [
    | true ↦ (h.0, all_filter P p xs h.1)
    | false ↦ all_filter P p xs h.1
  ]

  filter_same : (p q : A → Bool) (xs : List A) → AllByRecursion (λ a. p a ≡ q a) xs → filter p xs ≡ filter q xs
  filter_same p q [] h = refl
  filter_same p q (x ∷ xs) h = (λ i. cond (h.0 i) (x ∷ filter_same p q xs h.1 i) (filter_same p q xs h.1 i))

  filter_none : (xs : List A) → filter (λ a. false) xs ≡ []
  filter_none [] = refl
  filter_none (x ∷ xs) = filter_none xs

-- each of them stands once
abbrev AreApart : List One → Type 0
AreApart [] = Unit {0}
AreApart (one ∷ others) = AllByRecursion (λ other. same other one ≡ false) others × AreApart others

apart_append : (xs ys : List One) → AreApart xs → AreApart ys → AllByRecursion (λ x. AllByRecursion (λ y. same y x ≡ false) ys) xs → AreApart (xs ++ ys)
apart_append [] ys first then cross = then
apart_append (x ∷ xs) ys first then cross = (all_append (λ y. same y x ≡ false) xs ys first.0 cross.0, apart_append xs ys first.1 then cross.1)

-- the first of a list in which each stands once are so many
first_counted : (xs : List One) → AreApart xs → (n : ℕ) → n ≤ length xs → length (filter (λ one. is_in one (take n xs)) xs) ≡ n
first_counted [] apart zero few = refl
first_counted [] apart (suc n) few = absurd (omega arith)
first_counted (x ∷ xs) apart zero few = ap length (filter_none (x ∷ xs))
first_counted (x ∷ xs) apart (suc n) few =
    let rest : filter (λ one. same one x || is_in one (take n xs)) xs ≡ filter (λ one. is_in one (take n xs)) xs =
    filter_same (λ one. same one x || is_in one (take n xs)) (λ one. is_in one (take n xs)) xs (each (λ one other. ap (λ t. t || is_in one (take n xs)) other) xs apart.0) in
    (λ i. length (cond (same_itself x i || is_in x (take n xs)) (x ∷ rest i) (rest i))) ∙ ap suc (first_counted xs apart.1 n (omega arith))

-- ---- what is kept

kept_of : (g one : One) (found : Option Bucket) → is_some (option_and_then (λ (b : Bucket). get b.kept one.1) (option_map (forget_kept g.1) found)) ≡ (is_some (option_and_then (λ (b : Bucket). get b.kept one.1) found) && not (eq_by_cmp name_cmp one.1 g.1))
kept_of g one None = refl
kept_of g one (Some b) = ap is_some (get-remove name_total b.kept g.1 one.1) ∙ by_test (eq_by_cmp name_cmp one.1 g.1) (get b.kept one.1)
  where
    by_test : {X : Type 0} (t : Bool) (v : Option X) → is_some (cond t None v) ≡ (is_some v && not t)
    by_test true None = refl
    by_test true (Some x) = refl
    by_test false None = refl
    by_test false (Some x) = refl

kept_after : (g one : One) (state : State) → is_kept (adjust g.0 (forget_kept g.1) state) one ≡ (is_kept state one && not (same one g))
kept_after g one state = elim (same_key by_name one.0 g.0) [
  | inl e ↦
      let here : eq_by_cmp name_cmp one.0 g.0 ≡ true = ap (λ k. eq_by_cmp name_cmp k g.0) e ∙ key_itself by_name g.0 in
      ap (λ k. is_some (option_and_then (λ (b : Bucket). get b.kept one.1) (get (adjust g.0 (forget_kept g.1) state) k))) e
      ∙ ap (λ v. is_some (option_and_then (λ (b : Bucket). get b.kept one.1) v)) (at_adjust by_name g.0 (forget_kept g.1) state)
      ∙ kept_of g one (get state g.0)
      ∙ (λ i. is_some (option_and_then (λ (b : Bucket). get b.kept one.1) (get state (sym e i))) && not (sym here i && eq_by_cmp name_cmp one.1 g.1))
  | inr a ↦
      ap (λ v. is_some (option_and_then (λ (b : Bucket). get b.kept one.1) v)) (off_adjust by_name g.0 (forget_kept g.1) state one.0 a)
      ∙ and_all (is_kept state one)
      ∙ (λ i. is_kept state one && not (sym a i && eq_by_cmp name_cmp one.1 g.1))
]

kept_without : (gone : List One) (one : One) (state : State) → is_kept (without_kept gone state) one ≡ (is_kept state one && not (is_in one gone))
unfolding without_kept
kept_without [] one state = and_all (is_kept state one)
kept_without (g ∷ gone) one state =
    kept_without gone one (adjust g.0 (forget_kept g.1) state) ∙ ap (λ b. b && not (is_in one gone)) (kept_after g one state) ∙ neither (is_kept state one) (same one g) (is_in one gone)

-- ---- those from before a moment

module _ (before : ℕ) where
  abbrev old : List ℕ × Completion → Bool
  old k = is_older before k.1

  -- an entry behind another has another name
  other_name : (a b : List ℕ) → T (is_lt (name_cmp a b)) → eq_by_cmp name_cmp b a ≡ false
  other_name a b less = apart_back by_name a b (not_equal (name_cmp a b) less)
    where
      not_equal : (o : Ordering) → T (is_lt o) → is_eq o ≡ false
      not_equal Less h = refl
      not_equal Equal h = absurd h
      not_equal Greater h = absurd h

  ids_behind : (bucket id : List ℕ) (es : List (List ℕ × Completion)) → T (below_all name_cmp id es) → AllByRecursion (λ (k : List ℕ × Completion). same (bucket, k.0) (bucket, id) ≡ false) es
  ids_behind bucket id [] below = tt
  ids_behind bucket id (k ∷ es) below = (
    and_off (eq_by_cmp name_cmp bucket bucket) (eq_by_cmp name_cmp k.0 id) (other_name id k.0 (front (is_lt (name_cmp id k.0)) (below_all name_cmp id es) below)),
    ids_behind bucket id es (back (is_lt (name_cmp id k.0)) (below_all name_cmp id es) below),
  )

  -- of a bucket
  apart_in : (bucket : List ℕ) (es : List (List ℕ × Completion)) → T (is_sorted name_cmp es) → AreApart (map (λ k. (bucket, k.0)) (filter old es))
  apart_in bucket [] sorted = tt
  apart_in bucket (k ∷ es) sorted =
      let later = apart_in bucket es (back (below_all name_cmp k.0 es) (is_sorted name_cmp es) sorted) in
      let first = ids_behind bucket k.0 es (front (below_all name_cmp k.0 es) (is_sorted name_cmp es) sorted) in
      elim (old k) as (λ t. AreApart (map (λ k. (bucket, k.0)) (cond t (k ∷ filter old es) (filter old es)))) [
        | true ↦ (all_map (λ other. same other (bucket, k.0) ≡ false) (λ k. (bucket, k.0)) (filter old es) (all_filter (λ (other : List ℕ × Completion). same (bucket, other.0) (bucket, k.0) ≡ false) old es first), later)
        | false ↦ later
      ]

  names_behind : (bucket : List ℕ) (es : List (List ℕ × Bucket)) → T (below_all name_cmp bucket es) → AllByRecursion (λ (one : One). eq_by_cmp name_cmp one.0 bucket ≡ false) (flat_map (old_in before) es)
  names_behind bucket [] below = tt
  names_behind bucket (e ∷ es) below =
      let here = other_name bucket e.0 (front (is_lt (name_cmp bucket e.0)) (below_all name_cmp bucket es) below) in
      all_append (λ (one : One). eq_by_cmp name_cmp one.0 bucket ≡ false) (old_in before e) (flat_map (old_in before) es)
      (all_map (λ (one : One). eq_by_cmp name_cmp one.0 bucket ≡ false) (λ k. (e.0, k.0)) (filter old (entries e.1.kept)) (all_of (λ k. here) (filter old (entries e.1.kept))))
      (names_behind bucket es (back (is_lt (name_cmp bucket e.0)) (below_all name_cmp bucket es) below))
    where
      all_of : {A : Type 0} {P : A → Type 0} → ((a : A) → P a) → (xs : List A) → AllByRecursion P xs
      all_of f [] = tt
      all_of f (x ∷ xs) = (f x, all_of f xs)

  cross_in : (bucket : List ℕ) (ks : List (List ℕ × Completion)) (ys : List One) → AllByRecursion (λ (one : One). eq_by_cmp name_cmp one.0 bucket ≡ false) ys
      → AllByRecursion (λ x. AllByRecursion (λ y. same y x ≡ false) ys) (map (λ k. (bucket, k.0)) ks)
  cross_in bucket [] ys behind = tt
  cross_in bucket (k ∷ ks) ys behind = (each (λ y other. ap (λ t. t && eq_by_cmp name_cmp y.1 k.0) other) ys behind, cross_in bucket ks ys behind)

  apart_all : (es : List (List ℕ × Bucket)) → T (is_sorted name_cmp es) → AreApart (flat_map (old_in before) es)
  apart_all [] sorted = tt
  apart_all (e ∷ es) sorted =
      apart_append (old_in before e) (flat_map (old_in before) es) (apart_in e.0 (entries e.1.kept) (entries_sorted e.1.kept)) (apart_all es (back (below_all name_cmp e.0 es) (is_sorted name_cmp es) sorted))
      (cross_in e.0 (filter old (entries e.1.kept)) (flat_map (old_in before) es) (names_behind e.0 es (front (below_all name_cmp e.0 es) (is_sorted name_cmp es) sorted)))

  -- each is kept in the state
  kept_all : (state : State) (es : List (List ℕ × Bucket)) → AllByRecursion (IsEntry state) es → AllByRecursion (λ one. is_kept state one ≡ true) (flat_map (old_in before) es)
  kept_all state [] are = tt
  kept_all state (e ∷ es) are =
      all_append (λ one. is_kept state one ≡ true) (old_in before e) (flat_map (old_in before) es)
      (all_map (λ one. is_kept state one ≡ true) (λ k. (e.0, k.0)) (filter old (entries e.1.kept)) (all_filter (λ (k : List ℕ × Completion). is_kept state (e.0, k.0) ≡ true) old (entries e.1.kept)
      (each (λ k is. ap (λ v. is_some (option_and_then (λ (b : Bucket). get b.kept k.0) v)) are.0 ∙ ap is_some is) (entries e.1.kept) (entries_are e.1.kept))))
      (kept_all state es are.1)

pub gone_are_counted : GoneAreCounted
gone_are_counted before state n few =
    let olds = all_old before state in
    ap length (filter_same (λ one. not (is_kept (without_kept (take n olds) state) one)) (λ one. is_in one (take n olds)) olds
    (each (λ one is. ap not (kept_without (take n olds) one state ∙ ap (λ b. b && not (is_in one (take n olds))) is) ∙ not_again (is_in one (take n olds))) olds (kept_all before state (entries state) (entries_are state))))
    ∙ first_counted olds (apart_all before (entries state) (entries_sorted state)) n few
