-- More on lists of things with names: what is found, what goes, and their entries as a map.
use Rattle.std.specs.Prelude.{◌≡◌, ℕ, zero, suc, Bool, true, false, cond, not, ◌&&◌, List, [], ◌∷◌, map, None, Some, slice_get, slice_set}
use Rattle.std.specs.Bool.{passes}
use Rattle.std.specs.List.{filter, list_all}
use Rattle.std.specs.Option.{option_map}
use Rattle.std.specs.FinMap.{empty, entries, get, insert, remove, len, find, is_sorted, from_sorted, entries-from_sorted, get-from_sorted, empty_of_len}
use Rattle.std.specs.FinMap.Entries.{below_all}
use Rattle.std.specs.declared.cmp.Ordering.{Ordering}
use Rattle.std.specs.declared.cmp.Ordering.TheVariants.{Less, Equal, Greater}
use Rattle.std.specs.Ordering.{is_lt, eq_by_cmp}
use Rattle.std.proofs.Common.{refl, sym, ap, ◌∙◌, inl, inr, true≢false}
use Rattle.std.proofs.lemmas.Option.{none-some, same_Some}
use Rattle.gate_base.specs.Maps.{Names, name_cmp}
use Rattle.gate_base.proofs.lemmas.Maps.{name_total, by_name, same_key, apart_back, same_names, same_at_and_off, get_empty, at_insert, off_insert, at_remove, off_remove, remove_missing, remove_insert}
use Rattle.gate_base.specs.Named.{is_below_next, ascends, map_of, has_name, named, index_named, changed}
use Rattle.gate_base.proofs.lemmas.Named.{same_name, both, first_of_two, second_of_two, index_none, index_item, get-map_of}
use Rattle.planned_swift.specs.Lists.{without}

-- a thing written where it stands changes nothing
pub set_same : {A : Type 0} (things : List A) (i : ℕ) (a : A) → slice_get things i ≡ Some a → slice_set things i a ≡ things
set_same [] i a e = absurd (none-some a e)
set_same (b ∷ rest) zero a e = ap (λ c. c ∷ rest) (same_Some a b (sym e))
set_same (b ∷ rest) (suc i) a e = ap (λ l. b ∷ l) (set_same rest i a e)

is_less : (o : Ordering) → is_lt o ≡ true → o ≡ Less
is_less Less e = refl
is_less Equal e = absurd (true≢false (sym e))
is_less Greater e = absurd (true≢false (sym e))

all_filter : {A : Type 0} (test p : A → Bool) (things : List A) → list_all test things ≡ true → list_all test (filter p things) ≡ true
all_filter test p [] h = refl
all_filter test p (a ∷ rest) h = elim (p a) as (λ b. list_all test (cond b (a ∷ filter p rest) (filter p rest)) ≡ true) [
  | true ↦ both _ _ (first_of_two _ _ h) (all_filter test p rest (second_of_two _ _ h))
  | false ↦ all_filter test p rest (second_of_two _ _ h)
]

module _ {A : Type 0} (name : A → List ℕ) where
  -- what stands at the index of a name is the first thing of it
  pub found_at : (n : List ℕ) (things : List A) (i : ℕ) (a : A) → index_named name n things ≡ Some i → slice_get things i ≡ Some a → Some a ≡ named name n things
  found_at n things i a e at = sym at ∙ index_item name n things i e

  pub found_none : (n : List ℕ) (things : List A) → index_named name n things ≡ None → None ≡ named name n things
  found_none n things e = sym (index_none name n things e)

  -- a test that all things pass
  pub all_named : (test : A → Bool) (n : List ℕ) (things : List A) (x : A) → list_all test things ≡ true → Some x ≡ named name n things → test x ≡ true
  all_named test n [] x h e = absurd (none-some x (sym e))
  all_named test n (a ∷ rest) x h e = elim (has_name name n a) as (λ b. Some x ≡ cond b (Some a) (named name n rest) → test x ≡ true) [
    | true ↦ λ is. ap test (same_Some x a is) ∙ first_of_two _ _ h
    | false ↦ λ is. all_named test n rest x (second_of_two _ _ h) is
  ] e

  -- a name that isn't there
  pub changed_missing : (n : List ℕ) (f : A → A) (things : List A) → None ≡ named name n things → things ≡ changed name n f things
  unfolding changed
  changed_missing n f [] e = refl
  changed_missing n f (a ∷ rest) e = elim (has_name name n a) as (λ b. None ≡ cond b (Some a) (named name n rest) → a ∷ rest ≡ cond b (f a ∷ rest) (a ∷ changed name n f rest)) [
    | true ↦ λ is. absurd (none-some a is)
    | false ↦ λ is. ap (λ l. a ∷ l) (changed_missing n f rest is)
  ] e

  pub without_missing : (n : List ℕ) (things : List A) → None ≡ named name n things → things ≡ without name n things
  unfolding without
  without_missing n [] e = refl
  without_missing n (a ∷ rest) e = elim (has_name name n a) as (λ b. None ≡ cond b (Some a) (named name n rest) → a ∷ rest ≡ cond (not b) (a ∷ filter (λ x. not (has_name name n x)) rest) (filter (λ x. not (has_name name n x)) rest)) [
    | true ↦ λ is. absurd (none-some a is)
    | false ↦ λ is. ap (λ l. a ∷ l) (without_missing n rest is)
  ] e

  pub all_without : (test : A → Bool) (n : List ℕ) (things : List A) → list_all test things ≡ true → list_all test (without name n things) ≡ true
  unfolding without
  all_without test n things h = all_filter test (λ x. not (has_name name n x)) things h

  -- ---- ascending names

  below_next : (n m : List ℕ) (names : List (List ℕ)) → is_lt (name_cmp n m) ≡ true → is_below_next m names ≡ true → is_below_next n names ≡ true
  below_next n m [] below next = refl
  below_next n m (k ∷ names) below next = ap is_lt (name_total.trans n m k (is_less _ below) (is_less _ next))

  -- a name below the next is below all
  all_below : (n : List ℕ) (things : List A) → is_below_next n (map name things) ≡ true → ascends (map name things) ≡ true → list_all (λ a. is_lt (name_cmp n (name a))) things ≡ true
  all_below n [] next h = refl
  all_below n (a ∷ rest) next h = both _ _ next (all_below n rest (below_next n (name a) (map name rest) next (first_of_two _ _ h)) (second_of_two _ _ h))

  next_of_all : (n : List ℕ) (things : List A) → list_all (λ a. is_lt (name_cmp n (name a))) things ≡ true → is_below_next n (map name things) ≡ true
  next_of_all n [] h = refl
  next_of_all n (a ∷ rest) h = first_of_two _ _ h

  pub ascends_without : (n : List ℕ) (things : List A) → ascends (map name things) ≡ true → ascends (map name (without name n things)) ≡ true
  unfolding without
  ascends_without n [] h = refl
  ascends_without n (a ∷ rest) h =
      let kept = filter (λ x. not (has_name name n x)) rest in
      let above = all_filter (λ x. is_lt (name_cmp (name a) (name x))) (λ x. not (has_name name n x)) rest (all_below (name a) rest (first_of_two _ _ h) (second_of_two _ _ h)) in
      elim (not (has_name name n a)) as (λ b. ascends (map name (cond b (a ∷ kept) kept)) ≡ true) [
        | true ↦ both _ _ (next_of_all (name a) kept above) (ascends_without n rest (second_of_two _ _ h))
        | false ↦ ascends_without n rest (second_of_two _ _ h)
      ]

-- ---- maps

module _ {X : Type 0} where
  -- to insert and to remove at names apart
  remove_apart : (m : Names X) (k n : List ℕ) (x : X) → eq_by_cmp name_cmp n k ≡ false → insert (remove m n) k x ≡ remove (insert m k x) n
  remove_apart m k n x a =
      same_at_and_off by_name _ _ k
      (at_insert by_name _ k x ∙ sym (off_remove by_name _ n k (apart_back by_name n k a) ∙ at_insert by_name m k x))
      (λ q off. off_insert by_name _ k x q off ∙ elim (same_key by_name q n) [
        | inl is ↦ ap (get (remove m n)) is ∙ at_remove by_name m n ∙ sym (at_remove by_name _ n) ∙ ap (get (remove (insert m k x) n)) (sym is)
        | inr other ↦ off_remove by_name m n q other ∙ sym (off_remove by_name _ n q other ∙ off_insert by_name m k x q off)
      ])

  -- a map with something in it isn't empty
  pub filled : (m : Names X) (k : List ℕ) (x : X) → len (insert m k x) ≡ 0 → ⊥
  filled m k x e = none-some x (sym (get_empty by_name k) ∙ ap (λ l. get l k) (sym (empty_of_len (insert m k x) e)) ∙ at_insert by_name m k x)

module _ {A X : Type 0} (name : A → List ℕ) (value : A → X) where
  -- to take the things of a name away is to remove
  pub map_without : (n : List ℕ) (things : List A) → map_of name value (without name n things) ≡ remove (map_of name value things) n
  unfolding without
  map_without n [] = sym (remove_missing by_name empty n (get_empty by_name n))
  map_without n (a ∷ rest) =
      let kept = filter (λ x. not (has_name name n x)) rest in
      let m = map_of name value rest in
      elim (has_name name n a) as (λ b. has_name name n a ≡ b → map_of name value (cond (not b) (a ∷ kept) kept) ≡ remove (insert m (name a) (value a)) n) [
        | true ↦ λ e. map_without n rest ∙ sym (remove_insert by_name m n (value a)) ∙ ap (λ k. remove (insert m k (value a)) n) (same_name n (name a) e)
        | false ↦ λ e. ap (λ l. insert l (name a) (value a)) (map_without n rest) ∙ remove_apart m (name a) n (value a) e
      ] refl

  abbrev pair : A → List ℕ × X
  pair a = (name a, value a)

  found_pair : (q : List ℕ) (things : List A) → option_map value (named name q things) ≡ find name_cmp q (map pair things)
  found_pair q [] = refl
  found_pair q (a ∷ rest) = elim (has_name name q a) as (λ b. option_map value (cond b (Some a) (named name q rest)) ≡ cond b (Some (value a)) (find name_cmp q (map pair rest))) [
    | true ↦ refl
    | false ↦ found_pair q rest
  ]

  below_pairs : (n : List ℕ) (things : List A) → below_all name_cmp n (map pair things) ≡ list_all (λ a. is_lt (name_cmp n (name a))) things
  below_pairs n [] = refl
  below_pairs n (a ∷ rest) = ap (λ b. is_lt (name_cmp n (name a)) && b) (below_pairs n rest)

  sorted_pairs : (things : List A) → ascends (map name things) ≡ true → is_sorted name_cmp (map pair things) ≡ true
  sorted_pairs [] h = refl
  sorted_pairs (a ∷ rest) h = both _ _ (below_pairs (name a) rest ∙ all_below name (name a) rest (first_of_two _ _ h) (second_of_two _ _ h)) (sorted_pairs rest (second_of_two _ _ h))

  -- where names ascend, the entries are the things
  pub entries_list : (things : List A) → ascends (map name things) ≡ true → entries (map_of name value things) ≡ map (λ a. (name a, value a)) things
  entries_list things h =
      let sorted = passes _ (sorted_pairs things h) in
      ap entries (same_names (map_of name value things) (from_sorted (map pair things)) (λ q. get-map_of name value q things ∙ found_pair q things ∙ sym (get-from_sorted name_cmp (map pair things) q sorted)))
      ∙ entries-from_sorted name_cmp (map pair things) sorted
