-- What is found in lists of things with names, and what the maps are that they represent.
use Rattle.std.specs.Prelude.{◌≡◌, ℕ, suc, ◌+◌, ◌≤◌, Bool, true, false, cond, not, ◌&&◌, nat_lt, is_some, is_none, List, [], ◌∷◌, map, None, Some, slice_get, slice_set}
use Rattle.std.specs.Option.{option_map, unwrap_or}
use Rattle.std.specs.List.{insert as insert_at, list_all, position_or_len}
use Rattle.std.specs.Cmp.{Equal-is}
use Rattle.std.specs.FinMap.{empty, get, insert, get-insert}
use Rattle.std.specs.declared.cmp.Ordering.TheVariants.{Less, Equal, Greater}
use Rattle.std.specs.Ordering.{is_lt, is_gt, is_eq, eq_by_cmp, ordering_reverse}
use Rattle.std.proofs.Common.{refl, sym, ap, subst, ◌∙◌, inl, inr, true≢false, arith}
use Rattle.std.proofs.lemmas.Bool.{ltb-false, cases_Bool, cond-true, cond-false}
use Rattle.std.proofs.lemmas.Option.{slice_get_past}
use Rattle.gate_base.specs.Maps.{Names, name_cmp, adjust}
use Rattle.gate_base.specs.Named.{is_below_next, ascends, map_of, has_name, one_has_name, named, index_named, count_below, by_order, placed, changed}
use Rattle.gate_base.proofs.lemmas.Maps.{name_total, name_antisymmetric, by_name, same_at_and_off, get_empty, at_insert, off_insert, off_adjust, insert_again, commute_insert, adjust_missing, adjust_there, at_adjust}

-- ---- names

pub same_name : (q k : List ℕ) → eq_by_cmp name_cmp q k ≡ true → q ≡ k
same_name q k e = name_antisymmetric q k ((Equal-is (name_cmp q k)).0 e)

-- ---- lists by their indices

cons_cond : {A : Type 0} (a : A) (t : Bool) (xs ys : List A) → a ∷ cond t xs ys ≡ cond t (a ∷ xs) (a ∷ ys)
cons_cond a true xs ys = refl
cons_cond a false xs ys = refl

next : (c : ℕ) → 1 + c ≡ suc c
next c = omega arith

module _ {A : Type 0} (name : A → List ℕ) where
  abbrev over_or_before : A → List A → ℕ → List A
  over_or_before a things i = cond (one_has_name name (name a) (slice_get things i)) (slice_set things i a) (insert_at things i a)

  placed_at : (a : A) (things : List A) → placed name a things ≡ over_or_before a things (count_below name (name a) things)
  unfolding placed
  placed_at a [] = refl
  placed_at a (b ∷ rest) = elim (name_cmp (name a) (name b)) as (λ o. name_cmp (name a) (name b) ≡ o
      → by_order o (a ∷ b ∷ rest) (a ∷ rest) (b ∷ placed name a rest) ≡ over_or_before a (b ∷ rest) (cond (is_gt o) (1 + count_below name (name a) rest) 0)) [
        | Less ↦ λ e. sym (ap (λ o. cond (is_eq o) (a ∷ rest) (a ∷ b ∷ rest)) e)
        | Equal ↦ λ e. sym (ap (λ o. cond (is_eq o) (a ∷ rest) (a ∷ b ∷ rest)) e)
        | Greater ↦ λ e. ap (λ l. b ∷ l) (placed_at a rest) ∙ cons_cond b _ _ _ ∙ ap (over_or_before a (b ∷ rest)) (sym (next _))
      ] refl

  -- the thing of the name is written over
  pub placed_over : (a : A) (things : List A) → one_has_name name (name a) (slice_get things (count_below name (name a) things)) ≡ true
      → placed name a things ≡ slice_set things (count_below name (name a) things) a
  placed_over a things e = placed_at a things ∙ cond-true _ _ _ e

  -- there is none, and the thing is inserted
  pub placed_before : (a : A) (things : List A) → one_has_name name (name a) (slice_get things (count_below name (name a) things)) ≡ false
      → placed name a things ≡ insert_at things (count_below name (name a) things) a
  placed_before a things e = placed_at a things ∙ cond-false _ _ _ e

  -- the first thing of a name stands at its index
  named_at : (n : List ℕ) (things : List A) → slice_get things (position_or_len (has_name name n) things) ≡ named name n things
  named_at n [] = refl
  named_at n (a ∷ rest) = elim (has_name name n a) as (λ b. slice_get (a ∷ rest) (cond (not b) (1 + position_or_len (has_name name n) rest) 0) ≡ cond b (Some a) (named name n rest)) [
    | true ↦ refl
    | false ↦ ap (slice_get (a ∷ rest)) (next _) ∙ named_at n rest
  ]

  changed_by : (n : List ℕ) (f : A → A) (things : List A) (x : A) → slice_get things (position_or_len (has_name name n) things) ≡ Some x
      → slice_set things (position_or_len (has_name name n) things) (f x) ≡ changed name n f things
  unfolding changed
  changed_by n f [] x e = refl
  changed_by n f (a ∷ rest) x h = elim (has_name name n a) as (λ b. slice_get (a ∷ rest) (cond (not b) (1 + position_or_len (has_name name n) rest) 0) ≡ Some x → slice_set (a ∷ rest) (cond (not b) (1 + position_or_len (has_name name n) rest) 0) (f x) ≡ cond b (f a ∷ rest) (a ∷ changed name n f rest)) [
    | true ↦ λ e. ap (λ v. f (unwrap_or v x) ∷ rest) (sym e)
    | false ↦ λ e. ap (λ k. slice_set (a ∷ rest) k (f x)) (next _) ∙ ap (λ l. a ∷ l) (changed_by n f rest x (ap (slice_get (a ∷ rest)) (sym (next _)) ∙ e))
  ] h

  none_from : (i n : ℕ) → cond (nat_lt i n) (Some i) None ≡ None → n ≤ i
  none_from i n = elim (cases_Bool (nat_lt i n)) [
    | inl t ↦ λ e. absurd (true≢false (sym (ap is_none (ap (λ b. cond b (Some i) None) (sym t) ∙ e))))
    | inr f ↦ λ e. ltb-false i n f
  ]

  some_from : (i n k : ℕ) → cond (nat_lt i n) (Some i) None ≡ Some k → k ≡ i
  some_from i n k = elim (nat_lt i n) as (λ b. cond b (Some i) None ≡ Some k → k ≡ i) [
    | true ↦ λ e. ap (λ v. unwrap_or v i) (sym e)
    | false ↦ λ e. absurd (true≢false (sym (ap is_some e)))
  ]

  -- no index: there is no such thing
  pub index_none : (n : List ℕ) (things : List A) → index_named name n things ≡ None → named name n things ≡ None
  index_none n things e = sym (named_at n things) ∙ slice_get_past things _ (none_from _ _ e)

  -- at the index stands the thing
  pub index_item : (n : List ℕ) (things : List A) (i : ℕ) → index_named name n things ≡ Some i → slice_get things i ≡ named name n things
  index_item n things i e = ap (slice_get things) (some_from _ _ i e) ∙ named_at n things

  -- and a thing written there in its place is the thing changed
  pub index_changed : (n : List ℕ) (f : A → A) (things : List A) (i : ℕ) (x : A) → index_named name n things ≡ Some i → slice_get things i ≡ Some x
      → slice_set things i (f x) ≡ changed name n f things
  index_changed n f things i x e at =
      let is = some_from _ _ i e in
      ap (λ k. slice_set things k (f x)) is ∙ changed_by n f things x (ap (slice_get things) (sym is) ∙ at)

-- ---- ascending names

pub both : (a b : Bool) → a ≡ true → b ≡ true → (a && b) ≡ true
both a b is too = ap (λ x. x && b) is ∙ too

pub first_of_two : (a b : Bool) → (a && b) ≡ true → a ≡ true
first_of_two true b h = refl
first_of_two false b h = h

pub second_of_two : (a b : Bool) → (a && b) ≡ true → b ≡ true
second_of_two true b h = h
second_of_two false b h = absurd (true≢false (sym h))

module _ {A : Type 0} (name : A → List ℕ) where
  below_placed : (n : List ℕ) (a : A) (things : List A) → is_lt (name_cmp n (name a)) ≡ true → is_below_next n (map name things) ≡ true
      → is_below_next n (map name (placed name a things)) ≡ true
  unfolding placed
  below_placed n a [] below next = below
  below_placed n a (b ∷ rest) below next = elim (name_cmp (name a) (name b)) as (λ o. is_below_next n (map name (by_order o (a ∷ b ∷ rest) (a ∷ rest) (b ∷ placed name a rest))) ≡ true) [
    | Less ↦ below
    | Equal ↦ below
    | Greater ↦ next
  ]

  -- a thing put in its place keeps names ascending
  pub ascends_placed : (a : A) (things : List A) → ascends (map name things) ≡ true → ascends (map name (placed name a things)) ≡ true
  unfolding placed
  ascends_placed a [] h = refl
  ascends_placed a (b ∷ rest) h = elim (name_cmp (name a) (name b)) as (λ o. name_cmp (name a) (name b) ≡ o
      → ascends (map name (by_order o (a ∷ b ∷ rest) (a ∷ rest) (b ∷ placed name a rest))) ≡ true) [
        | Less ↦ λ e. both _ _ (ap is_lt e) h
        | Equal ↦ λ e. subst (λ k. (is_below_next k (map name rest) && ascends (map name rest)) ≡ true) (sym (name_antisymmetric _ _ e)) h
        | Greater ↦ λ e. both _ _
            (below_placed (name b) a rest (ap is_lt (name_total.antisymm (name b) (name a) ∙ ap ordering_reverse e)) (first_of_two _ _ h))
            (ascends_placed a rest (second_of_two _ _ h))
      ] refl

  -- a thing changed, but for its name, leaves the names as they are
  pub names_changed : (n : List ℕ) (f : A → A) → ((a : A) → name (f a) ≡ name a) → (things : List A) → map name (changed name n f things) ≡ map name things
  unfolding changed
  names_changed n f keeps [] = refl
  names_changed n f keeps (a ∷ rest) = elim (has_name name n a) as (λ b. map name (cond b (f a ∷ rest) (a ∷ changed name n f rest)) ≡ name a ∷ map name rest) [
    | true ↦ ap (λ k. k ∷ map name rest) (keeps a)
    | false ↦ ap (λ l. name a ∷ l) (names_changed n f keeps rest)
  ]

  -- what a test says of each thing it says still, where it says it of the thing that is put
  pub all_placed : (test : A → Bool) (a : A) (things : List A) → test a ≡ true → list_all test things ≡ true → list_all test (placed name a things) ≡ true
  unfolding placed
  all_placed test a [] is h = both _ _ is refl
  all_placed test a (b ∷ rest) is h = elim (name_cmp (name a) (name b)) as (λ o. list_all test (by_order o (a ∷ b ∷ rest) (a ∷ rest) (b ∷ placed name a rest)) ≡ true) [
    | Less ↦ both _ _ is h
    | Equal ↦ both _ _ is (second_of_two _ _ h)
    | Greater ↦ both _ _ (first_of_two _ _ h) (all_placed test a rest is (second_of_two _ _ h))
  ]

  -- and of the thing changed, where the change keeps it
  pub all_changed : (test : A → Bool) (n : List ℕ) (f : A → A) (things : List A) → ((a : A) → test a ≡ true → test (f a) ≡ true)
      → list_all test things ≡ true → list_all test (changed name n f things) ≡ true
  unfolding changed
  all_changed test n f [] keeps h = refl
  all_changed test n f (a ∷ rest) keeps h = elim (has_name name n a) as (λ b. list_all test (cond b (f a ∷ rest) (a ∷ changed name n f rest)) ≡ true) [
    | true ↦ both _ _ (keeps a (first_of_two _ _ h)) (second_of_two _ _ h)
    | false ↦ both _ _ (first_of_two _ _ h) (all_changed test n f rest keeps (second_of_two _ _ h))
  ]

-- ---- what the maps are

module _ {A X : Type 0} (name : A → List ℕ) (value : A → X) where
  -- what the map has at a name is the first thing of that name
  pub get-map_of : (n : List ℕ) (things : List A) → get (map_of name value things) n ≡ option_map value (named name n things)
  get-map_of n [] = get_empty by_name n
  get-map_of n (a ∷ rest) =
      get-insert name_total _ (name a) (value a) n
      ∙ elim (has_name name n a) as (λ b. cond b (Some (value a)) (get (map_of name value rest) n) ≡ option_map value (cond b (Some a) (named name n rest))) [
        | true ↦ refl
        | false ↦ get-map_of n rest
      ]

  -- to put a thing in its place is to insert
  pub map_placed : (a : A) (things : List A) → map_of name value (placed name a things) ≡ insert (map_of name value things) (name a) (value a)
  unfolding placed
  map_placed a [] = refl
  map_placed a (b ∷ rest) =
      let M = map_of name value rest in
      elim (name_cmp (name a) (name b)) as (λ o. name_cmp (name a) (name b) ≡ o
      → map_of name value (by_order o (a ∷ b ∷ rest) (a ∷ rest) (b ∷ placed name a rest)) ≡ insert (insert M (name b) (value b)) (name a) (value a)) [
        | Less ↦ λ e. refl
        | Equal ↦ λ e. sym (insert_again by_name M (name a) (value b) (value a))
            ∙ ap (λ k. insert (insert M k (value b)) (name a) (value a)) (name_antisymmetric _ _ e)
        | Greater ↦ λ e. ap (λ m. insert m (name b) (value b)) (map_placed a rest) ∙ commute_insert by_name M (name a) (name b) (value a) (value b) (ap is_eq e)
      ] refl

  adjust_insert : (n k : List ℕ) (g : X → X) (x : X) (m : Names X) → eq_by_cmp name_cmp n k ≡ false → adjust n g (insert m k x) ≡ insert (adjust n g m) k x
  adjust_insert n k g x m apart = same_at_and_off by_name _ _ n
      (at_adjust by_name n g _ ∙ ap (option_map g) (off_insert by_name m k x n apart) ∙ sym (at_adjust by_name n g m) ∙ sym (off_insert by_name _ k x n apart))
      (λ q off. off_adjust by_name n g _ q off ∙ get-insert name_total m k x q
      ∙ ap (cond (eq_by_cmp name_cmp q k) (Some x)) (sym (off_adjust by_name n g m q off)) ∙ sym (get-insert name_total _ k x q))

  -- to change a thing, but for its name, is to adjust
  pub map_changed : (n : List ℕ) (f : A → A) (g : X → X) → ((a : A) → name (f a) ≡ name a) → ((a : A) → value (f a) ≡ g (value a)) → (things : List A)
      → map_of name value (changed name n f things) ≡ adjust n g (map_of name value things)
  unfolding changed
  map_changed n f g keeps goes [] = sym (adjust_missing by_name n g empty (get_empty by_name n))
  map_changed n f g keeps goes (a ∷ rest) =
      let m = map_of name value rest in
      elim (has_name name n a) as (λ b. has_name name n a ≡ b
      → map_of name value (cond b (f a ∷ rest) (a ∷ changed name n f rest)) ≡ adjust n g (insert m (name a) (value a))) [
        | true ↦ λ e.
            let is : n ≡ name a = same_name n (name a) e in
            (λ i. insert m (keeps a i) (goes a i))
            ∙ sym (insert_again by_name m (name a) (value a) (g (value a)))
            ∙ ap (λ k. insert (insert m (name a) (value a)) k (g (value a))) (sym is)
            ∙ sym (adjust_there by_name n g _ (value a) (ap (get (insert m (name a) (value a))) is ∙ at_insert by_name m (name a) (value a)))
        | false ↦ λ e. ap (λ m. insert m (name a) (value a)) (map_changed n f g keeps goes rest) ∙ sym (adjust_insert n (name a) g (value a) m e)
      ] refl
