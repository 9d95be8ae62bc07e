-- The files of a container whose names pass a test, without the first of them.
use Rattle.std.specs.Prelude.{◌≡◌, ◌≤◌, ◌<◌, ◌+◌, ◌-◌, ◌&&◌, ℕ, zero, suc, Bool, true, false, not, cond, T, List, [], ◌∷◌, ◌++◌, map, length, take, drop, get_or, slice_get, None, Some}
use Rattle.std.specs.declared.cmp.Ordering.{Ordering}
use Rattle.std.specs.declared.cmp.Ordering.TheVariants.{Less, Equal, Greater}
use Rattle.std.specs.Ordering.{is_eq, is_gt, is_lt, eq_by_cmp}
use Rattle.std.specs.List.{filter, list_all}
use Rattle.std.specs.FinMap.{entries, entries_sorted, entries-from_sorted, from_sorted, get, get-entries, get-from_sorted, get-remove, is_sorted, keys, remove}
use Rattle.std.specs.FinMap.Entries.{below_all, where_key, is_sorted-where_key, find-where_key}
use Rattle.std.proofs.Common.{refl, sym, ap, subst, ◌∙◌, inl, inr, arith, true≢false}
use Rattle.std.proofs.lemmas.Bool.{and_from, and_parts}
use Rattle.std.proofs.lemmas.List.{drop_all, length-append, length-drop, length-map, length-take, take-map}
use Rattle.std.proofs.lemmas.Option.{slice_get-get_or}
use Rattle.gate_base.specs.Maps.{Names, name_cmp}
use Rattle.gate_base.proofs.lemmas.Maps.{by_name, apart, name_antisymmetric, name_total, key_itself, apart_back, off_remove, same_key, same_names}
use Rattle.s3_machine.specs.Items.{behind}
use Rattle.swift_calls.specs.Account.{SwiftObject}
use Rattle.list_pages.proofs.lemmas.Pages.{parts}
use Rattle.list_pages.proofs.lemmas.Sorted.{sorted_filter}
use Rattle.list_pages.proofs.lemmas.Starting.{not_behind}
use Rattle.account_calls.specs.Listing.{after}
use Rattle.account_calls.specs.Purging.{without}
use Rattle.account_calls.proofs.lemmas.Ascending.{Ascends, after_at, after_later, filter_ascends, keys_ascend}
use Rattle.account_calls.proofs.lemmas.Removal.{all_behind}
use Rattle.leftovers.specs.Sweeping.{passing, names_passing, AllBehind, after_marker}
use Rattle.leftovers.proofs.lemmas.Lists.{filter_alike, halves}

-- ---- one name

abbrev other : List ℕ → List ℕ → Bool
other name n = not (eq_by_cmp name_cmp name n)

turned : {X : Type 0} (t : Bool) (x y : X) → cond (not t) x y ≡ cond t y x
turned true x y = refl
turned false x y = refl

other_alike : (name q x : List ℕ) → name_cmp q x ≡ Equal → other name x ≡ other name q
other_alike name q x e = ap (other name) (sym (name_antisymmetric q x e))

same_test : (name q : List ℕ) → eq_by_cmp name_cmp name q ≡ eq_by_cmp name_cmp q name
same_test name q = elim (same_key by_name name q) [
  | inl e ↦ λ i. eq_by_cmp name_cmp (e i) (sym e i)
  | inr a ↦ a ∙ sym (apart_back by_name name q a)
]

module _ {X : Type 0} where
  -- the entries without a name are those of other names
  pub removed : (fs : Names X) (name : List ℕ) → entries (remove fs name) ≡ where_key name_cmp (other name) (entries fs)
  removed fs name =
      let rest : List (List ℕ × X) = where_key name_cmp (other name) (entries fs) in
      let rises : T (is_sorted name_cmp rest) = is_sorted-where_key name_cmp (other name) (entries fs) (entries_sorted fs) in
      ap entries (same_names (remove fs name) (from_sorted rest) (λ q.
      get-remove name_total fs name q ∙ ap (λ t. cond t None (get fs q)) (sym (same_test name q)) ∙ sym (turned (eq_by_cmp name_cmp name q) (get fs q) None) ∙ ap (λ v. cond (other name q) v None) (get-entries fs q)
      ∙ sym (get-from_sorted name_cmp rest q rises ∙ find-where_key name_cmp (other name) q (other_alike name q) (entries fs))))
      ∙ entries-from_sorted name_cmp rest rises

  swap_one : (p q : X → Bool) (x : X) (ps qs : List X) → filter p qs ≡ filter q ps → (s t : Bool) → p x ≡ s → q x ≡ t → filter p (cond t (x ∷ qs) qs) ≡ filter q (cond s (x ∷ ps) ps)
  swap_one p q x ps qs rest true true e f = ap (λ u. cond u (x ∷ filter p qs) (filter p qs)) e ∙ ap (λ ys. x ∷ ys) rest ∙ sym (ap (λ u. cond u (x ∷ filter q ps) (filter q ps)) f)
  swap_one p q x ps qs rest true false e f = rest ∙ sym (ap (λ u. cond u (x ∷ filter q ps) (filter q ps)) f)
  swap_one p q x ps qs rest false true e f = ap (λ u. cond u (x ∷ filter p qs) (filter p qs)) e ∙ rest
  swap_one p q x ps qs rest false false e f = rest

  pub filter_swap : (p q : X → Bool) (xs : List X) → filter p (filter q xs) ≡ filter q (filter p xs)
  filter_swap p q [] = refl
  filter_swap p q (x ∷ xs) = swap_one p q x (filter p xs) (filter q xs) (filter_swap p q xs) (p x) (q x) refl refl

  -- no more pass two tests than one
  less_one : (p q : X → Bool) (x : X) (ps qs : List X) → length (filter p qs) ≤ length ps → (s t : Bool) → p x ≡ s → length (filter p (cond t (x ∷ qs) qs)) ≤ length (cond s (x ∷ ps) ps)
  less_one p q x ps qs rest true true e = subst (λ u. length (cond u (x ∷ filter p qs) (filter p qs)) ≤ suc (length ps)) (sym e) (omega (arith, rest))
  less_one p q x ps qs rest true false e = omega (arith, rest)
  less_one p q x ps qs rest false true e = subst (λ u. length (cond u (x ∷ filter p qs) (filter p qs)) ≤ length ps) (sym e) rest
  less_one p q x ps qs rest false false e = rest

  pub filter_less : (p q : X → Bool) (xs : List X) → length (filter p (filter q xs)) ≤ length (filter p xs)
  filter_less p q [] = omega arith
  filter_less p q (x ∷ xs) = less_one p q x (filter p xs) (filter q xs) (filter_less p q xs) (p x) (q x) refl

less_is_other : (o : Ordering) → T (is_lt o) → not (is_eq o) ≡ true
less_is_other Less h = refl
less_is_other Equal h = absurd h
less_is_other Greater h = absurd h

-- entries of later names stay
later_stay : {X : Type 0} (name : List ℕ) (es : List (List ℕ × X)) → T (below_all name_cmp name es) → filter (λ e. other name e.0) es ≡ es
later_stay name [] below = refl
later_stay name (e ∷ es) below =
    let p = parts (is_lt (name_cmp name e.0)) (below_all name_cmp name es) below in
    ap (λ t. cond t (e ∷ filter (λ e. other name e.0) es) (filter (λ e. other name e.0) es)) (less_is_other (name_cmp name e.0) p.0) ∙ ap (λ l. e ∷ l) (later_stay name es p.1)

first_goes : {X : Type 0} (e : List ℕ × X) (es : List (List ℕ × X)) → T (is_sorted name_cmp (e ∷ es)) → filter (λ x. other e.0 x.0) (e ∷ es) ≡ es
first_goes e es sorted =
    ap (λ t. cond (not t) (e ∷ filter (λ x. other e.0 x.0) es) (filter (λ x. other e.0 x.0) es)) (key_itself by_name e.0) ∙ later_stay e.0 es (parts (below_all name_cmp e.0 es) (is_sorted name_cmp es) sorted).0

passing_sorted : (test : List ℕ → Bool) (fs : Names SwiftObject) → T (is_sorted name_cmp (passing test fs))
passing_sorted test fs = sorted_filter (λ e. test e.0) (entries fs) (entries_sorted fs)

-- without the first of those that pass the others are left
passing_first : (test : List ℕ → Bool) (fs : Names SwiftObject) (e : List ℕ × SwiftObject) (es : List (List ℕ × SwiftObject)) → passing test fs ≡ e ∷ es → passing test (remove fs e.0) ≡ es
passing_first test fs e es is =
    ap (filter (λ x. test x.0)) (removed fs e.0)
    ∙ filter_swap (λ x. test x.0) (λ x. other e.0 x.0) (entries fs)
    ∙ ap (filter (λ x. other e.0 x.0)) is
    ∙ first_goes e es (subst (λ l. T (is_sorted name_cmp l)) is (passing_sorted test fs))

passing_left : (test : List ℕ → Bool) (k : ℕ) (es : List (List ℕ × SwiftObject)) (fs : Names SwiftObject) → passing test fs ≡ es → passing test (without (map (λ e. e.0) (take k es)) fs) ≡ drop k es
passing_left test zero [] fs is = is
passing_left test zero (e ∷ es) fs is = is
passing_left test (suc k) [] fs is = is
passing_left test (suc k) (e ∷ es) fs is = passing_left test k es (remove fs e.0) (passing_first test fs e es is)

-- ---- lists

pub map_filter : {X : Type 0} (p : List ℕ → Bool) (es : List (List ℕ × X)) → map (λ e. e.0) (filter (λ e. p e.0) es) ≡ filter p (map (λ e. e.0) es)
map_filter p [] = refl
map_filter p (e ∷ es) = elim (p e.0) as (λ t. map (λ e. e.0) (cond t (e ∷ filter (λ e. p e.0) es) (filter (λ e. p e.0) es)) ≡ cond t (e.0 ∷ filter p (map (λ e. e.0) es)) (filter p (map (λ e. e.0) es))) [
  | true ↦ ap (λ l. e.0 ∷ l) (map_filter p es)
  | false ↦ map_filter p es
]

pub filter_append : {X : Type 0} (p : X → Bool) (xs ys : List X) → filter p (xs ++ ys) ≡ filter p xs ++ filter p ys
filter_append p [] ys = refl
filter_append p (x ∷ xs) ys = elim (p x) as (λ t. cond t (x ∷ filter p (xs ++ ys)) (filter p (xs ++ ys)) ≡ cond t (x ∷ filter p xs) (filter p xs) ++ filter p ys) [
  | true ↦ ap (λ l. x ∷ l) (filter_append p xs ys)
  | false ↦ filter_append p xs ys
]

take_front : {X : Type 0} (xs ys : List X) → take (length xs) (xs ++ ys) ≡ xs
take_front [] [] = refl
take_front [] (y ∷ ys) = refl
take_front (x ∷ xs) ys = ap (λ l. x ∷ l) (take_front xs ys)

drop_front : {X : Type 0} (xs ys : List X) → drop (length xs) (xs ++ ys) ≡ ys
drop_front [] [] = refl
drop_front [] (y ∷ ys) = refl
drop_front (x ∷ xs) ys = drop_front xs ys

map_drop : {A B : Type 0} (f : A → B) (n : ℕ) (xs : List A) → map f (drop n xs) ≡ drop n (map f xs)
map_drop f zero [] = refl
map_drop f zero (x ∷ xs) = refl
map_drop f (suc n) [] = refl
map_drop f (suc n) (x ∷ xs) = map_drop f n xs

at_front : {X : Type 0} (n i : ℕ) (d : X) (xs : List X) → i < n → get_or (take n xs) i d ≡ get_or xs i d
at_front zero i d xs near = absurd (omega (arith, near))
at_front (suc n) zero d [] near = refl
at_front (suc n) (suc i) d [] near = refl
at_front (suc n) zero d (x ∷ xs) near = refl
at_front (suc n) (suc i) d (x ∷ xs) near = at_front n i d xs (omega (arith, near))

after_one : (next name : List ℕ) (names : List (List ℕ)) → list_all (λ name. is_lt (name_cmp next name)) names ≡ true → (t : Bool) → is_gt (name_cmp name next) ≡ t
    → list_all (λ name. is_lt (name_cmp next name)) (cond t (name ∷ names) names) ≡ true
after_one next name names rest true e = ap (λ t. t && list_all (λ name. is_lt (name_cmp next name)) names) (not_behind next name ∙ e) ∙ rest
after_one next name names rest false e = rest

all_after : (next : List ℕ) (names : List (List ℕ)) → list_all (λ name. is_lt (name_cmp next name)) (after next names) ≡ true
all_after next [] = refl
all_after next (name ∷ names) = after_one next name (after next names) (all_after next names) (is_gt (name_cmp name next)) refl

pub all_filter : {X : Type 0} (q p : X → Bool) (es : List X) → list_all q es ≡ true → list_all q (filter p es) ≡ true
all_filter q p [] h = refl
all_filter q p (e ∷ es) h =
    let a = and_parts (q e) (list_all q es) h in
    elim (p e) as (λ t. list_all q (cond t (e ∷ filter p es) (filter p es)) ≡ true) [
      | true ↦ and_from _ _ a.0 (all_filter q p es a.1)
      | false ↦ all_filter q p es a.1
    ]

all_passed : {X : Type 0} (p : X → Bool) (xs : List X) → list_all p (filter p xs) ≡ true
all_passed p [] = refl
all_passed p (x ∷ xs) = elim (p x) as (λ t. p x ≡ t → list_all p (cond t (x ∷ filter p xs) (filter p xs)) ≡ true) [
  | true ↦ λ e. and_from _ _ e (all_passed p xs)
  | false ↦ λ e. all_passed p xs
] refl

at_index : {X : Type 0} (p : X → Bool) (xs : List X) (i : ℕ) (d : X) → i < length xs → list_all p xs ≡ true → p (get_or xs i d) ≡ true
at_index p [] i d within all = absurd (omega (arith, within))
at_index p (x ∷ xs) zero d within all = (and_parts (p x) (list_all p xs) all).0
at_index p (x ∷ xs) (suc i) d within all = at_index p xs i d (omega (arith, within)) (and_parts (p x) (list_all p xs) all).1

behind_less : (next : List ℕ) (names : List (List ℕ)) (fs : Names SwiftObject) → length (after_marker next (without names fs)) ≤ length (after_marker next fs)
behind_less next [] fs = omega arith
behind_less next (name ∷ names) fs =
    let rest = behind_less next names (remove fs name) in
    let one = filter_less (λ (e : List ℕ × SwiftObject). is_lt (name_cmp next e.0)) (λ e. other name e.0) (entries fs) in
    omega (arith, rest, one, ap (λ es. length (behind next es)) (removed fs name))

-- ---- a page

-- the files after the marker
module _ (test : List ℕ → Bool) (marker : List ℕ) (fs : Names SwiftObject) (behind_marker : AllBehind marker test fs) where
  abbrev later : List (List ℕ × SwiftObject)
  later = after_marker marker fs

  abbrev by_name_of : List ℕ × SwiftObject → Bool
  by_name_of e = test e.0

  -- all that pass are among them
  all_later : passing test fs ≡ filter by_name_of later
  all_later = sym (all_behind marker (passing test fs) behind_marker) ∙ filter_swap (λ e. is_lt (name_cmp marker e.0)) by_name_of (entries fs)

  abbrev first : List (List ℕ × SwiftObject)
  first = filter by_name_of (take 1000 later)

  two : passing test fs ≡ first ++ filter by_name_of (drop 1000 later)
  two = all_later ∙ ap (filter by_name_of) (sym (halves 1000 later)) ∙ filter_append by_name_of (take 1000 later) (drop 1000 later)

  module _ (names : List (List ℕ)) (is : names ≡ take 1000 (map (λ e. e.0) later)) where
    names_first : filter test names ≡ map (λ e. e.0) first
    names_first = ap (filter test) (is ∙ take-map (λ e. e.0) 1000 later) ∙ sym (map_filter test (take 1000 later))

    count_first : length (filter test names) ≡ length first
    count_first = ap length names_first ∙ length-map first (λ e. e.0)

    -- without those of a page the later ones are left
    pub page_left : passing test (without (filter test names) fs) ≡ filter by_name_of (drop 1000 later)
    page_left =
        ap (λ l. passing test (without l fs)) (names_first ∙ ap (map (λ e. e.0)) (sym (take_front first (filter by_name_of (drop 1000 later))) ∙ ap (take (length first)) (sym two)))
        ∙ passing_left test (length first) (passing test fs) fs refl
        ∙ ap (drop (length first)) two
        ∙ drop_front first (filter by_name_of (drop 1000 later))

    pub page_fewer : length (passing test fs) ≡ length (filter test names) + length (passing test (without (filter test names) fs))
    page_fewer = omega (arith, ap length two, length-append first (filter by_name_of (drop 1000 later)), count_first, ap length page_left)

    pub page_short : length names < 1000 → names_passing test (without (filter test names) fs) ≡ []
    page_short short =
        ap (map (λ e. e.0)) (page_left ∙ ap (filter by_name_of) (drop_all 1000 later (omega (arith, short, ap length is, length-take 1000 (map (λ e. e.0) later), length-map later (λ e. e.0)))))

    module _ (far : 1000 ≤ length names) (next : List ℕ) (at : slice_get names (length names - 1) ≡ Some next) where
      enough : 1000 ≤ length later
      enough = omega (arith, far, ap length is, length-take 1000 (map (λ e. e.0) later), length-map later (λ e. e.0))

      next_is_last : get_or (map (λ e. e.0) later) 999 next ≡ next
      next_is_last =
          let xs = map (λ (e : List ℕ × SwiftObject). e.0) later in
          let long : length names ≡ 1000 = omega (arith, far, ap length is, length-take 1000 xs) in
          let last : slice_get names 999 ≡ Some next = ap (λ n. slice_get names (n - 1)) (sym long) ∙ at in
          let found : Some (get_or names 999 next) ≡ Some next = sym (slice_get-get_or names 999 next (omega (arith, long))) ∙ last in
          let same : get_or names 999 next ≡ next = cc in
          sym (at_front 1000 999 next xs (omega arith)) ∙ ap (λ l. get_or l 999 next) (sym is) ∙ same

      names_ascend : Ascends (map (λ e. e.0) later)
      names_ascend = subst Ascends (sym (map_filter (λ n. is_lt (name_cmp marker n)) (entries fs))) (filter_ascends (λ n. is_lt (name_cmp marker n)) (keys fs) (keys_ascend fs))

      dropped_are : map (λ e. e.0) (drop 1000 later) ≡ after next (map (λ e. e.0) later)
      dropped_are =
          map_drop (λ e. e.0) 1000 later ∙ sym (after_at (map (λ e. e.0) later) 999 next names_ascend (omega (arith, enough, length-map later (λ e. e.0)))) ∙ ap (λ n. after n (map (λ e. e.0) later)) next_is_last

      -- those that are left come after the last name of the page
      pub page_behind : AllBehind next test (without (filter test names) fs)
      page_behind =
          ap (list_all (λ name. is_lt (name_cmp next name)))
          (ap (map (λ e. e.0)) page_left ∙ map_filter test (drop 1000 later) ∙ ap (filter test) dropped_are)
          ∙ all_filter (λ name. is_lt (name_cmp next name)) test (after next (map (λ e. e.0) later)) (all_after next (map (λ e. e.0) later))

      -- and there are fewer of them
      next_later : is_gt (name_cmp next marker) ≡ true
      next_later = sym (not_behind marker next) ∙ subst (λ n. is_lt (name_cmp marker n) ≡ true) next_is_last
          (at_index (λ n. is_lt (name_cmp marker n)) (map (λ e. e.0) later) 999 next (omega (arith, enough, length-map later (λ e. e.0)))
          (ap (list_all (λ n. is_lt (name_cmp marker n))) (map_filter (λ n. is_lt (name_cmp marker n)) (entries fs)) ∙ all_passed (λ n. is_lt (name_cmp marker n)) (keys fs)))

      behind_next : map (λ e. e.0) (after_marker next fs) ≡ map (λ e. e.0) (drop 1000 later)
      behind_next =
          map_filter (λ n. is_lt (name_cmp next n)) (entries fs) ∙ filter_alike (λ n. is_lt (name_cmp next n)) (λ n. is_gt (name_cmp n next)) (not_behind next) (keys fs)
          ∙ after_later marker next (keys fs) next_later
          ∙ ap (after next) (sym (filter_alike (λ n. is_lt (name_cmp marker n)) (λ n. is_gt (name_cmp n marker)) (not_behind marker) (keys fs)) ∙ sym (map_filter (λ n. is_lt (name_cmp marker n)) (entries fs)))
          ∙ sym dropped_are

      pub page_nearer : (names' : List (List ℕ)) → length (after_marker next (without names' fs)) + 1000 ≤ length later
      page_nearer names' =
          let less = behind_less next names' fs in
          omega (arith, enough, less, ap length behind_next, length-map (after_marker next fs) (λ e. e.0), length-map (drop 1000 later) (λ e. e.0), length-drop 1000 later)

-- what doesn't pass stays, where what passes goes
pub stays_without : (test : List ℕ → Bool) (names : List (List ℕ)) (fs : Names SwiftObject) (n : List ℕ) → test n ≡ false → get (without (filter test names) fs) n ≡ get fs n
stays_without test [] fs n stays = refl
stays_without test (x ∷ names) fs n stays = by (test x) refl (stays_without test names (remove fs x) n stays) (stays_without test names fs n stays)
  where
    by : (t : Bool) → test x ≡ t → get (without (filter test names) (remove fs x)) n ≡ get (remove fs x) n → get (without (filter test names) fs) n ≡ get fs n
        → get (without (cond t (x ∷ filter test names) (filter test names)) fs) n ≡ get fs n
    by true goes here past = here ∙ off_remove by_name fs x n (apart by_name n x (λ e. true≢false (sym goes ∙ ap test (sym e) ∙ stays)))
    by false goes here past = past
