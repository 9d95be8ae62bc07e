-- The files of a container under a prefix, as some are deleted: those of the first names go, and the rest stays in its order.
use Rattle.std.specs.Prelude.{◌≡◌, ◌<◌, ◌≤◌, ◌+◌, ◌-◌, ℕ, zero, suc, Bool, true, false, cond, not, T, ◌&&◌, List, [], ◌∷◌, ◌++◌, map, length, take, drop, nat_lt, slice_get, get_or, Option, None, Some}
use Rattle.std.specs.List.{filter, list_all}
use Rattle.std.specs.Ordering.{eq_by_cmp, is_eq, is_gt, is_lt}
use Rattle.std.specs.declared.cmp.Ordering.{Ordering}
use Rattle.std.specs.declared.cmp.Ordering.TheVariants.{Less, Equal, Greater}
use Rattle.std.specs.FinMap.{entries, entries_sorted, from_sorted, entries-from_sorted, get, get-entries, get-from_sorted, get-remove, is_sorted, keys, remove}
use Rattle.std.specs.FinMap.Entries.{below_all, where_key, is_sorted-where_key, find-where_key}
use Rattle.std.proofs.Common.{refl, sym, ap, subst, ◌∙◌, inl, inr, arith}
use Rattle.std.proofs.lemmas.Bool.{and_from, and_parts}
use Rattle.std.proofs.lemmas.Bool.Decides.{nat_tests}
use Rattle.std.proofs.lemmas.List.{drop_all, length-drop, length-map, length-take, take-map}
use Rattle.std.proofs.lemmas.Option.{slice_get-get_or}
use Rattle.gate_base.specs.Maps.{Names, name_cmp}
use Rattle.gate_base.proofs.lemmas.Maps.{by_name, name_antisymmetric, name_total, key_itself, apart_back, same_key, same_names}
use Rattle.s3_names.specs.Key.{is_key}
use Rattle.s3_names.proofs.lemmas.KeyLemmas.{key_length}
use Rattle.s3_machine.specs.Items.{begins, behind, with_prefix}
use Rattle.swift_calls.specs.Account.{SwiftObject, SwiftAccount, files}
use Rattle.swift_calls.specs.declared.heads.NameItem.{NameItem}
use Rattle.upload_records.specs.Consistent.{IsConsistent}
use Rattle.list_pages.specs.Listing.{name_in}
use Rattle.list_pages.proofs.lemmas.Pages.{parts}
use Rattle.list_pages.proofs.lemmas.Sorted.{sorted_filter}
use Rattle.list_pages.proofs.lemmas.Starting.{not_behind}
use Rattle.account_calls.specs.FilePages.{next_after, TellsFiles}
use Rattle.account_calls.specs.Listing.{after}
use Rattle.account_calls.specs.Purging.{under, names_under, without, AllBehind}
use Rattle.account_calls.proofs.lemmas.Ascending.{Ascends, after_at, filter_ascends, keys_ascend}
use Rattle.account_calls.proofs.lemmas.FilePages.{all_keys, names_are}
use Rattle.account_calls.proofs.lemmas.Markers.{entries_are}

-- ---- one name

abbrev other : List ℕ → List ℕ → Bool
other name n = not (eq_by_cmp name_cmp name n)

turned : {X : Type 0} (t : Bool) (x y : X) → cond (not t) x y ≡ cond t y x
turned true x y = refl
turned false x y = refl

-- a test of the key answers alike at the same key
other_alike : (name q x : List ℕ) → name_cmp q x ≡ Equal → other name x ≡ other name q
other_alike name q x e = ap (other name) (sym (name_antisymmetric q x e))

same_test : (name q : List ℕ) → eq_by_cmp name_cmp name q ≡ eq_by_cmp name_cmp q name
same_test name q = elim (same_key by_name name q) [
  | inl e ↦ λ i. eq_by_cmp name_cmp (e i) (sym e i)
  | inr a ↦ a ∙ sym (apart_back by_name name q a)
]

module _ {X : Type 0} where
  -- the entries without a name are those of other names
  removed : (fs : Names X) (name : List ℕ) → entries (remove fs name) ≡ where_key name_cmp (other name) (entries fs)
  removed fs name =
      let rest : List (List ℕ × X) = where_key name_cmp (other name) (entries fs) in
      let rises : T (is_sorted name_cmp rest) = is_sorted-where_key name_cmp (other name) (entries fs) (entries_sorted fs) in
      ap entries (same_names (remove fs name) (from_sorted rest) (λ q.
      get-remove name_total fs name q ∙ ap (λ t. cond t None (get fs q)) (sym (same_test name q)) ∙ sym (turned (eq_by_cmp name_cmp name q) (get fs q) None) ∙ ap (λ v. cond (other name q) v None) (get-entries fs q)
      ∙ sym (get-from_sorted name_cmp rest q rises ∙ find-where_key name_cmp (other name) q (other_alike name q) (entries fs))))
      ∙ entries-from_sorted name_cmp rest rises

  swap_one : (p q : X → Bool) (x : X) (ps qs : List X) → filter p qs ≡ filter q ps → (s t : Bool) → p x ≡ s → q x ≡ t → filter p (cond t (x ∷ qs) qs) ≡ filter q (cond s (x ∷ ps) ps)
  swap_one p q x ps qs rest true true e f = ap (λ u. cond u (x ∷ filter p qs) (filter p qs)) e ∙ ap (λ ys. x ∷ ys) rest ∙ sym (ap (λ u. cond u (x ∷ filter q ps) (filter q ps)) f)
  swap_one p q x ps qs rest true false e f = rest ∙ sym (ap (λ u. cond u (x ∷ filter q ps) (filter q ps)) f)
  swap_one p q x ps qs rest false true e f = ap (λ u. cond u (x ∷ filter p qs) (filter p qs)) e ∙ rest
  swap_one p q x ps qs rest false false e f = rest

  filter_swap : (p q : X → Bool) (xs : List X) → filter p (filter q xs) ≡ filter q (filter p xs)
  filter_swap p q [] = refl
  filter_swap p q (x ∷ xs) = swap_one p q x (filter p xs) (filter q xs) (filter_swap p q xs) (p x) (q x) refl refl

less_is_other : (o : Ordering) → T (is_lt o) → not (is_eq o) ≡ true
less_is_other Less h = refl
less_is_other Equal h = absurd h
less_is_other Greater h = absurd h

-- entries of later names stay
later_stay : {X : Type 0} (name : List ℕ) (es : List (List ℕ × X)) → T (below_all name_cmp name es) → filter (λ e. other name e.0) es ≡ es
later_stay name [] below = refl
later_stay name (e ∷ es) below =
    let p = parts (is_lt (name_cmp name e.0)) (below_all name_cmp name es) below in
    ap (λ t. cond t (e ∷ filter (λ e. other name e.0) es) (filter (λ e. other name e.0) es)) (less_is_other (name_cmp name e.0) p.0) ∙ ap (λ l. e ∷ l) (later_stay name es p.1)

first_goes : {X : Type 0} (e : List ℕ × X) (es : List (List ℕ × X)) → T (is_sorted name_cmp (e ∷ es)) → filter (λ x. other e.0 x.0) (e ∷ es) ≡ es
first_goes e es sorted =
    ap (λ t. cond (not t) (e ∷ filter (λ x. other e.0 x.0) es) (filter (λ x. other e.0 x.0) es)) (key_itself by_name e.0) ∙ later_stay e.0 es (parts (below_all name_cmp e.0 es) (is_sorted name_cmp es) sorted).0

under_sorted : (prefix : List ℕ) (fs : Names SwiftObject) → T (is_sorted name_cmp (under prefix fs))
under_sorted prefix fs = sorted_filter (λ e. begins prefix e.0) (entries fs) (entries_sorted fs)

-- without the first of the names under a prefix the others are left
under_first : (prefix : List ℕ) (fs : Names SwiftObject) (e : List ℕ × SwiftObject) (es : List (List ℕ × SwiftObject)) → under prefix fs ≡ e ∷ es → under prefix (remove fs e.0) ≡ es
under_first prefix fs e es is =
    ap (with_prefix prefix) (removed fs e.0)
    ∙ filter_swap (λ x. begins prefix x.0) (λ x. other e.0 x.0) (entries fs)
    ∙ ap (filter (λ x. other e.0 x.0)) is
    ∙ first_goes e es (subst (λ l. T (is_sorted name_cmp l)) is (under_sorted prefix fs))

-- ---- the first names

-- without the first names under a prefix those behind them are left
under_left : (prefix : List ℕ) (k : ℕ) (es : List (List ℕ × SwiftObject)) (fs : Names SwiftObject) → under prefix fs ≡ es → under prefix (without (map (λ e. e.0) (take k es)) fs) ≡ drop k es
under_left prefix zero [] fs is = is
under_left prefix zero (e ∷ es) fs is = is
under_left prefix (suc k) [] fs is = is
under_left prefix (suc k) (e ∷ es) fs is = under_left prefix k es (remove fs e.0) (under_first prefix fs e es is)

pub page_left : (prefix : List ℕ) (k : ℕ) (names : List (List ℕ)) (fs : Names SwiftObject) → names ≡ take k (names_under prefix fs) → under prefix (without names fs) ≡ drop k (under prefix fs)
page_left prefix k names fs is =
    ap (λ l. under prefix (without l fs)) (is ∙ take-map (λ e. e.0) k (under prefix fs)) ∙ under_left prefix k (under prefix fs) fs refl

-- names deleted one after the other
pub without_more : (names : List (List ℕ)) (name : List ℕ) (fs : Names SwiftObject) → without (names ++ name ∷ []) fs ≡ remove (without names fs) name
without_more [] name fs = refl
without_more (n ∷ names) name fs = without_more names name (remove fs n)

-- ---- a page of them

map_filter : {X : Type 0} (p : List ℕ → Bool) (es : List (List ℕ × X)) → map (λ e. e.0) (filter (λ e. p e.0) es) ≡ filter p (map (λ e. e.0) es)
map_filter p [] = refl
map_filter p (e ∷ es) = elim (p e.0) as (λ t. map (λ e. e.0) (cond t (e ∷ filter (λ e. p e.0) es) (filter (λ e. p e.0) es)) ≡ cond t (e.0 ∷ filter p (map (λ e. e.0) es)) (filter p (map (λ e. e.0) es))) [
  | true ↦ ap (λ l. e.0 ∷ l) (map_filter p es)
  | false ↦ map_filter p es
]

names_ascend : (prefix : List ℕ) (fs : Names SwiftObject) → Ascends (names_under prefix fs)
names_ascend prefix fs = subst Ascends (sym (map_filter (begins prefix) (entries fs))) (filter_ascends (begins prefix) (keys fs) (keys_ascend fs))

map_drop : {A B : Type 0} (f : A → B) (n : ℕ) (xs : List A) → map f (drop n xs) ≡ drop n (map f xs)
map_drop f zero [] = refl
map_drop f zero (x ∷ xs) = refl
map_drop f (suc n) [] = refl
map_drop f (suc n) (x ∷ xs) = map_drop f n xs

at_front : {X : Type 0} (n i : ℕ) (d : X) (xs : List X) → i < n → get_or (take n xs) i d ≡ get_or xs i d
at_front zero i d xs near = absurd (omega (arith, near))
at_front (suc n) zero d [] near = refl
at_front (suc n) (suc i) d [] near = refl
at_front (suc n) zero d (x ∷ xs) near = refl
at_front (suc n) (suc i) d (x ∷ xs) near = at_front n i d xs (omega (arith, near))

after_one : (next name : List ℕ) (names : List (List ℕ)) → list_all (λ name. is_lt (name_cmp next name)) names ≡ true → (t : Bool) → is_gt (name_cmp name next) ≡ t
    → list_all (λ name. is_lt (name_cmp next name)) (cond t (name ∷ names) names) ≡ true
after_one next name names rest true e = ap (λ t. t && list_all (λ name. is_lt (name_cmp next name)) names) (not_behind next name ∙ e) ∙ rest
after_one next name names rest false e = rest

all_after : (next : List ℕ) (names : List (List ℕ)) → list_all (λ name. is_lt (name_cmp next name)) (after next names) ≡ true
all_after next [] = refl
all_after next (name ∷ names) = after_one next name (after next names) (all_after next names) (is_gt (name_cmp name next)) refl

module _ (prefix : List ℕ) (names : List (List ℕ)) (fs : Names SwiftObject) (is : names ≡ take 1000 (names_under prefix fs)) where
  left : under prefix (without names fs) ≡ drop 1000 (under prefix fs)
  left = page_left prefix 1000 names fs is

  -- no more names are deleted than there are
  pub page_within : length names ≤ length (under prefix fs)
  page_within = omega (arith, ap length is, length-take 1000 (names_under prefix fs), length-map (under prefix fs) (λ e. e.0))

  pub page_short : length names < 1000 → names_under prefix (without names fs) ≡ []
  page_short short =
      ap (map (λ e. e.0)) (left ∙ drop_all 1000 (under prefix fs) (omega (arith, short, ap length is, length-take 1000 (names_under prefix fs), length-map (under prefix fs) (λ e. e.0))))

  module _ (far : 1000 ≤ length names) where
    enough : 1000 ≤ length (under prefix fs)
    enough = omega (arith, far, ap length is, length-take 1000 (names_under prefix fs), length-map (under prefix fs) (λ e. e.0))

    pub page_fewer : length (under prefix fs) ≡ 1000 + length (under prefix (without names fs))
    page_fewer = omega (arith, enough, ap length left, length-drop 1000 (under prefix fs))

    pub page_behind : (next : List ℕ) → slice_get names (length names - 1) ≡ Some next → AllBehind next prefix (without names fs)
    page_behind next at =
        let xs = names_under prefix fs in
        let many : 1000 ≤ length xs = omega (arith, enough, length-map (under prefix fs) (λ e. e.0)) in
        let long : length names ≡ 1000 = omega (arith, far, ap length is, length-take 1000 xs) in
        let last : slice_get names 999 ≡ Some next = ap (λ n. slice_get names (n - 1)) (sym long) ∙ at in
        let found : Some (get_or names 999 next) ≡ Some next = sym (slice_get-get_or names 999 next (omega (arith, long))) ∙ last in
        let same : get_or names 999 next ≡ next = cc in
        let is_last : get_or xs 999 next ≡ next = sym (at_front 1000 999 next xs (omega arith)) ∙ ap (λ l. get_or l 999 next) (sym is) ∙ same in
        let rest : names_under prefix (without names fs) ≡ after next xs =
        ap (map (λ e. e.0)) left ∙ map_drop (λ e. e.0) 1000 (under prefix fs) ∙ sym (after_at xs 999 next (names_ascend prefix fs) (omega (arith, many))) ∙ ap (λ n. after n xs) is_last in
        ap (list_all (λ name. is_lt (name_cmp next name))) rest ∙ all_after next xs

-- what a page tells of the next one
lt_of : (a b : ℕ) → nat_lt a b ≡ true → a < b
lt_of a b e = grind (arith, nat_tests)

le_of : (a b : ℕ) → nat_lt a b ≡ false → b ≤ a
le_of a b e = grind (arith, nat_tests)

abbrev pub IsNext : List (List ℕ) → Option (List ℕ) → Type 0
IsNext names None = length names < 1000
IsNext names (Some next) = (1000 ≤ length names) × (slice_get names (length names - 1) ≡ Some next)

pub next_is : (names : List (List ℕ)) (next : Option (List ℕ)) → next ≡ next_after names → IsNext names next
next_is names next is = subst (IsNext names) (sym is) (by (nat_lt (length names) 1000) refl (slice_get names (length names - 1)) refl)
  where
    by : (t : Bool) → nat_lt (length names) 1000 ≡ t → (o : Option (List ℕ)) → slice_get names (length names - 1) ≡ o → IsNext names (cond t None o)
    by true near o e = lt_of (length names) 1000 near
    by false far (Some next) e = (le_of (length names) 1000 far, e)
    by false far None e =
        let from = le_of (length names) 1000 far in
        let some : Some (get_or names (length names - 1) []) ≡ None = sym (slice_get-get_or names (length names - 1) [] (omega (arith, from))) ∙ e in
        cc

-- ---- which come after a marker

-- where all names under a prefix come after the marker, the entries after it are all of them
pub all_behind : {X : Type 0} (marker : List ℕ) (es : List (List ℕ × X)) → list_all (λ name. is_lt (name_cmp marker name)) (map (λ e. e.0) es) ≡ true → behind marker es ≡ es
all_behind marker [] e = refl
all_behind marker (x ∷ es) e =
    let a = and_parts (is_lt (name_cmp marker x.0)) (list_all (λ name. is_lt (name_cmp marker name)) (map (λ e. e.0) es)) e in
    ap (λ t. cond t (x ∷ behind marker es) (behind marker es)) a.0 ∙ ap (λ l. x ∷ l) (all_behind marker es a.1)

filled_above : (name : List ℕ) → is_key name ≡ true → is_lt (name_cmp [] name) ≡ true
filled_above [] is = let some = (key_length [] is).0 in absurd (omega (arith, some))
filled_above (b ∷ name) is = refl

keys_above : {X : Type 0} (prefix : List ℕ) (es : List (List ℕ × X)) → list_all (λ e. is_key e.0) es ≡ true → list_all (λ name. is_lt (name_cmp [] name)) (map (λ e. e.0) (with_prefix prefix es)) ≡ true
keys_above prefix [] h = refl
keys_above prefix (e ∷ es) h =
    let a = and_parts (is_key e.0) (list_all (λ e. is_key e.0) es) h in
    elim (begins prefix e.0) as (λ t. list_all (λ name. is_lt (name_cmp [] name)) (map (λ e. e.0) (cond t (e ∷ with_prefix prefix es) (with_prefix prefix es))) ≡ true) [
      | true ↦ and_from _ _ (filled_above e.0 a.0) (keys_above prefix es a.1)
      | false ↦ keys_above prefix es a.1
    ]

-- over a consistent account all names come after the empty marker
pub all_after_none : (tree : SwiftAccount) (folder prefix : List ℕ) → IsConsistent tree → AllBehind [] prefix (files tree folder)
all_after_none tree folder prefix sound = keys_above prefix (entries (files tree folder)) (all_keys tree folder sound (entries (files tree folder)) (entries_are (files tree folder)))

-- what a page tells then are the first names under the prefix
pub first_names : (tree : SwiftAccount) (folder prefix marker : List ℕ) (told : List NameItem) → IsConsistent tree → AllBehind marker prefix (files tree folder) → TellsFiles folder prefix marker tree told
    → map name_in told ≡ take 1000 (names_under prefix (files tree folder))
first_names tree folder prefix marker told sound behind tells =
    ap (map name_in) tells.items ∙ names_are tree folder sound prefix marker 1000 ∙ ap (λ es. take 1000 (map (λ e. e.0) es)) (all_behind marker (under prefix (files tree folder)) behind)
