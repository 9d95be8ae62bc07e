-- One page of a container after another, and the names of a page.
use Rattle.std.proofs.Common.{◌≡◌, ℕ, zero, suc, ◌-◌, ◌<◌, ◌≤◌, Bool, true, false, cond, nat_lt, T, List, [], ◌∷◌, ◌++◌, map, length, take, drop, slice_get, Option, Some, None, refl, sym, ap, ◌∙◌, arith}
use Rattle.std.specs.List.{list_all}
use Rattle.std.specs.Prelude.{IfSome}
use Rattle.std.specs.FinMap.{entries, entries_sorted, is_sorted}
use Rattle.std.proofs.lemmas.Bool.{and_parts}
use Rattle.std.proofs.lemmas.Bool.Decides.{nat_tests}
use Rattle.std.proofs.lemmas.List.{length-map, length-take, length-append, map-append}
use Rattle.std.proofs.lemmas.Option.{same_Some}
use Rattle.gate_base.specs.Maps.{Names, name_cmp}
use Rattle.s3_names.specs.Key.{is_key}
use Rattle.s3_machine.specs.Items.{begins, behind, with_prefix}
use Rattle.swift_calls.specs.Account.{SwiftObject}
use Rattle.swift_calls.specs.Limits.{IsMarker}
use Rattle.swift_calls.specs.declared.heads.NameItem.{NameItem}
use Rattle.list_pages.specs.Listing.{is_listed_name_with_prefix, name_in}
use Rattle.list_pages.proofs.lemmas.Sorted.{sorted_filter}
use Rattle.list_pages.proofs.lemmas.Turning.{page_turned}
use Rattle.account_calls.proofs.lemmas.Names.{object_name}
use Rattle.account_calls.specs.FilePages.{item_at, rows_after, items_after, next_after}

-- ---- the last name of a page

at_end : {X : Type 0} (xs : List X) (y : X) → slice_get (xs ++ y ∷ []) (length xs) ≡ Some y
at_end [] y = refl
at_end (x ∷ xs) y = at_end xs y

last_is : {X : Type 0} (xs : List X) (y : X) → slice_get (xs ++ y ∷ []) (length (xs ++ y ∷ []) - 1) ≡ Some y
last_is xs y = ap (slice_get (xs ++ y ∷ [])) (omega (arith, length-append xs (y ∷ []))) ∙ at_end xs y

split_last : {X : Type 0} (x : X) (xs : List X) → (front : List X) × (e : X) × (x ∷ xs ≡ front ++ e ∷ [])
split_last x [] = ([], x, refl)
split_last x (y ∷ xs) = let s = split_last y xs in (x ∷ s.0, s.1, ap (λ l. x ∷ l) s.2)

split_filled : {X : Type 0} (xs : List X) → 0 < length xs → (front : List X) × (e : X) × (xs ≡ front ++ e ∷ [])
split_filled [] some = absurd (omega (arith, some))
split_filled (x ∷ xs) some = split_last x xs

short : {X : Type 0} (n : ℕ) (xs : List X) → length (take n xs) < n → take n xs ≡ xs
short zero xs near = absurd (omega (arith, near))
short (suc n) [] near = refl
short (suc n) (x ∷ xs) near = ap (λ ys. x ∷ ys) (short n xs (omega (arith, near)))

all_at : (p : List ℕ → Bool) (names : List (List ℕ)) (n : ℕ) (name : List ℕ) → list_all p names ≡ true → slice_get names n ≡ Some name → p name ≡ true
all_at p [] n name all is = cc
all_at p (x ∷ names) zero name all is = ap p (sym (same_Some x name is)) ∙ (and_parts (p x) (list_all p names) all).0
all_at p (x ∷ names) (suc n) name all is = all_at p names n name (and_parts (p x) (list_all p names) all).1 is

-- where there is one, the page is whole and it is its last
next_is : (names : List (List ℕ)) (next : List ℕ) → next_after names ≡ Some next → (1000 ≤ length names) × (slice_get names (length names - 1) ≡ Some next)
next_is names next is = by (nat_lt (length names) 1000) refl is
  where
    by : (t : Bool) → nat_lt (length names) 1000 ≡ t → cond t None (slice_get names (length names - 1)) ≡ Some next → (1000 ≤ length names) × (slice_get names (length names - 1) ≡ Some next)
    by true e is = cc
    by false e is = (grind (arith, nat_tests, e), is)

none_is : (names : List (List ℕ)) → next_after names ≡ None → length names < 1000
none_is names is = by (nat_lt (length names) 1000) refl is
  where
    whole : {X : Type 0} (xs : List X) → 1000 ≤ length xs → slice_get xs (length xs - 1) ≡ None → ⊥
    whole xs far none = let s = split_filled xs (omega (arith, far)) in let k : Some s.1 ≡ None = sym (last_is s.0 s.1) ∙ ap (λ l. slice_get l (length l - 1)) (sym s.2) ∙ none in cc

    by : (t : Bool) → nat_lt (length names) 1000 ≡ t → cond t None (slice_get names (length names - 1)) ≡ None → length names < 1000
    by true e is = grind (arith, nat_tests, e)
    by false e is = absurd (whole names (grind (arith, nat_tests, e)) is)

-- a key may be a marker
key_is_marker : (name : List ℕ) → is_key name ≡ true → IsMarker name
key_is_marker name is =
    let text = (object_name name is).1 in
    let within = text.within in
    record { within = omega (arith, within); utf8 = text.utf8; no_zero = text.no_zero }

pub next_is_marker : (prefix : List ℕ) (names : List (List ℕ)) (next : List ℕ) → list_all (is_listed_name_with_prefix prefix) names ≡ true → next_after names ≡ Some next → IsMarker next
next_is_marker prefix names next named is =
    key_is_marker next (and_parts (is_key next) (begins prefix next) (all_at (is_listed_name_with_prefix prefix) names (length names - 1) next named (next_is names next is).1)).0

-- ---- what is left behind it

names_of : (rows : List (List ℕ × SwiftObject)) (n : ℕ) → map name_in (take n (map item_at rows)) ≡ map (λ e. e.0) (take n rows)
names_of rows zero = none (map item_at rows) ∙ sym (no_rows rows)
  where
    none : (xs : List NameItem) → map name_in (take 0 xs) ≡ []
    none [] = refl
    none (x ∷ xs) = refl

    no_rows : (xs : List (List ℕ × SwiftObject)) → map (λ e. e.0) (take 0 xs) ≡ []
    no_rows [] = refl
    no_rows (x ∷ xs) = refl
names_of [] (suc n) = refl
names_of (e ∷ rows) (suc n) = ap (λ l. e.0 ∷ l) (names_of rows n)

module _ (prefix marker : List ℕ) (fs : Names SwiftObject) where
  abbrev keyed : List (List ℕ × SwiftObject)
  keyed = with_prefix prefix (entries fs)

  abbrev rows : List (List ℕ × SwiftObject)
  rows = rows_after prefix marker fs

  sorted : T (is_sorted name_cmp keyed)
  sorted = sorted_filter (λ e. begins prefix e.0) (entries fs) (entries_sorted fs)

  -- a whole page: the rows behind its last are those that it doesn't have
  pub turned : (told : List NameItem) (next : List ℕ) → told ≡ take 1000 (items_after prefix marker fs) → next_after (map name_in told) ≡ Some next
      → (rows_after prefix next fs ≡ drop 1000 rows) × (1000 ≤ length rows)
  turned told next is after =
      let names : map name_in told ≡ map (λ e. e.0) (take 1000 rows) = ap (map name_in) is ∙ names_of rows 1000 in
      let found = next_is (map (λ e. e.0) (take 1000 rows)) next (ap next_after (sym names) ∙ after) in
      let long = found.0 in
      let counted = length-map (take 1000 rows) (λ e. e.0) in
      let s = split_filled (take 1000 rows) (omega (arith, long, counted)) in
      let here : map (λ e. e.0) (take 1000 rows) ≡ map (λ e. e.0) s.0 ++ s.1.0 ∷ [] = ap (map (λ e. e.0)) s.2 ∙ map-append (λ e. e.0) s.0 (s.1 ∷ []) in
      let same : s.1.0 ≡ next = same_Some s.1.0 next (sym (last_is (map (λ e. e.0) s.0) s.1.0) ∙ ap (λ l. slice_get l (length l - 1)) (sym here) ∙ found.1) in
      let page = page_turned marker keyed s.0 s.1 1000 sorted s.2 in
      (ap (λ m. behind m keyed) (sym same) ∙ page.0, omega (arith, long, counted, length-take 1000 rows))

  -- a short one is the last
  pub ended : (told : List NameItem) → told ≡ take 1000 (items_after prefix marker fs) → next_after (map name_in told) ≡ None → told ≡ items_after prefix marker fs
  ended told is none =
      let few = none_is (map name_in told) none in
      is ∙ short 1000 (items_after prefix marker fs) (omega (arith, few, length-map told name_in, ap length is))

-- the marker of the next page may be one
pub next_may_be : (prefix : List ℕ) (page : List NameItem) (next : Option (List ℕ)) → next ≡ next_after (map name_in page) → list_all (is_listed_name_with_prefix prefix) (map name_in page) ≡ true → IfSome next IsMarker
next_may_be prefix page None is named = tt
next_may_be prefix page (Some next) is named = next_is_marker prefix (map name_in page) next named (sym is)
