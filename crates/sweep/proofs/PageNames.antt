-- The names of a page of a container, and those behind it.
use Rattle.std.specs.Prelude.{◌≡◌, ◌+◌, ◌-◌, ℕ, zero, suc, Bool, true, false, cond, bytes_eq, is_some, List, [], ◌∷◌, map, length, take, drop, slice_get, Option, None, Some}
use Rattle.std.specs.Option.{option_and_then, option_map}
use Rattle.std.specs.List.{AllByRecursion, cons_option, filter, filter_map}
use Rattle.std.specs.declared.cmp.Ordering.{Ordering}
use Rattle.std.specs.declared.cmp.Ordering.TheVariants.{Less, Equal, Greater}
use Rattle.std.specs.Ordering.{is_eq, is_lt}
use Rattle.std.specs.FinMap.{entries, get, keys}
use Rattle.std.proofs.Common.{refl, sym, ap, subst, ◌∙◌, arith}
use Rattle.std.proofs.lemmas.List.{take-map}
use Rattle.std.proofs.lemmas.Map.Text.{is_eq-slice_cmp}
use Rattle.std.proofs.lemmas.Option.{same_Some}
use Rattle.gate_base.specs.Maps.{Names, name_cmp, pick_entry, picked}
use Rattle.gate_base.proofs.lemmas.Maps.{by_name, get-picked, name_antisymmetric, name_total, same_names}
use Rattle.s3_machine.specs.Items.{behind, with_prefix}
use Rattle.swift_calls.specs.Account.{SwiftObject, SwiftAccount, files}
use Rattle.swift_calls.specs.declared.heads.NameItem.{NameItem}
use Rattle.list_pages.specs.Listing.{Ascends, last_of, name_in}
use Rattle.list_pages.proofs.lemmas.PickedEntries.{entries_picked}
use Rattle.upload_records.specs.Consistent.{IsConsistent}
use Rattle.account_calls.specs.FilePages.{item_at, rows_after, TellsFiles}
use Rattle.account_calls.proofs.lemmas.Ascending as ascending
use Rattle.account_calls.proofs.lemmas.Ascending.{keys_ascend}
use Rattle.account_calls.proofs.lemmas.Markers.{IsEntry, entries_are}
use Rattle.account_calls.proofs.lemmas.Removal.{all_after_none, all_behind}
use Rattle.sweep.specs.Aging.{AreDistinct, is_in}
use Rattle.leftovers.specs.Gathering.{names_after}
use Rattle.sweep.proofs.AgesMany.{AreApart, bytes_swap, or_both}
use Rattle.leftovers.proofs.lemmas.FileNames.{no_prefix}

-- ---- names that ascend are distinct

not_equal : (x y : List ℕ) → name_cmp x y ≡ Less → bytes_eq x y ≡ false
not_equal x y less = sym (is_eq-slice_cmp x y) ∙ ap is_eq less

below_out : (x m : List ℕ) (names : List (List ℕ)) → ((y : List ℕ) → name_cmp m y ≡ Less → name_cmp x y ≡ Less) → Ascends m names → is_in x names ≡ false
below_out x m [] below up = refl
below_out x m (y ∷ ys) below up =
    let first = below y up.0 in
    or_both (bytes_eq x y) (is_in x ys) (not_equal x y first) (below_out x y ys (λ z less. name_total.trans x y z first less) up.1)

pub distinct_page : (m : List ℕ) (names : List (List ℕ)) → Ascends m names → AreDistinct names
distinct_page m [] up = tt
distinct_page m (y ∷ ys) up = (below_out y y ys (λ z less. less) up.1, distinct_page y ys up.1)

all_out : (x : List ℕ) (xs : List (List ℕ)) → AllByRecursion (λ y. name_cmp x y ≡ Less) xs → is_in x xs ≡ false
all_out x [] h = refl
all_out x (y ∷ ys) h = or_both (bytes_eq x y) (is_in x ys) (not_equal x y h.0) (all_out x ys h.1)

all_distinct : (names : List (List ℕ)) → ascending.Ascends names → AreDistinct names
all_distinct [] up = tt
all_distinct (x ∷ xs) up = (all_out x xs up.0, all_distinct xs up.1)

pub distinct_keys : {X : Type 0} (m : Names X) → AreDistinct (keys m)
distinct_keys m = all_distinct (keys m) (keys_ascend m)

pub apart_take : (n : ℕ) (xs ys : List (List ℕ)) → AreApart xs ys → AreApart xs (take n ys)
apart_take zero xs [] apart = tt
apart_take zero xs (y ∷ ys) apart = tt
apart_take (suc n) xs [] apart = tt
apart_take (suc n) xs (y ∷ ys) apart = (apart.0, apart_take n xs ys apart.1)

drop_nil : {X : Type 0} (m : ℕ) (xs : List X) → xs ≡ [] → drop m xs ≡ []
drop_nil zero [] e = refl
drop_nil zero (x ∷ xs) e = e
drop_nil (suc m) [] e = refl
drop_nil (suc m) (x ∷ xs) e = cc

drop_by : {X : Type 0} (n m k : ℕ) (xs : List X) → k ≡ n + m → drop k xs ≡ drop m (drop n xs)
drop_by zero m k [] e = drop_nil k [] refl ∙ sym (drop_nil m [] refl)
drop_by zero m k (x ∷ xs) e = let same : k ≡ m = omega (arith, e) in ap (λ j. drop j (x ∷ xs)) same
drop_by (suc n) m zero xs e = absurd (omega (arith, e))
drop_by (suc n) m (suc k) [] e = sym (drop_nil m [] refl)
drop_by (suc n) m (suc k) (x ∷ xs) e = drop_by n m k xs (omega (arith, e))

pub drop_more : {X : Type 0} (n m : ℕ) (xs : List X) → drop (n + m) xs ≡ drop m (drop n xs)
drop_more n m xs = drop_by n m (n + m) xs refl

-- ---- the last of a page

after_last : (m : List ℕ) (names : List (List ℕ)) (id : List ℕ) → Ascends m names → name_cmp (last_of m names) id ≡ Less → name_cmp m id ≡ Less
after_last m [] id up less = less
after_last m (y ∷ ys) id up less = name_total.trans m y id up.0 (after_last y ys id up.1 less)

-- what comes after it isn't one of them
pub last_out : (m : List ℕ) (names : List (List ℕ)) (id : List ℕ) → Ascends m names → name_cmp (last_of m names) id ≡ Less → is_in id names ≡ false
last_out m [] id up less = refl
last_out m (y ∷ ys) id up less = or_both (bytes_eq id y) (is_in id ys) (bytes_swap y id (not_equal y id (after_last y ys id up.1 less))) (last_out y ys id up.1 less)

last_at : (y : List ℕ) (ys : List (List ℕ)) (next : List ℕ) → slice_get (y ∷ ys) (length ys) ≡ Some next → last_of y ys ≡ next
last_at y [] next is = same_Some y next is
last_at y (z ∷ zs) next is = last_at z zs next is

pub last_is : (m : List ℕ) (names : List (List ℕ)) (next : List ℕ) → slice_get names (length names - 1) ≡ Some next → last_of m names ≡ next
last_is m [] next is = cc
last_is m (y ∷ ys) next is = let e : length ys ≡ length (y ∷ ys) - 1 = omega arith in last_at y ys next (ap (slice_get (y ∷ ys)) e ∙ is)

-- ---- the names after a marker

pub lt_less : (o : Ordering) → is_lt o ≡ true → o ≡ Less
lt_less Less e = refl
lt_less Equal e = cc
lt_less Greater e = cc

module _ {X : Type 0} (marker : List ℕ) where
  abbrev takes : List ℕ → X → Option X
  takes name x = cond (is_lt (name_cmp marker name)) (Some x) None

  picked_are : (es : List (List ℕ × X)) → filter_map (pick_entry takes) es ≡ behind marker es
  picked_are [] = refl
  picked_are (e ∷ es) =
      elim (is_lt (name_cmp marker e.0)) as (λ t. cons_option (option_map (λ y. (e.0, y)) (cond t (Some e.1) None)) (filter_map (pick_entry takes) es) ≡ cond t (e ∷ behind marker es) (behind marker es)) [
        | true ↦ ap (λ l. e ∷ l) (picked_are es)
        | false ↦ picked_are es
      ]

  entries_behind : (m : Names X) → entries (picked takes m) ≡ behind marker (entries m)
  unfolding picked
  entries_behind m = entries_picked name_total name_antisymmetric takes m ∙ picked_are (entries m)

  none_taken : (q : List ℕ) (o : Option X) → is_lt (name_cmp marker q) ≡ false → option_and_then (takes q) o ≡ None
  none_taken q None not = refl
  none_taken q (Some x) not = ap (λ t. cond t (Some x) None) not

  taken_same : (m n : Names X) (q : List ℕ) (t : Bool) → is_lt (name_cmp marker q) ≡ t → (is_lt (name_cmp marker q) ≡ true → get m q ≡ get n q) → option_and_then (takes q) (get m q) ≡ option_and_then (takes q) (get n q)
  taken_same m n q true e same = ap (option_and_then (takes q)) (same e)
  taken_same m n q false e same = none_taken q (get m q) e ∙ sym (none_taken q (get n q) e)

  -- maps that have the same after a marker have the same entries after it
  pub behind_same : (m n : Names X) → ((q : List ℕ) → is_lt (name_cmp marker q) ≡ true → get m q ≡ get n q) → behind marker (entries m) ≡ behind marker (entries n)
  behind_same m n same =
      sym (entries_behind m)
      ∙ ap entries (same_names (picked takes m) (picked takes n) (λ q. get-picked by_name takes m q ∙ taken_same m n q (is_lt (name_cmp marker q)) refl (same q) ∙ sym (get-picked by_name takes n q)))
      ∙ entries_behind n

pub rows_are : (marker : List ℕ) (fs : Names SwiftObject) → rows_after [] marker fs ≡ behind marker (entries fs)
rows_are marker fs = ap (behind marker) (no_prefix (entries fs))

pub names_stay : (folder marker : List ℕ) (old new : SwiftAccount) → ((q : List ℕ) → is_lt (name_cmp marker q) ≡ true → get (files new folder) q ≡ get (files old folder) q)
    → names_after folder marker new ≡ names_after folder marker old
names_stay folder marker old new same =
    ap (map (λ e. e.0)) (rows_are marker (files new folder) ∙ behind_same marker (files new folder) (files old folder) same ∙ sym (rows_are marker (files old folder)))

-- all of them come after the empty marker
pub all_names : (tree : SwiftAccount) (folder : List ℕ) → IsConsistent tree → names_after folder [] tree ≡ keys (files tree folder)
all_names tree folder sound = ap (map (λ e. e.0)) (all_behind [] (with_prefix [] (entries (files tree folder))) (all_after_none tree folder [] sound) ∙ no_prefix (entries (files tree folder)))

-- ---- the items of a page

names_of : (rows : List (List ℕ × SwiftObject)) → map name_in (map item_at rows) ≡ map (λ e. e.0) rows
names_of [] = refl
names_of (e ∷ rows) = ap (λ l. e.0 ∷ l) (names_of rows)

pub page_is : (folder marker : List ℕ) (tree : SwiftAccount) (page : List NameItem) → TellsFiles folder [] marker tree page → map name_in page ≡ take 1000 (names_after folder marker tree)
page_is folder marker tree page tells =
    ap (map name_in) tells.items ∙ sym (take-map name_in 1000 (map item_at (rows_after [] marker (files tree folder)))) ∙ ap (take 1000) (names_of (rows_after [] marker (files tree folder)))

-- each of them is there
all_filter : {X : Type 0} (P : X → Type 0) (p : X → Bool) (xs : List X) → AllByRecursion P xs → AllByRecursion P (filter p xs)
all_filter P p [] h = tt
all_filter P p (x ∷ xs) h = elim (p x) as (λ t. AllByRecursion P (cond t (x ∷ filter p xs) (filter p xs))) [ true ↦ (h.0, all_filter P p xs h.1) | false ↦ all_filter P p xs h.1 ]

all_take : {X : Type 0} (P : X → Type 0) (n : ℕ) (xs : List X) → AllByRecursion P xs → AllByRecursion P (take n xs)
all_take P zero [] h = tt
all_take P zero (x ∷ xs) h = tt
all_take P (suc n) [] h = tt
all_take P (suc n) (x ∷ xs) h = (h.0, all_take P n xs h.1)

names_there : (fs : Names SwiftObject) (es : List (List ℕ × SwiftObject)) → AllByRecursion (IsEntry fs) es → AllByRecursion (λ id. is_some (get fs id) ≡ true) (map (λ e. e.0) es)
names_there fs [] h = tt
names_there fs (e ∷ es) h = (ap is_some h.0, names_there fs es h.1)

pub page_there : (folder marker : List ℕ) (tree : SwiftAccount) → AllByRecursion (λ id. is_some (get (files tree folder) id) ≡ true) (take 1000 (names_after folder marker tree))
page_there folder marker tree =
    let fs = files tree folder in
    all_take (λ id. is_some (get fs id) ≡ true) 1000 (names_after folder marker tree)
    (names_there fs (rows_after [] marker fs) (subst (AllByRecursion (IsEntry fs)) (sym (rows_are marker fs)) (all_filter (IsEntry fs) (λ (e : List ℕ × SwiftObject). is_lt (name_cmp marker e.0)) (entries fs) (entries_are fs))))
