-- A page of keys was taken.
use Rattle.std.proofs.Common.{◌≡◌, ℕ, zero, suc, ◌+◌, ◌≤◌, ◌<◌, ◌==◌, ◌||◌, Bool, true, false, not, T, List, [], ◌∷◌, ◌++◌, map, length, take, drop, refl, sym, ap, subst, ◌∙◌, arith, append_assoc}
use Rattle.std.specs.List.{filter, list_all}
use Rattle.std.specs.Ordering.{is_gt, is_lt}
use Rattle.std.specs.FinMap.{entries, entries_sorted, get, is_sorted}
use Rattle.std.specs.FinMap.Entries.{below_all}
use Rattle.std.proofs.lemmas.Bool.{and_parts, or_right}
use Rattle.std.proofs.lemmas.Bool.Decides.{nat_tests}
use Rattle.std.proofs.lemmas.List.{length-map, length-take, length-append, take-append-drop}
use Rattle.std.proofs.lemmas.List.Folds.{list_all-append}
use Rattle.gate_base.specs.Maps.{name_cmp}
use Rattle.s3_names.specs.Key.{is_key}
use Rattle.s3_machine.specs.Items.{begins, behind, row_of}
use Rattle.s3_machine.specs.Limits.{is_listing_text}
use Rattle.s3_machine.specs.State.{Object}
use Rattle.s3_machine.specs.Step.{listed_key}
use Rattle.s3_machine.specs.declared.items.ItemHead.{ItemHead}
use Rattle.swift_calls.specs.Account.{SwiftAccount}
use Rattle.swift_calls.specs.Limits.{IsMarker}
use Rattle.swift_calls.specs.declared.heads.NameItem.{NameItem}
use Rattle.upload_records.specs.Native.{s3_state}
use Rattle.list_pages.specs.Jumps.{jumped, next_marker}
use Rattle.list_pages.specs.Listing.{is_listed_name_with_prefix, last_of, name_in, Ascends, IsPageOf}
use Rattle.list_pages.specs.Rolling.{Wanted, all_rows, ends, Rises, Rolled, UpTo}
use Rattle.list_pages.specs.Rolls.{Rolls, row_view, rows_of, seen_of}
use Rattle.list_pages.proofs.lemmas.Jumps.{marker_upto, next_is_marker}
use Rattle.list_pages.proofs.lemmas.Rising.{upto_same, upto_trans}
use Rattle.list_pages.proofs.lemmas.Skipping.{behind_fewer, rolled_on, shown_more, shows_another}
use Rattle.list_pages.proofs.lemmas.Pages.{parts, roll_rest}
use Rattle.list_pages.proofs.lemmas.Sorted.{both, filter_passes, sorted_filter, rises_sorted, rises_front, with_prefix_behind}
use Rattle.list_pages.proofs.lemmas.Turning.{page_turned, split_at_marker}
use Rattle.account_calls.specs.Keys.{objects_in, keys_with, TellsKeys, up_to, HasRolled, GoesOnWith, StandsBehind}
use Rattle.account_calls.proofs.lemmas.Markers.{text_is_marker}
use Rattle.account_calls.proofs.lemmas.Names.{object_name}

-- ---- the keys of a bucket are sorted

below_map : (x : List ℕ) (es : List (List ℕ × Object)) → T (below_all name_cmp x es) → T (below_all name_cmp x (map listed_key es))
below_map x [] h = h
below_map x (e ∷ es) h = let a = parts (is_lt (name_cmp x e.0)) (below_all name_cmp x es) h in both (is_lt (name_cmp x e.0)) (below_all name_cmp x (map listed_key es)) a.0 (below_map x es a.1)

sorted_map : (es : List (List ℕ × Object)) → T (is_sorted name_cmp es) → T (is_sorted name_cmp (map listed_key es))
sorted_map [] h = h
sorted_map (e ∷ es) h = let a = parts (below_all name_cmp e.0 es) (is_sorted name_cmp es) h in both (below_all name_cmp e.0 (map listed_key es)) (is_sorted name_cmp (map listed_key es)) (below_map e.0 es a.0) (sorted_map es a.1)

pub keys_sorted : (bucket prefix : List ℕ) (tree : SwiftAccount) → T (is_sorted name_cmp (keys_with bucket prefix (s3_state tree)))
keys_sorted bucket prefix tree =
    let objects = objects_in (get (s3_state tree) bucket) in
    sorted_filter (λ k. begins prefix k.0) (map listed_key (entries objects)) (sorted_map (entries objects) (entries_sorted objects))

-- and those that pass a test begin with the prefix
pub keys_fit : (bucket prefix : List ℕ) (tree : SwiftAccount) (p : List ℕ × ItemHead → Bool) → list_all (λ k. begins prefix k.0) (filter p (keys_with bucket prefix (s3_state tree))) ≡ true
keys_fit bucket prefix tree p = with_prefix_behind prefix p (map listed_key (entries (objects_in (get (s3_state tree) bucket))))

-- ---- the last of a page

last_more : (marker : List ℕ) (names : List (List ℕ)) (name : List ℕ) → last_of marker (names ++ name ∷ []) ≡ name
last_more marker [] name = refl
last_more marker (n ∷ names) name = last_more n names name

split_last : {X : Type 0} (x : X) (xs : List X) → (front : List X) × (e : X) × (x ∷ xs ≡ front ++ e ∷ [])
split_last x [] = ([], x, refl)
split_last x (y ∷ xs) = let s = split_last y xs in (x ∷ s.0, s.1, ap (λ l. x ∷ l) s.2)

split_filled : {X : Type 0} (xs : List X) → 0 < length xs → (front : List X) × (e : X) × (xs ≡ front ++ e ∷ [])
split_filled [] some = absurd (omega (arith, some))
split_filled (x ∷ xs) some = split_last x xs

names_seen : (page : List NameItem) → map name_in page ≡ map (λ k. k.0) (map seen_of page)
names_seen [] = refl
names_seen (x ∷ page) = ap (λ l. x.name ∷ l) (names_seen page)

map_last : (front : List (List ℕ × ItemHead)) (e : List ℕ × ItemHead) → map (λ k. k.0) (front ++ e ∷ []) ≡ map (λ k. k.0) front ++ e.0 ∷ []
map_last [] e = refl
map_last (x ∷ front) e = ap (λ l. x.0 ∷ l) (map_last front e)

short : {X : Type 0} (n : ℕ) (xs : List X) → length (take n xs) < n → take n xs ≡ xs
short zero xs near = absurd (omega (arith, near))
short (suc n) [] near = refl
short (suc n) (x ∷ xs) near = ap (λ ys. x ∷ ys) (short n xs (omega (arith, near)))

-- a key may be a marker
pub key_is_marker : (name : List ℕ) → is_key name ≡ true → IsMarker name
key_is_marker name is =
    let text = (object_name name is).1 in
    let within = text.within in
    record { within = omega (arith, within); utf8 = text.utf8; no_zero = text.no_zero }

last_of_two : (a b : Bool) → a ≡ false → (a || b) ≡ true → b ≡ true
last_of_two true b e h = cc
last_of_two false b e h = h

filled : (n : ℕ) → (suc n == 0) ≡ false
filled n = grind (arith, nat_tests)

pub listing_is_marker : (text : List ℕ) → is_listing_text text ≡ true → IsMarker text
unfolding is_listing_text
listing_is_marker [] h = text_is_marker [] refl (omega arith)
listing_is_marker (b ∷ text) h = key_is_marker (b ∷ text) (last_of_two (length (b ∷ text) == 0) (is_key (b ∷ text)) (filled (length text)) h)

-- a key is a text of a listing
pub key_is_text : (name : List ℕ) → is_key name ≡ true → is_listing_text name ≡ true
unfolding is_listing_text
key_is_text name is = or_right (length name == 0) (is_key name) is

-- the last name of a page is a key with the prefix
last_is_key : (prefix marker : List ℕ) (names : List (List ℕ)) → 0 < length names → list_all (is_listed_name_with_prefix prefix) names ≡ true → is_listed_name_with_prefix prefix (last_of marker names) ≡ true
last_is_key prefix marker [] some all = absurd (omega (arith, some))
last_is_key prefix marker (name ∷ []) some all = (and_parts (is_listed_name_with_prefix prefix name) true all).0
last_is_key prefix marker (name ∷ other ∷ names) some all =
    last_is_key prefix name (other ∷ names) (omega arith) (and_parts (is_listed_name_with_prefix prefix name) (list_all (is_listed_name_with_prefix prefix) (other ∷ names)) all).1

-- and comes after the marker
last_is_later : (marker : List ℕ) (names : List (List ℕ)) → Ascends marker names → UpTo marker (last_of marker names)
last_is_later marker [] h = upto_same marker marker refl
last_is_later marker (name ∷ names) h = upto_trans marker name (last_of name names) (ap is_gt h.0) (last_is_later name names h.1)

first_item : {X : Type 0} (xs : List X) → 0 < length xs → (x : X) × (rest : List X) × (xs ≡ x ∷ rest)
first_item [] some = absurd (omega (arith, some))
first_item (x ∷ xs) some = (x, xs, refl)

-- ---- behind a name

pub stands_upto : (rolls : Rolls) → is_listing_text rolls.wanted.delimiter ≡ true → (stands : StandsBehind rolls) → UpTo rolls.wanted.marker rolls.last
stands_upto rolls of_d stands =
    let p = rolls.wanted.prefix in
    let d = rolls.wanted.delimiter in
    subst (UpTo rolls.wanted.marker) (sym stands.last) (upto_trans rolls.wanted.marker stands.name (next_marker p d stands.name) stands.from (marker_upto p d of_d stands.name stands.is_text))

-- ---- what was taken

module _ (bucket prefix : List ℕ) (tree : SwiftAccount) (old new : Rolls) (page : List NameItem) (same : old.wanted.prefix ≡ prefix) (kept : new.wanted ≡ old.wanted) (tells : TellsKeys bucket prefix old.last tree page)
    (pushed : (seen : List (List ℕ × ItemHead)) → HasRolled old seen → Rises old.wanted.prefix seen (map seen_of page) → HasRolled new (seen ++ map seen_of page)) where
  abbrev ks : List (List ℕ × ItemHead)
  ks = keys_with bucket prefix (s3_state tree)

  abbrev before : List (List ℕ × ItemHead)
  before = up_to old.last ks

  abbrev rest : List (List ℕ × ItemHead)
  rest = behind old.last ks

  sorted : T (is_sorted name_cmp ks)
  sorted = keys_sorted bucket prefix tree

  cut : ks ≡ before ++ rest
  cut = split_at_marker old.last ks sorted

  all_fit : list_all (λ k. begins prefix k.0) rest ≡ true
  all_fit = with_prefix_behind prefix (λ k. is_lt (name_cmp old.last k.0)) (map listed_key (entries (objects_in (get (s3_state tree) bucket))))

  rises : Rises old.wanted.prefix before (map seen_of page)
  rises = subst (λ p. Rises p before (map seen_of page)) (sym same) (subst (λ l. Rises prefix before l) (sym tells.keys)
      (rises_front prefix 1000 before rest (rises_sorted prefix before rest (subst (λ l. T (is_sorted name_cmp l)) cut sorted) all_fit)))

  rolled : HasRolled old before → HasRolled new (before ++ take 1000 rest)
  rolled r = subst (λ l. HasRolled new (before ++ l)) tells.keys (pushed before r rises)

  joined : (before ++ take 1000 rest) ++ drop 1000 rest ≡ ks
  joined = append_assoc before (take 1000 rest) (drop 1000 rest) ∙ ap (λ l. before ++ l) (take-append-drop 1000 rest) ∙ sym cut

  rest_fits : list_all (λ k. begins prefix k.0) (drop 1000 rest) ≡ true
  rest_fits = (and_parts (list_all (λ k. begins prefix k.0) (take 1000 rest)) (list_all (λ k. begins prefix k.0) (drop 1000 rest))
      (sym (list_all-append (λ k. begins prefix k.0) (take 1000 rest) (drop 1000 rest)) ∙ ap (list_all (λ k. begins prefix k.0)) (take-append-drop 1000 rest) ∙ all_fit)).1

  -- the answer is full
  pub taken_full : new.more ≡ true → HasRolled old before → HasRolled new ks
  taken_full full r = subst (HasRolled new) joined
      (roll_rest new.wanted (rows_of new.items) new.more (before ++ take 1000 rest) (drop 1000 rest) full
      (subst (λ p. Rises p (before ++ take 1000 rest) (drop 1000 rest)) (sym (ap (λ w. w.prefix) kept ∙ same))
      (rises_sorted prefix (before ++ take 1000 rest) (drop 1000 rest) (subst (λ l. T (is_sorted name_cmp l)) (sym joined) sorted) rest_fits))
      (rolled r))

  length_page : length page ≡ length (take 1000 rest)
  length_page = sym (length-map page seen_of) ∙ ap length tells.keys

  -- the page is short, and so the last one
  pub taken_short : length page < 1000 → HasRolled old before → HasRolled new ks
  taken_short near r = subst (HasRolled new) (ap (λ l. before ++ l) (short 1000 rest (subst (λ n. n < 1000) length_page near)) ∙ sym cut) (rolled r)

  -- the page is whole
  module _ (of_page : IsPageOf prefix old.last (map name_in page)) (whole : 1000 ≤ length page) (last : new.last ≡ last_of old.last (map name_in page)) (of_d : is_listing_text old.wanted.delimiter ≡ true) (stands : StandsBehind old) where
    abbrev w : Wanted
    w = old.wanted

    abbrev next : List ℕ → List ℕ
    next n = next_marker w.prefix w.delimiter n

    some_names : 0 < length (map name_in page)
    some_names = omega (arith, whole, length-map page name_in)

    last_both : (is_key new.last ≡ true) × (begins prefix new.last ≡ true)
    last_both = and_parts (is_key new.last) (begins prefix new.last)
        (subst (λ n. is_listed_name_with_prefix prefix n ≡ true) (sym last) (last_is_key prefix old.last (map name_in page) some_names of_page.named))

    last_text : is_listing_text new.last ≡ true
    last_text = key_is_text new.last last_both.0

    last_upto : UpTo new.last (next new.last)
    last_upto = marker_upto w.prefix w.delimiter of_d new.last last_text

    fit : list_all (λ k. begins w.prefix k.0) ks ≡ true
    fit = subst (λ p. list_all (λ k. begins p k.0) ks ≡ true) (sym same) (filter_passes (λ k. begins prefix k.0) (map listed_key (entries (objects_in (get (s3_state tree) bucket)))))

    last_key : (front : List (List ℕ × ItemHead)) × (e : List ℕ × ItemHead) × (map seen_of page ≡ front ++ e ∷ [])
    last_key = split_filled (map seen_of page) (omega (arith, whole, length-map page seen_of))

    abbrev end : List ℕ × ItemHead
    end = last_key.1

    last_is : new.last ≡ end.0
    last_is = last ∙ ap (last_of old.last) (names_seen page ∙ ap (map (λ k. k.0)) last_key.2 ∙ map_last last_key.0 end) ∙ last_more old.last (map (λ k. k.0) last_key.0) end.0

    turned : (behind end.0 ks ≡ drop 1000 rest) × (up_to end.0 ks ≡ before ++ take 1000 rest)
    turned = page_turned old.last ks last_key.0 end 1000 sorted (sym tells.keys ∙ last_key.2)

    -- the same rows, by what was wanted before
    rolled_as : HasRolled old before → Rolled w (rows_of new.items) new.more (before ++ take 1000 rest)
    rolled_as r = subst (λ x. Rolled x (rows_of new.items) new.more (before ++ take 1000 rest)) kept (rolled r)

    rolled_past : HasRolled old before → HasRolled (jumped new) (up_to (jumped new).last ks)
    rolled_past r =
        let at : up_to end.0 ks ≡ (before ++ last_key.0) ++ end ∷ [] = turned.1 ∙ ap (λ l. before ++ l) (sym tells.keys ∙ last_key.2) ∙ sym (append_assoc before last_key.0 (end ∷ [])) in
        let here : Rolled w (rows_of new.items) new.more (up_to end.0 ks) = subst (Rolled w (rows_of new.items) new.more) (sym turned.1) (rolled_as r) in
        let fits : begins w.prefix end.0 ≡ true = ap (λ n. begins w.prefix n) (sym last_is) ∙ ap (λ p. begins p new.last) same ∙ last_both.1 in
        let on = rolled_on w ks sorted fit (before ++ last_key.0) end fits at (subst (λ n. UpTo n (next n)) last_is last_upto) here in
        subst (λ x. Rolled x (rows_of new.items) new.more (up_to (next_marker x.prefix x.delimiter new.last) ks)) (sym kept) (subst (λ n. Rolled w (rows_of new.items) new.more (up_to (next n) ks)) (sym last_is) on)

    fewer_past : length (behind (jumped new).last ks) + 1000 ≤ length (behind old.last ks)
    fewer_past =
        let past : length (behind (next new.last) ks) ≤ length (behind new.last ks) = behind_fewer new.last (next new.last) last_upto ks in
        let here : length (behind new.last ks) ≡ length (drop 1000 rest) = ap (λ t. length (behind t ks)) last_is ∙ ap length turned.0 in
        let as_wanted : (jumped new).last ≡ next new.last = ap (λ x. next_marker x.prefix x.delimiter new.last) kept in
        omega (arith, whole, length_page, past, here, ap (λ t. length (behind t ks)) as_wanted, sym (length-append (take 1000 rest) (drop 1000 rest)) ∙ ap length (take-append-drop 1000 rest), length-take 1000 rest)

    first : (x : NameItem) × (more : List NameItem) × (page ≡ x ∷ more)
    first = first_item page (omega (arith, whole))

    first_at : take 1000 rest ≡ seen_of first.0 ∷ map seen_of first.1
    first_at = sym tells.keys ∙ ap (map seen_of) first.2

    shows_more : old.more ≡ false → new.more ≡ false → HasRolled old before → length old.items < length new.items
    shows_more room room' r =
        let k = seen_of first.0 in
        let names = ap (map name_in) first.2 in
        let ascends = subst (Ascends old.last) names of_page.ascends in
        let named = and_parts (is_listed_name_with_prefix prefix first.0.name) (list_all (is_listed_name_with_prefix prefix) (map name_in first.1)) (ap (list_all (is_listed_name_with_prefix prefix)) (sym names) ∙ of_page.named) in
        let both = and_parts (is_key first.0.name) (begins prefix first.0.name) named.0 in
        let later : is_lt (name_cmp (next stands.name) first.0.name) ≡ true = ap (λ m. is_lt (name_cmp m first.0.name)) (sym stands.last) ∙ ap is_lt ascends.0 in
        let another = shows_another w ks sorted fit of_d stands.name stands.is_text k both.0 (ap (λ p. begins p first.0.name) same ∙ both.1) later stands.from in
        let more = shown_more w before k (map seen_of first.1) r room (subst (λ l. Rolled w (rows_of new.items) new.more (before ++ l)) first_at (rolled_as r)) room'
        (subst (Rises w.prefix before) (ap (map seen_of) first.2) rises) another.0
        (ap (λ m. ends (row_of w.prefix w.delimiter k).0 (all_rows w (up_to m ks))) stands.last ∙ another.1) in
        omega (arith, more, length-map old.items row_view, length-map new.items row_view)

    pub taken_whole : old.more ≡ false → new.more ≡ false → GoesOnWith ks old (jumped new)
    taken_whole room room' = record { rolled = rolled_past; fewer = fewer_past; shows = shows_more room room' }

-- whether it is full
pub not_false : (b : Bool) → not b ≡ false → b ≡ true
not_false true h = refl
not_false false h = cc

pub not_true : (b : Bool) → not b ≡ true → b ≡ false
not_true true h = cc
not_true false h = refl

-- the listing stands behind the last name of a page
pub stands_next : {prefix : List ℕ} {old new : Rolls} {names : List (List ℕ)} → is_listing_text old.wanted.delimiter ≡ true → StandsBehind old → IsPageOf prefix old.last names → 1000 ≤ length names → new.wanted ≡ old.wanted → new.last ≡ last_of old.last names
    → StandsBehind (jumped new)
stands_next {prefix = prefix} {old = old} {new = new} {names = names} of_d stands of_page whole kept last =
    let named = subst (λ n. is_listed_name_with_prefix prefix n ≡ true) (sym last) (last_is_key prefix old.last names (omega (arith, whole)) of_page.named) in
    record {
      name = new.last;
      is_text = key_is_text new.last (and_parts (is_key new.last) (begins prefix new.last) named).0;
      from = subst (λ w. UpTo w.marker new.last) (sym kept)
          (subst (UpTo old.wanted.marker) (sym last) (upto_trans old.wanted.marker old.last (last_of old.last names) (stands_upto old of_d stands) (last_is_later old.last names of_page.ascends)));
      last = refl;
    }

pub stands_is_marker : (rolls : Rolls) → is_listing_text rolls.wanted.delimiter ≡ true → StandsBehind rolls → IsMarker rolls.last
stands_is_marker rolls of_d stands = subst IsMarker (sym stands.last) (next_is_marker rolls.wanted.prefix rolls.wanted.delimiter of_d stands.name (listing_is_marker stands.name stands.is_text))
