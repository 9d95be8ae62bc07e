-- What a page of the names of a bucket's container is, over a consistent account.
use Rattle.std.proofs.Common.{◌≡◌, ℕ, zero, suc, ◌≤◌, Bool, true, false, cond, ◌&&◌, T, List, [], ◌∷◌, map, length, take, is_some, Option, Some, None, refl, sym, ap, subst, ◌∙◌, arith}
use Rattle.std.specs.List.{filter, filter_map, cons_option, list_all, AllByRecursion}
use Rattle.std.specs.Option.{option_map}
use Rattle.std.specs.Ordering.{is_lt}
use Rattle.std.specs.FinMap.{entries, get, is_sorted, entries_sorted, len, len-entries}
use Rattle.std.specs.FinMap.Entries.{below_all}
use Rattle.std.proofs.lemmas.Bool.{and_parts, and_from}
use Rattle.std.proofs.lemmas.List.{take-map, length-map, length-take}
use Rattle.std.proofs.lemmas.List.Elements.{All-contains}
use Rattle.std.proofs.lemmas.List.Sums.{AllPass-from_list_all}
use Rattle.gate_base.specs.Maps.{Names, name_cmp, picked, pick_entry}
use Rattle.gate_base.proofs.lemmas.Maps.{name_total, name_antisymmetric}
use Rattle.s3_names.specs.Bucket.{is_bucket}
use Rattle.s3_machine.specs.Items.{begins, behind, with_prefix}
use Rattle.s3_machine.specs.State.{Bucket}
use Rattle.s3_machine.specs.Step.{listed_key}
use Rattle.s3_machine.specs.declared.items.ItemHead.{ItemHead}
use Rattle.swift_calls.specs.Account.{SwiftObject, SwiftAccount, files}
use Rattle.swift_calls.specs.Bodies.{item_of}
use Rattle.swift_calls.specs.Limits.{IsMarker}
use Rattle.swift_calls.specs.Step.{Fit, page, is_listed}
use Rattle.swift_calls.specs.declared.heads.NameItem.{NameItem}
use Rattle.swift_marks.specs.Tag.{read_stamp}
use Rattle.swift_marks.proofs.lemmas.Stamps.{tag_has_stamp}
use Rattle.upload_records.specs.Layout.{segments_name}
use Rattle.upload_records.specs.Native.{object_of, IsSettled, s3_state}
use Rattle.upload_records.specs.Consistent.{IsConsistent, IsObject}
use Rattle.upload_records.proofs.lemmas.Listing.{objects_there, objects_missing}
use Rattle.upload_records.proofs.lemmas.Objects.{file_is_object}
use Rattle.upload_records.proofs.lemmas.Settled.{unsealed_of}
use Rattle.list_pages.specs.Listing.{Ascends, IsPageOf, is_listed_name_with_prefix, name_in, page_request}
use Rattle.list_pages.specs.Rolls.{head_by, seen_of}
use Rattle.list_pages.proofs.lemmas.Pages.{parts}
use Rattle.list_pages.proofs.lemmas.PickedEntries.{entries_picked}
use Rattle.list_pages.proofs.lemmas.Pushing.{is_less}
use Rattle.list_pages.proofs.lemmas.Sorted.{sorted_filter}
use Rattle.list_pages.proofs.lemmas.Starting.{not_behind}
use Rattle.s3_machine.proofs.lemmas.Starts.{starts_begins}
use Rattle.account_calls.specs.Keys.{objects_in, keys_with, TellsKeys}
use Rattle.account_calls.proofs.lemmas.Markers.{entries_are}
use Rattle.account_calls.proofs.lemmas.Forms.{Says, object_said, said, says_of, key_of}
use Rattle.account_calls.proofs.lemmas.Names.{container_name}

pub page_fits : (bucket prefix marker : List ℕ) → is_bucket bucket ≡ true → IsMarker prefix → IsMarker marker → Fit (page_request bucket prefix marker)
page_fits bucket prefix marker is of_prefix of_marker = (container_name bucket is, of_prefix, of_marker, (omega arith, omega arith))

-- ---- two tests, one after the other

module _ {A B : Type 0} (f : A → B) (p : A → Bool) (first then : B → Bool) (same : (a : A) → p a ≡ (then (f a) && first (f a))) where
  one_chosen : (e : A) (chosen : List A) (rest : List B) (t u : Bool) → u ≡ then (f e) → map f chosen ≡ filter then rest
      → map f (cond (u && t) (e ∷ chosen) chosen) ≡ filter then (cond t (f e ∷ rest) rest)
  one_chosen e chosen rest true true is h = ap (λ l. f e ∷ l) h ∙ ap (λ t. cond t (f e ∷ filter then rest) (filter then rest)) is
  one_chosen e chosen rest true false is h = h ∙ ap (λ t. cond t (f e ∷ filter then rest) (filter then rest)) is
  one_chosen e chosen rest false true is h = h
  one_chosen e chosen rest false false is h = h

  chosen_twice : (es : List A) → map f (filter p es) ≡ filter then (filter first (map f es))
  chosen_twice [] = refl
  chosen_twice (e ∷ es) =
      ap (λ t. map f (cond t (e ∷ filter p es) (filter p es))) (same e)
      ∙ one_chosen e (filter p es) (filter first (map f es)) (first (f e)) (then (f e)) refl (chosen_twice es)

-- ---- the files of a bucket

abbrev item : List ℕ × SwiftObject → NameItem
item e = item_of e.0 e.1

abbrev seen : List ℕ × SwiftObject → List ℕ × ItemHead
seen e = seen_of (item e)

abbrev has_stamp : NameItem → Bool
has_stamp told = is_some (read_stamp told.content_type)

map_twice : {A B C : Type 0} (g : B → C) (f : A → B) (xs : List A) → map g (map f xs) ≡ map (λ a. g (f a)) xs
map_twice g f [] = refl
map_twice g f (x ∷ xs) = ap (λ l. g (f x) ∷ l) (map_twice g f xs)

listed_is : {X : Type 0} (prefix marker : List ℕ) (e : List ℕ × X) → is_listed prefix marker e.0 ≡ (is_lt (name_cmp marker e.0) && begins prefix e.0)
listed_is prefix marker e = λ i. sym (not_behind marker e.0) i && starts_begins prefix e.0 i

-- a page of any files, with what they tell
pub seen_page : (prefix marker : List ℕ) (es : List (List ℕ × SwiftObject)) → map seen_of (page 1000 (λ e. item_of e.0 e.1) (λ e. is_listed prefix marker e.0) es) ≡ take 1000 (behind marker (with_prefix prefix (map seen es)))
unfolding page
seen_page prefix marker es =
    sym (take-map seen_of 1000 (map item (filter (λ e. is_listed prefix marker e.0) es)))
    ∙ ap (take 1000) (map_twice seen_of item (filter (λ e. is_listed prefix marker e.0) es)
    ∙ chosen_twice seen (λ e. is_listed prefix marker e.0) (λ k. begins prefix k.0) (λ k. is_lt (name_cmp marker k.0)) (listed_is prefix marker) es)

module _ (tree : SwiftAccount) (bucket : List ℕ) (is : is_bucket bucket ≡ true) (sound : IsConsistent tree) where
  abbrev segments : Names SwiftObject
  segments = files tree (segments_name bucket)

  abbrev Kept : List ℕ × SwiftObject → Type 0
  Kept e = get (files tree bucket) e.0 ≡ Some e.1

  kept : AllByRecursion Kept (entries (files tree bucket))
  kept = entries_are (files tree bucket)

  object : (e : List ℕ × SwiftObject) → Kept e → IsObject segments (segments_name bucket) e.0 e.1
  object e found = file_is_object tree bucket e.0 e.1 sound is found

  stamped_by : (e : List ℕ × SwiftObject) → Says segments (segments_name bucket) e.1 → has_stamp (item e) ≡ true
  stamped_by e says = ap is_some (tag_has_stamp e.1.content_type says.tag says.tagged)

  -- the object that a file represents has the head that its listing tells
  head_told : (e : List ℕ × SwiftObject) (says : Says segments (segments_name bucket) e.1) → listed_key (e.0, object_said says) ≡ seen e
  head_told e says = sym (λ i. (e.0, head_by (tag_has_stamp e.1.content_type says.tag says.tagged i) (says.sized i)))

  says : (e : List ℕ × SwiftObject) → Kept e → Says segments (segments_name bucket) e.1
  says e found = says_of segments (segments_name bucket) e.1 e.0 (object e found)

  heads_told : (es : List (List ℕ × SwiftObject)) → AllByRecursion Kept es → map listed_key (filter_map (pick_entry (object_of segments)) es) ≡ map seen es
  heads_told [] h = refl
  heads_told (e ∷ es) h =
      ap (λ o. map listed_key (cons_option (option_map (λ y. (e.0, y)) o) (filter_map (pick_entry (object_of segments)) es))) (said e.0 (says e h.0))
      ∙ ap (λ k. k ∷ map listed_key (filter_map (pick_entry (object_of segments)) es)) (head_told e (says e h.0))
      ∙ ap (λ l. seen e ∷ l) (heads_told es h.1)

  entries_of : entries (picked (object_of segments) (files tree bucket)) ≡ filter_map (pick_entry (object_of segments)) (entries (files tree bucket))
  unfolding picked
  entries_of = entries_picked name_total name_antisymmetric (object_of segments) (files tree bucket)

  objects_by : IsSettled tree → (o : Option Bucket) → get (s3_state tree) bucket ≡ o → objects_in o ≡ picked (object_of segments) (files tree bucket)
  objects_by settled None e = sym (objects_missing tree bucket is (unsealed_of settled) e)
  objects_by settled (Some b) e = objects_there tree bucket is (unsealed_of settled) b e

  -- the keys of the bucket are the names of its files
  keys_are : IsSettled tree → (prefix : List ℕ) → keys_with bucket prefix (s3_state tree) ≡ with_prefix prefix (map seen (entries (files tree bucket)))
  keys_are settled prefix =
      ap (λ m. with_prefix prefix (map listed_key (entries m))) (objects_by settled (get (s3_state tree) bucket) refl)
      ∙ ap (λ es. with_prefix prefix (map listed_key es)) entries_of
      ∙ ap (with_prefix prefix) (heads_told (entries (files tree bucket)) kept)

  stamped : (p : List ℕ × SwiftObject → Bool) (n : ℕ) (es : List (List ℕ × SwiftObject)) → AllByRecursion Kept es → list_all has_stamp (take n (map item (filter p es))) ≡ true
  stamped p zero [] h = refl
  stamped p (suc n) [] h = refl
  stamped p zero (e ∷ es) h = none (map item (filter p (e ∷ es)))
    where
      none : (xs : List NameItem) → list_all has_stamp (take 0 xs) ≡ true
      none [] = refl
      none (x ∷ xs) = refl
  stamped p (suc n) (e ∷ es) h = elim (p e) as (λ t. list_all has_stamp (take (suc n) (map item (cond t (e ∷ filter p es) (filter p es)))) ≡ true) [
    | true ↦ ap (λ t. t && list_all has_stamp (take n (map item (filter p es)))) (stamped_by e (says e h.0)) ∙ stamped p n es h.1
    | false ↦ stamped p (suc n) es h.1
  ]

  named : (prefix marker : List ℕ) (n : ℕ) (es : List (List ℕ × SwiftObject)) → AllByRecursion Kept es → list_all (is_listed_name_with_prefix prefix) (take n (map (λ e. e.0) (filter (λ e. is_listed prefix marker e.0) es))) ≡ true
  named prefix marker n [] h = none n
    where
      none : (n : ℕ) → list_all (is_listed_name_with_prefix prefix) (take n []) ≡ true
      none zero = refl
      none (suc n) = refl
  named prefix marker zero (e ∷ es) h = none (map (λ e. e.0) (filter (λ e. is_listed prefix marker e.0) (e ∷ es)))
    where
      none : (xs : List (List ℕ)) → list_all (is_listed_name_with_prefix prefix) (take 0 xs) ≡ true
      none [] = refl
      none (x ∷ xs) = refl
  named prefix marker (suc n) (e ∷ es) h =
      elim (is_listed prefix marker e.0) as (λ t. is_listed prefix marker e.0 ≡ t
      → list_all (is_listed_name_with_prefix prefix) (take (suc n) (map (λ e. e.0) (cond t (e ∷ filter (λ e. is_listed prefix marker e.0) es) (filter (λ e. is_listed prefix marker e.0) es)))) ≡ true) [
        | true ↦ λ listed.
            let fits = (and_parts (is_lt (name_cmp marker e.0)) (begins prefix e.0) (sym (listed_is prefix marker e) ∙ listed)).1 in
            ap (λ t. t && list_all (is_listed_name_with_prefix prefix) (take n (map (λ e. e.0) (filter (λ e. is_listed prefix marker e.0) es)))) (and_from _ _ (key_of segments (segments_name bucket) e.1 e.0 (object e h.0)) fits) ∙ named prefix marker n es h.1
        | false ↦ λ listed. named prefix marker (suc n) es h.1
      ] refl

-- ---- the order of a page

pub below_chosen : {X : Type 0} (prefix marker : List ℕ) (es : List (List ℕ × X)) → T (below_all name_cmp marker (filter (λ e. is_listed prefix marker e.0) es))
below_chosen prefix marker [] = tt
below_chosen prefix marker (e ∷ es) =
    elim (is_listed prefix marker e.0) as (λ t. is_listed prefix marker e.0 ≡ t → T (below_all name_cmp marker (cond t (e ∷ filter (λ e. is_listed prefix marker e.0) es) (filter (λ e. is_listed prefix marker e.0) es)))) [
      | true ↦ λ listed.
          let above = (and_parts (is_lt (name_cmp marker e.0)) (begins prefix e.0) (sym (listed_is prefix marker e) ∙ listed)).0 in
          subst (λ t. T (t && below_all name_cmp marker (filter (λ e. is_listed prefix marker e.0) es))) (sym above) (below_chosen prefix marker es)
      | false ↦ λ listed. below_chosen prefix marker es
    ] refl

pub ascends_by : {X : Type 0} (marker : List ℕ) (es : List (List ℕ × X)) → T (below_all name_cmp marker es) → T (is_sorted name_cmp es) → Ascends marker (map (λ e. e.0) es)
ascends_by marker [] below sorted = tt
ascends_by marker (e ∷ es) below sorted =
    let b = parts (is_lt (name_cmp marker e.0)) (below_all name_cmp marker es) below in
    let s = parts (below_all name_cmp e.0 es) (is_sorted name_cmp es) sorted in
    (is_less (name_cmp marker e.0) b.0, ascends_by e.0 es s.0 s.1)

pub ascends_take : (marker : List ℕ) (n : ℕ) (names : List (List ℕ)) → Ascends marker names → Ascends marker (take n names)
ascends_take marker zero [] h = tt
ascends_take marker zero (name ∷ names) h = tt
ascends_take marker (suc n) [] h = tt
ascends_take marker (suc n) (name ∷ names) h = (h.0, ascends_take name n names h.1)

names_page : (prefix marker : List ℕ) (es : List (List ℕ × SwiftObject)) → map name_in (page 1000 (λ e. item_of e.0 e.1) (λ e. is_listed prefix marker e.0) es) ≡ take 1000 (map (λ e. e.0) (filter (λ e. is_listed prefix marker e.0) es))
unfolding page
names_page prefix marker es = sym (take-map name_in 1000 (map item (filter (λ e. is_listed prefix marker e.0) es))) ∙ ap (take 1000) (map_twice name_in item (filter (λ e. is_listed prefix marker e.0) es))

module _ (tree : SwiftAccount) (bucket prefix marker : List ℕ) (is : is_bucket bucket ≡ true) (sound : IsConsistent tree) where
  abbrev told : List NameItem
  told = page 1000 (λ e. item_of e.0 e.1) (λ e. is_listed prefix marker e.0) (entries (files tree bucket))

  -- the names that the container gives are a page
  pub page_is_one : IsPageOf prefix marker (map name_in told)
  page_is_one =
      let chosen = filter (λ e. is_listed prefix marker e.0) (entries (files tree bucket)) in
      subst (IsPageOf prefix marker) (sym (names_page prefix marker (entries (files tree bucket)))) (record {
        within = omega (arith, length-take 1000 (map (λ e. e.0) chosen));
        ascends = ascends_take marker 1000 (map (λ e. e.0) chosen)
            (ascends_by marker chosen (below_chosen prefix marker (entries (files tree bucket))) (sorted_filter (λ e. is_listed prefix marker e.0) (entries (files tree bucket)) (entries_sorted (files tree bucket))));
        named = named tree bucket is sound prefix marker 1000 (entries (files tree bucket)) (kept tree bucket is sound);
      })

  all_stamped : list_all has_stamp told ≡ true
  unfolding page
  all_stamped = stamped tree bucket is sound (λ e. is_listed prefix marker e.0) 1000 (entries (files tree bucket)) (kept tree bucket is sound)

  pub page_tells : IsSettled tree → TellsKeys bucket prefix marker tree told
  page_tells settled = record {
    keys = seen_page prefix marker (entries (files tree bucket)) ∙ ap (λ ks. take 1000 (behind marker ks)) (sym (keys_are tree bucket is sound settled prefix));
    tagged = λ has. let k : false ≡ true = ap is_some (sym has.2) ∙ All-contains (λ (x : NameItem). has_stamp x ≡ true) told has.0 (AllPass-from_list_all has_stamp told all_stamped) has.1 in cc k;
  }

-- ---- how many keys there are

short_filter : {X : Type 0} (p : X → Bool) (xs : List X) → length (filter p xs) ≤ length xs
short_filter p [] = omega arith
short_filter p (x ∷ xs) = let less = short_filter p xs in elim (p x) as (λ t. length (cond t (x ∷ filter p xs) (filter p xs)) ≤ suc (length xs)) [ true ↦ omega (arith, less) | false ↦ omega (arith, less) ]

-- no more keys than files
pub keys_within : (tree : SwiftAccount) (bucket : List ℕ) → is_bucket bucket ≡ true → IsConsistent tree → IsSettled tree → (prefix : List ℕ) → length (keys_with bucket prefix (s3_state tree)) ≤ len (files tree bucket)
keys_within tree bucket is sound settled prefix =
    let less = short_filter (λ k. begins prefix k.0) (map seen (entries (files tree bucket))) in
    omega (arith, less, ap length (keys_are tree bucket is sound settled prefix), length-map (entries (files tree bucket)) seen, len-entries (files tree bucket))
