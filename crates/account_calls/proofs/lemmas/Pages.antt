-- The pages of an account's names.
use Rattle.std.proofs.Common.{◌≡◌, ℕ, zero, suc, ◌+◌, ◌-◌, ◌<◌, ◌≤◌, add-one, Bool, true, false, cond, ◌&&◌, List, [], ◌∷◌, ◌++◌, map, length, take, drop, get_or, nat_eq, nat_le, nat_lt, slice_get, Ok, Err, is_some, Option, None, Some, Result, IfOk, IsTrue, refl, sym, ap, subst, ◌∙◌, arith, append_assoc}
use Rattle.std.specs.Result.{IsErrAnd}
use Rattle.std.specs.List.{filter, starts_with, AllByRecursion}
use Rattle.std.specs.Ordering.{is_gt, is_lt}
use Rattle.std.specs.FinMap.{entries, entries_sorted, keys}
use Rattle.std.proofs.lemmas.Bool.{and_from, le-leb}
use Rattle.std.proofs.lemmas.Bool.Decides.{nat_tests}
use Rattle.std.proofs.lemmas.List.{drop_all, length-take, take-append-drop, length-drop}
use Rattle.std.proofs.Math.Seq.{drop-cons}
use Rattle.std.proofs.lemmas.Option.{slice_get-get_or}
use Rattle.gate_base.specs.Maps.{name_cmp}
use Rattle.swift_calls.specs.Account.{SwiftAccount}
use Rattle.swift_calls.specs.History.{History, Calls, present}
use Rattle.swift_calls.specs.Limits.{IsMarker}
use Rattle.swift_calls.specs.Step.{page, is_listed, names_reply}
use Rattle.swift_calls.specs.declared.calls.SwiftReply.{SwiftReply}
use Rattle.swift_calls.specs.declared.calls.SwiftRequest.TheVariants.{ListContainers}
use Rattle.upload_records.specs.Consistent.{IsConsistent, IsThere}
use Rattle.account_calls.specs.declared.fault.PlanFault.{PlanFault}
use Rattle.account_calls.specs.Calls.{GoesOn}
use Rattle.account_calls.specs.Told.{LeavesThroughout}
use Rattle.account_calls.specs.Listing.{after, ascends, most_names, names_due, next_marker, MayListAfter, GoesOnAfter, NamesContainers, TellsPage, TellsNext}
use Rattle.account_calls.proofs.lemmas.Ascending.{after_at, after_later, filter_ascends, keys_ascend}
use Rattle.account_calls.proofs.lemmas.Left.{throughout_end}
use Rattle.account_calls.proofs.lemmas.One.{IsReadingOf, found}
use Rattle.list_pages.specs.Listing.{Ascends}
use Rattle.list_pages.proofs.lemmas.Sorted.{sorted_filter}
use Rattle.account_calls.specs.declared.fault.PlanFault.TheVariants.{Inconsistent}
use Rattle.account_calls.proofs.KeyPages.{below_chosen, ascends_by, ascends_take}
use Rattle.account_calls.proofs.lemmas.Markers.{IsKey, keys_are, entry_is_marker}

-- ---- what a page is

begins : (name : List ℕ) → starts_with nat_eq name [] ≡ true
begins [] = refl
begins (b ∷ name) = refl

true_and : (b : Bool) → (b && true) ≡ b
true_and true = refl
true_and false = refl

listed_is : (marker name : List ℕ) → is_listed [] marker name ≡ is_gt (name_cmp name marker)
listed_is marker name = ap (λ t. is_gt (name_cmp name marker) && t) (begins name) ∙ true_and (is_gt (name_cmp name marker))

names_after : {X : Type 0} (marker : List ℕ) (es : List (List ℕ × X)) → map (λ e. e.0) (filter (λ e. is_listed [] marker e.0) es) ≡ after marker (map (λ e. e.0) es)
names_after marker [] = refl
names_after marker (e ∷ es) =
    ap (λ t. map (λ e. e.0) (cond t (e ∷ filter (λ e. is_listed [] marker e.0) es) (filter (λ e. is_listed [] marker e.0) es))) (listed_is marker e.0)
    ∙ elim (is_gt (name_cmp e.0 marker)) as (λ t. map (λ e. e.0) (cond t (e ∷ filter (λ e. is_listed [] marker e.0) es) (filter (λ e. is_listed [] marker e.0) es))
    ≡ cond t (e.0 ∷ after marker (map (λ e. e.0) es)) (after marker (map (λ e. e.0) es))) [
      | true ↦ ap (λ ys. e.0 ∷ ys) (names_after marker es)
      | false ↦ names_after marker es
    ]

page_is : (marker : List ℕ) (tree : SwiftAccount) → page 1000 (λ e. e.0) (λ e. is_listed [] marker e.0) (entries tree) ≡ take most_names (after marker (keys tree))
unfolding page
page_is marker tree = ap (take most_names) (names_after marker (entries tree))

-- names that ascend pass the test
ascending : (marker : List ℕ) (names : List (List ℕ)) → Ascends marker names → ascends marker names ≡ true
ascending marker [] h = refl
ascending marker (name ∷ names) h = ap (λ o. is_lt o && ascends name names) h.0 ∙ ascending name names h.1

page_passes : (marker : List ℕ) (tree : SwiftAccount) → ascends marker (page 1000 (λ e. e.0) (λ e. is_listed [] marker e.0) (entries tree)) ≡ true
unfolding page
page_passes marker tree =
    let chosen = filter (λ e. is_listed [] marker e.0) (entries tree) in
    ascending marker (take 1000 (map (λ e. e.0) chosen))
    (ascends_take marker 1000 (map (λ e. e.0) chosen) (ascends_by marker chosen (below_chosen [] marker (entries tree)) (sorted_filter (λ e. is_listed [] marker e.0) (entries tree) (entries_sorted tree))))

page_within : (marker : List ℕ) (tree : SwiftAccount) → nat_le (length (page 1000 (λ e. e.0) (λ e. is_listed [] marker e.0) (entries tree))) most_names ≡ true
unfolding page
page_within marker tree = let chosen = filter (λ e. is_listed [] marker e.0) (entries tree) in le-leb (length (take 1000 (map (λ e. e.0) chosen))) 1000 (omega (arith, length-take 1000 (map (λ e. e.0) chosen)))

-- GET of the account tells a page
pub page_reads : {name marker : List ℕ} → name ≡ marker → IsReadingOf (MayListAfter marker) (ListContainers name 1000) (names_due marker) (TellsPage marker)
page_reads {name = name} {marker = marker} is = record {
  leaves = λ tree. refl;
  tells = λ tree sound may_list reply replied. (
    page 1000 (λ e. e.0) (λ e. is_listed [] name e.0) (entries tree),
    ap (names_due marker) replied ∙ ap (λ t. cond t (Ok (page 1000 (λ e. e.0) (λ e. is_listed [] name e.0) (entries tree))) (Err Inconsistent))
        (and_from _ _ (page_within name tree) (ap (λ m. ascends m (page 1000 (λ e. e.0) (λ e. is_listed [] name e.0) (entries tree))) (sym is) ∙ page_passes name tree)),
    page_is name tree ∙ ap (λ m. take most_names (after m (keys tree))) is,
  );
}

-- ---- what comes after it

short : {X : Type 0} (n : ℕ) (xs : List X) → length (take n xs) < n → take n xs ≡ xs
short zero xs near = absurd (omega arith)
short (suc n) [] near = refl
short (suc n) (x ∷ xs) near = ap (λ ys. x ∷ ys) (short n xs (omega arith))

at_front : {X : Type 0} (n i : ℕ) (d : X) (xs : List X) → i < n → get_or (take n xs) i d ≡ get_or xs i d
at_front zero i d xs near = absurd (omega arith)
at_front (suc n) zero d [] near = refl
at_front (suc n) (suc i) d [] near = refl
at_front (suc n) zero d (x ∷ xs) near = refl
at_front (suc n) (suc i) d (x ∷ xs) near = at_front n i d xs (omega arith)

passes : (p : List ℕ → Bool) (xs : List (List ℕ)) → AllByRecursion (λ x. p x ≡ true) (filter p xs)
passes p [] = tt
passes p (x ∷ xs) =
    elim (p x) as (λ t. p x ≡ t → AllByRecursion (λ x. p x ≡ true) (cond t (x ∷ filter p xs) (filter p xs))) [
      | true ↦ λ e. (e, passes p xs)
      | false ↦ λ e. passes p xs
    ] refl

pub at_index : {X : Type 0} (P : X → Type 0) (xs : List X) (n : ℕ) (d : X) → AllByRecursion P xs → n < length xs → P (get_or xs n d)
at_index P [] n d h near = absurd (omega arith)
at_index P (x ∷ xs) zero d h near = h.0
at_index P (x ∷ xs) (suc n) d h near = at_index P xs n d h.1 (omega arith)

kept : (P : List ℕ → Type 0) (p : List ℕ → Bool) (xs : List (List ℕ)) → AllByRecursion P xs → AllByRecursion P (filter p xs)
kept P p [] h = tt
kept P p (x ∷ xs) h = elim (p x) as (λ t. AllByRecursion P (cond t (x ∷ filter p xs) (filter p xs))) [ true ↦ (h.0, kept P p xs h.1) | false ↦ kept P p xs h.1 ]

module _ (marker : List ℕ) (old new told : List (List ℕ)) (tree : SwiftAccount) (sound : IsConsistent tree) (tells : TellsPage marker tree told) (added : new ≡ old ++ told) where
  abbrev rest : List (List ℕ)
  rest = after marker (keys tree)

  -- a page that isn't whole is the last one
  last_page : length told < most_names → new ≡ old ++ rest
  last_page near = added ∙ ap (λ xs. old ++ xs) (tells ∙ short most_names rest (subst (λ xs. length xs < most_names) tells near))

  -- and after a whole one the names go on behind its last
  whole_page : most_names ≤ length told → (next : List ℕ) → slice_get told (length told - 1) ≡ Some next → GoesOnAfter marker next old new tree
  whole_page far next is =
      let long : length told ≡ most_names = omega (arith, ap length tells, length-take most_names rest) in
      let enough : most_names ≤ length rest = omega (arith, ap length tells, length-take most_names rest) in
      let last : slice_get told 999 ≡ Some next = ap (λ n. slice_get told (n - 1)) (sym long) ∙ is in
      let found : Some (get_or told 999 next) ≡ Some next = sym (slice_get-get_or told 999 next (omega arith)) ∙ last in
      let same : get_or told 999 next ≡ next = cc in
      let at : get_or rest 999 next ≡ next = sym (at_front most_names 999 next rest (omega arith)) ∙ ap (λ xs. get_or xs 999 next) (sym tells) ∙ same in
      let later : is_gt (name_cmp next marker) ≡ true =
      subst (λ n. is_gt (name_cmp n marker) ≡ true) at (at_index (λ x. is_gt (name_cmp x marker) ≡ true) rest 999 next (passes (λ n. is_gt (name_cmp n marker)) (keys tree)) (omega arith)) in
      let behind : after next (keys tree) ≡ drop 1000 rest =
      after_later marker next (keys tree) later ∙ ap (λ n. after n rest) (sym at)
      ∙ after_at rest 999 next (filter_ascends (λ n. is_gt (name_cmp n marker)) (keys tree) (keys_ascend tree)) (omega arith) in
      record {
        names = ap (λ xs. xs ++ after next (keys tree)) added ∙ ap (λ xs. (old ++ xs) ++ after next (keys tree)) tells ∙ ap (λ xs. (old ++ take most_names rest) ++ xs) behind
            ∙ append_assoc old (take most_names rest) (drop 1000 rest) ∙ ap (λ xs. old ++ xs) (take-append-drop most_names rest);
        fewer = omega (arith, ap length behind, length-drop 1000 rest);
        is_marker = subst IsMarker at (entry_is_marker tree sound (get_or rest 999 next) (at_index (IsKey tree) rest 999 next (kept (IsKey tree) (λ n. is_gt (name_cmp n marker)) (keys tree) (keys_are tree)) (omega arith)));
      }

  next_by : (t : Bool) → nat_lt (length told) most_names ≡ t → (o : Option (List ℕ)) → slice_get told (length told - 1) ≡ o → TellsNext marker old new tree (cond t None o)
  next_by true near o is = last_page (omega (arith, lt_of (length told) most_names near))
    where
      lt_of : (a b : ℕ) → nat_lt a b ≡ true → a < b
      lt_of a b e = grind (arith, nat_tests)
  next_by false far (Some next) is = whole_page (le_of (length told) most_names far) next is
    where
      le_of : (a b : ℕ) → nat_lt a b ≡ false → b ≤ a
      le_of a b e = grind (arith, nat_tests)
  next_by false far None is =
      let from : most_names ≤ length told = le_of (length told) most_names far in
      let some : Some (get_or told (length told - 1) []) ≡ None = sym (slice_get-get_or told (length told - 1) [] (omega arith)) ∙ is in
      cc
    where
      le_of : (a b : ℕ) → nat_lt a b ≡ false → b ≤ a
      le_of a b e = grind (arith, nat_tests)

  pub tells_next : (marker' : Option (List ℕ)) → marker' ≡ next_marker told → TellsNext marker old new tree marker'
  tells_next marker' is = subst (TellsNext marker old new tree) (sym is) (next_by (nat_lt (length told) most_names) refl (slice_get told (length told - 1)) refl)

-- ---- the test of a page

pub ascends_start : (marker : List ℕ) (names : List (List ℕ)) → ascends marker names ≡ ascends marker (drop 0 names)
ascends_start marker [] = refl
ascends_start marker (name ∷ names) = refl

at_place : (marker : List ℕ) (names : List (List ℕ)) (i : ℕ) (d : List ℕ) → i < length names → ascends marker (drop i names) ≡ (is_lt (name_cmp marker (get_or names i d)) && ascends (get_or names i d) (drop (i + 1) names))
at_place marker names i d near = ap (ascends marker) (drop-cons names i d near ∙ ap (λ n. get_or names i d ∷ drop n names) (sym (add-one i)))

pub ascends_on : (last name : List ℕ) (names : List (List ℕ)) (i : ℕ) {whole : Bool} → whole ≡ ascends last (drop i names) → i < length names → name ≡ get_or names i name → is_lt (name_cmp last name) ≡ true → whole ≡ ascends name (drop (i + 1) names)
ascends_on last name names i so near is less =
    so ∙ at_place last names i name near ∙ ap (λ n. is_lt (name_cmp last n) && ascends n (drop (i + 1) names)) (sym is) ∙ ap (λ t. t && ascends name (drop (i + 1) names)) less

pub ascends_stop : (last name : List ℕ) (names : List (List ℕ)) (i : ℕ) {whole : Bool} → whole ≡ ascends last (drop i names) → i < length names → name ≡ get_or names i name → is_lt (name_cmp last name) ≡ false → whole ≡ false
ascends_stop last name names i so near is not =
    so ∙ at_place last names i name near ∙ ap (λ n. is_lt (name_cmp last n) && ascends n (drop (i + 1) names)) (sym is) ∙ ap (λ t. t && ascends name (drop (i + 1) names)) not

pub ascends_end : (last : List ℕ) (names : List (List ℕ)) (i : ℕ) {whole : Bool} → whole ≡ ascends last (drop i names) → length names ≤ i → whole ≡ true
ascends_end last names i so far = so ∙ ap (ascends last) (drop_all i names far)

-- ---- over every observable store

module _ (tree : SwiftAccount) where
  keys_there : (names : List (List ℕ)) → AllByRecursion (IsKey tree) names → AllByRecursion (IsThere tree) names
  keys_there [] h = tt
  keys_there (name ∷ names) h = (ap is_some h.0.1, keys_there names h.1)

  some_there : (n : ℕ) (names : List (List ℕ)) → AllByRecursion (IsThere tree) names → AllByRecursion (IsThere tree) (take n names)
  some_there zero [] h = tt
  some_there zero (name ∷ names) h = tt
  some_there (suc n) [] h = tt
  some_there (suc n) (name ∷ names) h = (h.0, some_there n names h.1)

  page_there : (marker : List ℕ) → AllByRecursion (IsThere tree) (page 1000 (λ e. e.0) (λ e. is_listed [] marker e.0) (entries tree))
  page_there marker =
      subst (AllByRecursion (IsThere tree)) (sym (page_is marker tree))
      (some_there 1000 (after marker (keys tree)) (kept (IsThere tree) (λ n. is_gt (name_cmp n marker)) (keys tree) (keys_there (keys tree) (keys_are tree))))

  if_kept : (t : Bool) (names : List (List ℕ)) → AllByRecursion (IsThere tree) names → IfOk (cond t (Ok names) (Err Inconsistent)) (AllByRecursion (IsThere tree))
  if_kept true names h = h
  if_kept false names h = tt

  due_there : (marker name : List ℕ) → IfOk (names_due marker (names_reply 1000 name tree)) (AllByRecursion (IsThere tree))
  due_there marker name =
      let names = page 1000 (λ e. e.0) (λ e. is_listed [] name e.0) (entries tree) in
      if_kept (nat_le (length names) most_names && ascends marker names) names (page_there name)

-- there is a container of each name of a page that was answered
pub names_there : {old new : History} {name : List ℕ} {reply : SwiftReply} (marker : List ℕ) → Calls old new (ListContainers name 1000) (Ok reply)
    → (result : Result (List (List ℕ)) PlanFault) → result ≡ names_due marker reply → NamesContainers old result
names_there {old = old} {new = new} {name = name} {reply = reply} marker calls result is observable =
    let answered : reply ≡ names_reply 1000 name (present old) = (calls.effect observable).reply ∙ ap (names_reply 1000 name) (found calls observable) in
    subst (λ r. IfOk r (AllByRecursion (IsThere (present old)))) (sym (is ∙ ap (names_due marker) answered)) (due_there (present old) marker name)

-- and of those of a page more
pub more_there : (h : History) (names told new : List (List ℕ)) → new ≡ names ++ told → NamesContainers h (Ok told) → NamesContainers h (Ok names) → NamesContainers h (Ok new)
more_there h names told new added next first observable = subst (AllByRecursion (IsThere (present h))) (sym added) (joined names told (first observable) (next observable))
  where
    joined : (front back : List (List ℕ)) → AllByRecursion (IsThere (present h)) front → AllByRecursion (IsThere (present h)) back → AllByRecursion (IsThere (present h)) (front ++ back)
    joined [] back first then = then
    joined (name ∷ front) back first then = (first.0, joined front back first.1 then)

-- nothing was told
pub none_told : (h : History) (result : Result (List (List ℕ)) PlanFault) (e : PlanFault) → IsErrAnd result (λ f. f ≡ e) → NamesContainers h result
none_told h (Ok names) e is = absurd is
none_told h (Err f) e is = λ observable. tt

-- calls left the account: what was told of it before them holds after them, and the other way round
module _ {a b : History} (on : GoesOn a b) (leaves : LeavesThroughout a b) (names : List (List ℕ)) where
  pub there_before : (IsTrue b.observable → AllByRecursion (IsThere (present b)) names) → IsTrue a.observable → AllByRecursion (IsThere (present a)) names
  there_before there observable = subst (λ tree. AllByRecursion (IsThere tree) names) (throughout_end on leaves observable) (there (on.observable observable))

  pub there_after : (IsTrue a.observable → AllByRecursion (IsThere (present a)) names) → IsTrue b.observable → AllByRecursion (IsThere (present b)) names
  there_after there observable = subst (λ tree. AllByRecursion (IsThere tree) names) (sym (throughout_end on leaves (on.told observable))) (there (on.told observable))
