-- A page of the files of a container, asked for by one call.
use Rattle.std.proofs.Common.{◌≡◌, ℕ, zero, suc, Bool, true, false, not, cond, nat_le, ◌&&◌, ◌==◌, T, List, [], ◌∷◌, map, length, take, Option, Some, None, Result, Ok, Err, refl, sym, ap, subst, ◌∙◌, inr, arith}
use Rattle.std.specs.Result.{IsErrAnd}
use Rattle.std.specs.List.{filter, list_all, AllByRecursion}
use Rattle.std.specs.Ordering.{is_lt}
use Rattle.std.specs.FinMap.{entries, entries_sorted, get, is_sorted, len-empty, len-entries}
use Rattle.std.specs.FinMap.Entries.{below_all}
use Rattle.std.proofs.lemmas.Bool.{and_parts, and_from}
use Rattle.std.proofs.lemmas.Bool.{eqb-true}
use Rattle.std.proofs.lemmas.Bool.Decides.{nat_tests}
use Rattle.std.proofs.lemmas.List.{take-map, length-take}
use Rattle.std.proofs.lemmas.Map.Views.{Contains-from_any}
use Rattle.std.proofs.lemmas.Str.{is_utf8-from_IsUtf8}
use Rattle.gate_base.specs.Maps.{name_cmp}
use Rattle.gate_base.specs.Maps as maps
use Rattle.s3_names.specs.Key.{is_key}
use Rattle.s3_names.specs.Text.{has_zero}
use Rattle.s3_machine.specs.Items.{begins, behind, with_prefix}
use Rattle.swift_calls.specs.Account.{SwiftObject, SwiftContainer, SwiftAccount, files, files_of}
use Rattle.swift_calls.specs.Bodies.{item_of}
use Rattle.swift_calls.specs.History.{History, Calls}
use Rattle.swift_calls.specs.Step.{page, is_listed, items_reply}
use Rattle.swift_calls.specs.declared.calls.SwiftFault.TheVariants as swift
use Rattle.swift_calls.specs.declared.calls.SwiftReply.{SwiftReply}
use Rattle.swift_calls.specs.declared.calls.SwiftReply.TheVariants.{Made, There, Gone, Stored, NotFound, Exists, NotEmpty, BadManifest, Unsatisfiable, Containers, Readers, Names, Head, Bytes, Manifest}
use Rattle.swift_calls.specs.declared.heads.NameItem.{NameItem}
use Rattle.upload_records.specs.Consistent.{IsConsistent, IsFileName}
use Rattle.list_pages.specs.Listing.{Ascends, IsPageOf, is_listed_name_with_prefix, AsksPage, asked, not_asked, ComesTo, IsTold, IsOdd, BreaksAt, name_in, page_request}
use Rattle.list_pages.specs.declared.fault.PageFault.{PageFault}
use Rattle.list_pages.specs.declared.fault.PageFault.TheVariants as fault
use Rattle.list_pages.proofs.lemmas.Fronts.{breaks_nowhere}
use Rattle.list_pages.proofs.lemmas.Pages.{parts}
use Rattle.list_pages.proofs.lemmas.Pushing.{is_less}
use Rattle.list_pages.proofs.lemmas.Sorted.{sorted_filter, with_prefix_behind}
use Rattle.list_pages.proofs.lemmas.Starting.{not_behind}
use Rattle.s3_machine.proofs.lemmas.Starts.{starts_begins}
use Rattle.account_calls.specs.declared.fault.PlanFault.{PlanFault}
use Rattle.account_calls.specs.declared.fault.PlanFault.TheVariants as plan
use Rattle.account_calls.specs.Fault.{of_page}
use Rattle.account_calls.specs.Calls.{always, Any, Asks}
use Rattle.account_calls.specs.Listing.{TellsOf}
use Rattle.account_calls.proofs.lemmas.Faults.{err_is}
use Rattle.account_calls.proofs.lemmas.Idle.{stays}
use Rattle.account_calls.proofs.lemmas.Markers.{IsEntry, entries_are}
use Rattle.account_calls.proofs.lemmas.One as one
use Rattle.account_calls.proofs.lemmas.One.{IsReadingOf, asked_of, asked_of_in_vain, grows_one, found, stays_settled}
use Rattle.account_calls.specs.FilePages.{item_at, rows_after, items_after, TellsFiles}

-- ---- the rows of a page

listed_is : {X : Type 0} (prefix marker : List ℕ) (e : List ℕ × X) → is_listed prefix marker e.0 ≡ (is_lt (name_cmp marker e.0) && begins prefix e.0)
listed_is prefix marker e = λ i. sym (not_behind marker e.0) i && starts_begins prefix e.0 i

one_row : {X : Type 0} (e : List ℕ × X) (rest : List (List ℕ × X)) (later : Bool) (fits : Bool) (marker : List ℕ) (chosen : List (List ℕ × X)) → later ≡ is_lt (name_cmp marker e.0) → chosen ≡ behind marker rest
    → cond (later && fits) (e ∷ chosen) chosen ≡ behind marker (cond fits (e ∷ rest) rest)
one_row e rest true true marker chosen is same = ap (λ l. e ∷ l) same ∙ ap (λ t. cond t (e ∷ behind marker rest) (behind marker rest)) is
one_row e rest false true marker chosen is same = same ∙ ap (λ t. cond t (e ∷ behind marker rest) (behind marker rest)) is
one_row e rest true false marker chosen is same = same
one_row e rest false false marker chosen is same = same

listed_rows : {X : Type 0} (prefix marker : List ℕ) (es : List (List ℕ × X)) → filter (λ e. is_listed prefix marker e.0) es ≡ behind marker (with_prefix prefix es)
listed_rows prefix marker [] = refl
listed_rows prefix marker (e ∷ es) =
    ap (λ t. cond t (e ∷ filter (λ e. is_listed prefix marker e.0) es) (filter (λ e. is_listed prefix marker e.0) es)) (listed_is prefix marker e)
    ∙ one_row e (with_prefix prefix es) (is_lt (name_cmp marker e.0)) (begins prefix e.0) marker (filter (λ e. is_listed prefix marker e.0) es) refl (listed_rows prefix marker es)

page_is : (prefix marker : List ℕ) (fs : maps.Names SwiftObject) → page 1000 (λ e. item_of e.0 e.1) (λ e. is_listed prefix marker e.0) (entries fs) ≡ take 1000 (items_after prefix marker fs)
unfolding page
page_is prefix marker fs = ap (λ rows. take 1000 (map item_at rows)) (listed_rows prefix marker (entries fs))

-- ---- their names

below_behind : {X : Type 0} (marker : List ℕ) (es : List (List ℕ × X)) → T (below_all name_cmp marker (behind marker es))
below_behind marker [] = tt
below_behind marker (e ∷ es) =
    elim (is_lt (name_cmp marker e.0)) as (λ t. is_lt (name_cmp marker e.0) ≡ t → T (below_all name_cmp marker (cond t (e ∷ behind marker es) (behind marker es)))) [
      | true ↦ λ above. subst (λ t. T (t && below_all name_cmp marker (behind marker es))) (sym above) (below_behind marker es)
      | false ↦ λ above. below_behind marker es
    ] refl

ascends_by : {X : Type 0} (marker : List ℕ) (es : List (List ℕ × X)) → T (below_all name_cmp marker es) → T (is_sorted name_cmp es) → Ascends marker (map (λ e. e.0) es)
ascends_by marker [] below sorted = tt
ascends_by marker (e ∷ es) below sorted =
    let b = parts (is_lt (name_cmp marker e.0)) (below_all name_cmp marker es) below in
    let s = parts (below_all name_cmp e.0 es) (is_sorted name_cmp es) sorted in
    (is_less (name_cmp marker e.0) b.0, ascends_by e.0 es s.0 s.1)

ascends_take : (marker : List ℕ) (n : ℕ) (names : List (List ℕ)) → Ascends marker names → Ascends marker (take n names)
ascends_take marker zero [] h = tt
ascends_take marker zero (name ∷ names) h = tt
ascends_take marker (suc n) [] h = tt
ascends_take marker (suc n) (name ∷ names) h = (h.0, ascends_take name n names h.1)

all_take : {X : Type 0} (p : X → Bool) (n : ℕ) (xs : List X) → list_all p xs ≡ true → list_all p (take n xs) ≡ true
all_take p zero [] h = refl
all_take p zero (x ∷ xs) h = refl
all_take p (suc n) [] h = refl
all_take p (suc n) (x ∷ xs) h = let a = and_parts (p x) (list_all p xs) h in and_from _ _ a.0 (all_take p n xs a.1)

all_map : {A B : Type 0} (p : B → Bool) (f : A → B) (xs : List A) → list_all (λ x. p (f x)) xs ≡ true → list_all p (map f xs) ≡ true
all_map p f [] h = refl
all_map p f (x ∷ xs) h = let a = and_parts (p (f x)) (list_all (λ x. p (f x)) xs) h in and_from _ _ a.0 (all_map p f xs a.1)

all_both : {X : Type 0} (p q : X → Bool) (xs : List X) → list_all p xs ≡ true → list_all q xs ≡ true → list_all (λ x. p x && q x) xs ≡ true
all_both p q [] h k = refl
all_both p q (x ∷ xs) h k =
    let a = and_parts (p x) (list_all p xs) h in
    let b = and_parts (q x) (list_all q xs) k in
    and_from _ _ (and_from _ _ a.0 b.0) (all_both p q xs a.1 b.1)

all_filter : {X : Type 0} (q p : X → Bool) (es : List X) → list_all q es ≡ true → list_all q (filter p es) ≡ true
all_filter q p [] h = refl
all_filter q p (e ∷ es) h =
    let a = and_parts (q e) (list_all q es) h in
    elim (p e) as (λ t. list_all q (cond t (e ∷ filter p es) (filter p es)) ≡ true) [
      | true ↦ and_from _ _ a.0 (all_filter q p es a.1)
      | false ↦ all_filter q p es a.1
    ]

-- the name of a file is a key
pub file_is_key : (name : List ℕ) → IsFileName name → is_key name ≡ true
unfolding is_key
file_is_key name is =
    let filled = is.filled in
    let within = is.within in
    let some : nat_le 1 (length name) ≡ true = grind (arith, nat_tests) in
    let few : nat_le (length name) 1024 ≡ true = grind (arith, nat_tests) in
    and_from _ _ (and_from _ _ some few) (and_from _ _ (is_utf8-from_IsUtf8 name is.text) (ap not (no_zero_in (has_zero name) refl)))
  where
    no_zero_in : (t : Bool) → has_zero name ≡ t → has_zero name ≡ false
    no_zero_in true e = absurd (is.no_zero (Contains-from_any {eq = λ x y. y == x} (λ x y same. sym (eqb-true y x same)) 0 name e))
    no_zero_in false e = e

module _ (tree : SwiftAccount) (folder : List ℕ) (sound : IsConsistent tree) where
  pub all_keys : (es : List (List ℕ × SwiftObject)) → AllByRecursion (IsEntry (files tree folder)) es → list_all (λ e. is_key e.0) es ≡ true
  all_keys [] h = refl
  all_keys (e ∷ es) h = and_from _ _ (file_is_key e.0 (sound.stored folder e.0 e.1 h.0).named) (all_keys es h.1)

  module _ (prefix marker : List ℕ) where
    abbrev rows : List (List ℕ × SwiftObject)
    rows = rows_after prefix marker (files tree folder)

    rows_keyed : list_all (λ e. is_key e.0) rows ≡ true
    rows_keyed = all_filter (λ e. is_key e.0) (λ e. is_lt (name_cmp marker e.0)) (with_prefix prefix (entries (files tree folder)))
        (all_filter (λ e. is_key e.0) (λ e. begins prefix e.0) (entries (files tree folder)) (all_keys (entries (files tree folder)) (entries_are (files tree folder))))

    rows_named : list_all (λ e. is_listed_name_with_prefix prefix e.0) rows ≡ true
    rows_named = all_both (λ e. is_key e.0) (λ e. begins prefix e.0) rows rows_keyed (with_prefix_behind prefix (λ e. is_lt (name_cmp marker e.0)) (entries (files tree folder)))

    rows_sorted : T (is_sorted name_cmp rows)
    rows_sorted = sorted_filter (λ e. is_lt (name_cmp marker e.0)) (with_prefix prefix (entries (files tree folder)))
        (sorted_filter (λ e. begins prefix e.0) (entries (files tree folder)) (entries_sorted (files tree folder)))

    pub names_are : (n : ℕ) → map name_in (take n (items_after prefix marker (files tree folder))) ≡ take n (map (λ e. e.0) rows)
    names_are n = sym (take-map name_in n (map item_at rows)) ∙ ap (take n) (map_twice rows)
      where
        map_twice : (es : List (List ℕ × SwiftObject)) → map name_in (map item_at es) ≡ map (λ e. e.0) es
        map_twice [] = refl
        map_twice (e ∷ es) = ap (λ l. e.0 ∷ l) (map_twice es)

    -- the names that the container gives are a page
    pub page_is_one : IsPageOf prefix marker (map name_in (take 1000 (items_after prefix marker (files tree folder))))
    page_is_one = subst (IsPageOf prefix marker) (sym (names_are 1000)) (record {
      within = omega (arith, length-take 1000 (map (λ e. e.0) rows));
      ascends = ascends_take marker 1000 (map (λ e. e.0) rows) (ascends_by marker rows (below_behind marker (with_prefix prefix (entries (files tree folder)))) rows_sorted);
      named = all_take (is_listed_name_with_prefix prefix) 1000 (map (λ e. e.0) rows) (all_map (is_listed_name_with_prefix prefix) (λ e. e.0) rows rows_named);
    })

-- ---- what a listing answers, where it is a page

abbrev page_due : SwiftReply → Result (List NameItem) PlanFault
page_due (Names items) = Ok items
page_due NotFound = Ok []
page_due _ = Err plan.Inconsistent

told_due : (prefix marker : List ℕ) (reply : SwiftReply) (told : List NameItem) → IsTold prefix marker reply told → Ok told ≡ page_due reply
told_due prefix marker (Names items) told comes = ap Ok comes.0
told_due prefix marker NotFound told comes = ap Ok comes
told_due prefix marker Made told comes = absurd comes
told_due prefix marker There told comes = absurd comes
told_due prefix marker Gone told comes = absurd comes
told_due prefix marker (Stored etag) told comes = absurd comes
told_due prefix marker Exists told comes = absurd comes
told_due prefix marker NotEmpty told comes = absurd comes
told_due prefix marker BadManifest told comes = absurd comes
told_due prefix marker Unsatisfiable told comes = absurd comes
told_due prefix marker (Containers names) told comes = absurd comes
told_due prefix marker (Readers readers created) told comes = absurd comes
told_due prefix marker (Head head) told comes = absurd comes
told_due prefix marker (Bytes head body) told comes = absurd comes
told_due prefix marker (Manifest segments) told comes = absurd comes

ok_no_err : {T E : Type 0} (x : T) (f : E) → Ok x ≡ Err f → ⊥
ok_no_err x f e = cc

none_of : {X : Type 0} (xs : List X) → length xs ≡ 0 → xs ≡ []
none_of [] e = refl
none_of (x ∷ xs) e = absurd (omega (arith, e))

take_none : (X : Type 0) (n : ℕ) → let none : List X = [] in take n none ≡ none
take_none X zero = refl
take_none X (suc n) = refl

no_items : (prefix marker : List ℕ) → take 1000 (items_after prefix marker (files_of None)) ≡ []
no_items prefix marker =
    ap (λ es. take 1000 (map item_at (behind marker (with_prefix prefix es)))) (none_of (entries (files_of None)) (sym (len-entries (files_of None)) ∙ len-empty name_cmp SwiftObject)) ∙ take_none NameItem 1000

module _ (folder prefix marker : List ℕ) where
  module _ (tree : SwiftAccount) (sound : IsConsistent tree) where
    tells_by : (o : Option SwiftContainer) → get tree folder ≡ o → (reply : SwiftReply) → reply ≡ items_reply 1000 prefix marker o
        → (told : List NameItem) × (page_due reply ≡ Ok told) × TellsFiles folder prefix marker tree told
    tells_by None e reply replied = ([], ap page_due replied, record { items = sym (ap (λ o. take 1000 (items_after prefix marker (files_of o))) e ∙ no_items prefix marker) })
    tells_by (Some found) e reply replied = (
      page 1000 (λ e. item_of e.0 e.1) (λ e. is_listed prefix marker e.0) (entries found.files),
      ap page_due replied,
      record { items = page_is prefix marker found.files ∙ ap (λ o. take 1000 (items_after prefix marker (files_of o))) (sym e) },
    )

    odd_by : (o : Option SwiftContainer) → get tree folder ≡ o → (name : List ℕ) → IsOdd prefix marker (items_reply 1000 prefix marker o) name → ⊥
    odd_by None e name odd = odd
    odd_by (Some found) e name odd =
        breaks_nowhere prefix marker (map name_in (take 1000 (items_after prefix marker (files tree folder)))) name (page_is_one tree folder sound prefix marker)
        (subst (λ items. BreaksAt prefix marker (map name_in items) name) (page_is prefix marker found.files ∙ ap (λ o. take 1000 (items_after prefix marker (files_of o))) (sym e)) odd)

  page_read : IsReadingOf Any (page_request folder prefix marker) page_due (TellsFiles folder prefix marker)
  page_read = record {
    leaves = λ tree. refl;
    tells = λ tree sound any reply replied. tells_by tree sound (get tree folder) refl reply replied;
  }

  module _ {a b : History} where
    told_by : (told : List NameItem) {reply : SwiftReply} → Calls a b (page_request folder prefix marker) (Ok reply) → IsTold prefix marker reply told
        → Asks (always 1) a b Any (TellsOf (TellsFiles folder prefix marker)) (Ok told)
    told_by told {reply = reply} calls comes = asked_of page_read calls (Ok told) (inr (told_due prefix marker reply told comes)) (ok_no_err told plan.Failed)

    pub page_told : {told : List NameItem} → AsksPage a b folder prefix marker (Ok told) → Asks (always 1) a b Any (TellsOf (TellsFiles folder prefix marker)) (Ok told)
    page_told {told = told} (asked (Ok reply) calls comes) = told_by told calls comes
    page_told {told = told} (asked (Err swift.Failed) calls e) = absurd (ok_no_err told fault.Failed e)
    page_told {told = told} (asked (Err swift.Memory) calls e) = absurd (ok_no_err told fault.Memory e)
    page_told {told = told} (not_asked same e) = absurd (ok_no_err told fault.Memory e)

    module _ {reply : SwiftReply} (calls : Calls a b (page_request folder prefix marker) (Ok reply)) where
      by_reply : (f : PageFault) → ComesTo folder prefix marker reply (Err f) → Asks (always 1) a b Any (TellsOf (TellsFiles folder prefix marker)) (Err (of_page f))
      by_reply fault.Failed never = absurd never
      by_reply fault.Memory done = record {
        grows = grows_one Any calls;
        cause = calls.faults;
        effect = λ met.
            let c = calls.effect met.observable in
            let next = c.next in
            (stays (omega arith) (omega arith) c.tree (subst IsConsistent (sym (found calls met.observable)) met.sound), c.quiet);
        settled = stays_settled (λ tree settled. settled) calls;
      }
      by_reply (fault.Inconsistent container name) odd = record {
        grows = grows_one Any calls;
        cause = calls.faults;
        effect = λ met.
            let c = calls.effect met.observable in
            let here = b.account_at a.called in
            odd_by here (subst IsConsistent (sym (found calls met.observable)) met.sound) (get here folder) refl name (subst (λ r. IsOdd prefix marker r name) c.reply odd.1);
        settled = stays_settled (λ tree settled. settled) calls;
      }

    fault_by : (f : PageFault) → AsksPage a b folder prefix marker (Err f) → Asks (always 1) a b Any (TellsOf (TellsFiles folder prefix marker)) (Err (of_page f))
    fault_by f (asked (Ok reply) calls comes) = by_reply calls f comes
    fault_by f (asked (Err swift.Failed) calls e) = let is_f : f ≡ fault.Failed = cc in asked_of_in_vain page_read calls (Err (of_page f)) (ap of_page is_f)
    fault_by f (asked (Err swift.Memory) calls e) = let is_f : f ≡ fault.Memory = cc in asked_of_in_vain page_read calls (Err (of_page f)) (ap of_page is_f)
    fault_by f (not_asked same e) =
        let is_f : f ≡ fault.Memory = cc in
        subst (λ h. Asks (always 1) a h Any (TellsOf (TellsFiles folder prefix marker)) (Err (of_page f))) (sym same) (one.not_asked (always 1) a (Err (of_page f)) (ap of_page is_f))

    -- a page wasn't had
    pub page_fault : {f : PageFault} → AsksPage a b folder prefix marker (Err f) → (result : Result (List NameItem) PlanFault) → IsErrAnd result (λ e. e ≡ of_page f)
        → Asks (always 1) a b Any (TellsOf (TellsFiles folder prefix marker)) result
    page_fault {f = f} asks result gives = subst (Asks (always 1) a b Any (TellsOf (TellsFiles folder prefix marker))) (sym (err_is result (of_page f) gives)) (fault_by f asks)
