-- The ids of the files beside a bucket that go are asked for, file by file and page by page.
use Rattle.std.specs.Prelude.{◌≡◌, ◌≤◌, ◌<◌, ◌+◌, ◌*◌, ◌||◌, ℕ, zero, suc, Bool, true, false, bytes_eq, IsTrue, List, [], ◌∷◌, ◌++◌, map, length, take, drop, get_or, is_some, Option, None, Some, Result, Ok, Err, OnOk}
use Rattle.std.specs.Result.{IsErrAnd}
use Rattle.std.specs.List.{AllByRecursion}
use Rattle.std.specs.FinMap.{empty, entries, get, insert, len-entries}
use Rattle.std.proofs.Common.{refl, sym, ap, subst, ◌∙◌, arith, true≢false, inl, inr}
use Rattle.std.proofs.lemmas.List.{append-nil, append_assoc, length-drop, length-map, length-take}
use Rattle.gate_base.specs.Maps.{Names}
use Rattle.gate_base.proofs.lemmas.Maps.{by_name, get_empty, same_key}
use Rattle.std.proofs.lemmas.Map.Text.{is_eq-slice_cmp}
use Rattle.swift_calls.specs.Account.{SwiftAccount, SwiftObject, files}
use Rattle.swift_calls.specs.History.{History, present, Extends}
use Rattle.swift_calls.specs.declared.heads.NameItem.{NameItem}
use Rattle.list_pages.specs.Listing.{name_in}
use Rattle.upload_texts.specs.declared.record.Record.{Record}
use Rattle.upload_records.specs.Layout.{segments_name, uploads_name}
use Rattle.upload_records.specs.Native.{IsSettled}
use Rattle.upload_records.specs.Consistent.{IsConsistent}
use Rattle.account_calls.specs.declared.fault.PlanFault.{PlanFault}
use Rattle.account_calls.specs.declared.fault.PlanFault.TheVariants as fault
use Rattle.account_calls.specs.Answers.{pages}
use Rattle.account_calls.specs.Calls.{always, by_account, Any, Asks, GoesOn, Grows, Met}
use Rattle.account_calls.specs.FilePages.{item_at, items_after, next_after, rows_after, TellsFiles}
use Rattle.account_calls.specs.Listing.{TellsOf}
use Rattle.account_calls.specs.Told.{Idles, LeavesThroughout}
use Rattle.account_calls.proofs.lemmas.Ask.{asks_told}
use Rattle.account_calls.proofs.lemmas.Faults.{err_is}
use Rattle.account_calls.proofs.lemmas.Idle.{goes_none, goes_trans}
use Rattle.account_calls.proofs.lemmas.Quiet.{asks_failed, asks_no_memory, asks_under, told_here}
use Rattle.account_calls.proofs.lemmas.Turned.{turned, ended}
use Rattle.account_calls.proofs.lemmas.Walk.{idles_none, idles_trans, cause_after, keeps_after}
use Rattle.leftovers.specs.Asking.{record_found, asking_after, asking_calls, asking_left, AreAsked, AreClear, ClearsAll, HasOrphan, HasSegment, HasSegments, HasUnused, IsAsked, IsClear, IsPageAsked, IsRecordClear, PaysAsking, TellsFound, TellsNextPage, TellsNothing}
use Rattle.leftovers.specs.Gathering.{names_after, IsItemOf}
use Rattle.leftovers.specs.Leftovers.{id_in}
use Rattle.leftovers.specs.Lists.{items_left, Stays}
use Rattle.leftovers.proofs.Gathers.{put_adds, reads_then, items_are}
use Rattle.leftovers.proofs.Held.{all_append, all_later, all_more, said_there}
use Rattle.leftovers.proofs.Namings.{asks_room}
use Rattle.leftovers.proofs.lemmas.FileNames.{all_names}
use Rattle.leftovers.proofs.lemmas.Lists.{at_place, halves}
use Rattle.leftovers.proofs.lemmas.Readings.{asks_given, asks_idle}

-- ---- one id

pub on_ok : {T E P Q : Type 0} (result : Result T E) → (P → Q) → OnOk result P → OnOk result Q
on_ok (Ok x) f p = f p
on_ok (Err e) f p = tt

-- a record that is missing
pub clear_none : {uploads bucket id : List ℕ} {test : List ℕ → Bool} {tree : SwiftAccount} (told : Option Record) → record_found uploads id tree ≡ Ok told → told ≡ None → IsClear uploads bucket test tree id
clear_none told reads none = record { told = None; reads = reads ∙ ap Ok none; clear = tt }

pub clear_some : {a b : History} (uploads bucket id : List ℕ) (test : List ℕ → Bool) (told : Option Record) (r : Record) → record_found uploads id (present a) ≡ Ok told → told ≡ Some r → GoesOn a b → LeavesThroughout a b → IsTrue a.observable
    → (result : Result (Unit {0}) PlanFault) → (IsTrue b.observable → OnOk result (IsRecordClear bucket test (present b) (Some r))) → OnOk result (IsClear uploads bucket test (present a) id)
clear_some uploads bucket id test told r reads some on leaves observable (Err f) clear = tt
clear_some uploads bucket id test told r reads some on leaves observable (Ok done) clear = record {
  told = Some r;
  reads = reads ∙ ap Ok some;
  clear = said_there (λ tree. IsRecordClear bucket test tree (Some r)) on leaves observable clear;
}

pub found_none : {a b : History} (bucket id : List ℕ) (test : List ℕ → Bool) {told : Option Record} → Asks (always 1) a b (HasUnused bucket test) (TellsOf (TellsFound bucket id)) (Ok told)
    → Asks (always 2) a b (HasOrphan bucket id test) (TellsOf TellsNothing) (Ok tt)
found_none bucket id test asks = asks_room (omega arith) (asks_given (λ tree sound has. has.has) (asks_told {Q = TellsNothing} (λ tree has. has) tt (λ tree sound has told. tt) asks))

-- ---- one file

pub segment_passed : (h : History) (bucket : List ℕ) (test : List ℕ → Bool) (item : NameItem) → Asks (always 2) h h (HasSegment bucket test item) (TellsOf TellsNothing) (Ok tt)
segment_passed h bucket test item = asks_idle (always 2) h tt (λ tree sound has. tt)

orphan_here : (bucket id : List ℕ) (test : List ℕ → Bool) (item : NameItem) → id ≡ id_in item.name → test item.name ≡ true → (tree : SwiftAccount) → HasSegment bucket test item tree → HasOrphan bucket id test tree
orphan_here bucket id test item of passes tree has = record { has = has.has; name = item.name; passes = passes; of = sym of; file = has.is.file; found = has.is.found }

pub segment_asked : {a b : History} (bucket id : List ℕ) (test : List ℕ → Bool) (item : NameItem) → id ≡ id_in item.name → test item.name ≡ true → {result : Result (Unit {0}) PlanFault}
    → Asks (always 2) a b (HasOrphan bucket id test) (TellsOf TellsNothing) result → Asks (always 2) a b (HasSegment bucket test item) (TellsOf TellsNothing) result
segment_asked bucket id test item of passes asks = asks_given (λ tree sound has. orphan_here bucket id test item of passes tree has) asks

-- an id more is clear
pub clears_put : {uploads bucket id : List ℕ} {test : List ℕ → Bool} {tree : SwiftAccount} (old : Names Bool) {new : Names Bool} → new ≡ insert old id true → IsClear uploads bucket test tree id → AreClear uploads bucket test tree old → AreClear uploads bucket test tree new
clears_put {uploads = uploads} {bucket = bucket} {id = id} {test = test} {tree = tree} old {new = new} grown clear were text has = elim (same_key by_name id text) [
  | inl e ↦ subst (IsClear uploads bucket test tree) e clear
  | inr a ↦ were text (sym (or_no (is_some (get old text)) (bytes_eq id text) (sym (is_eq-slice_cmp id text) ∙ a)) ∙ sym (ap (λ t. is_some (get t text)) grown ∙ put_adds old id text) ∙ has)
]
  where
    or_no : (s t : Bool) → t ≡ false → (s || t) ≡ s
    or_no true t e = refl
    or_no false t e = e

-- ---- file by file

module _ (bucket : List ℕ) (test : List ℕ → Bool) (items : List NameItem) where
  abbrev pub AskingSo : History → History → ℕ → Type 0
  AskingSo a b i = Asks (always (2 * i)) a b (HasSegments bucket test items) (TellsOf TellsNothing) (Ok tt)

  pub asking_none : (a : History) → AskingSo a a 0
  asking_none a = asks_idle (always (2 * 0)) a tt (λ tree sound has. tt)

  module _ {a b : History} {i : ℕ} (asking : AskingSo a b i) (item : NameItem) (within : i < length items) (is : item ≡ get_or items i item) where
    here : (tree : SwiftAccount) → HasSegments bucket test items tree → HasSegment bucket test item tree
    here tree has = record { has = has.has; is = at_place (IsItemOf (files tree (segments_name bucket))) items i item within is has.are }

    pub asking_more : {c : History} → Asks (always 2) b c (HasSegment bucket test item) (TellsOf TellsNothing) (Ok tt) → AskingSo a c (i + 1)
    asking_more one = reads_then {n = 2 * i} {m = 2} (omega arith) asking one (λ tree sound has told. here tree has) (λ tree done sound has first then. tt)

    pub asking_fault : {c : History} {f : PlanFault} → Asks (always 2) b c (HasSegment bucket test item) (TellsOf TellsNothing) (Err f) → (result : Result (Unit {0}) PlanFault) → IsErrAnd result (λ e. e ≡ f)
        → Asks (always (2 * length items)) a c (HasSegments bucket test items) (TellsOf TellsNothing) result
    asking_fault {c = c} {f = f} one result gives =
        subst (Asks (always (2 * length items)) a c (HasSegments bucket test items) (TellsOf TellsNothing)) (sym (err_is result f gives))
        (reads_then {n = 2 * i} {m = 2} (omega (arith, within)) asking (asks_failed {R = TellsOf (λ tree done. ⊥)} (omega arith) one (Err f) refl) (λ tree sound has told. here tree has) (λ tree done sound has first never. absurd never))

  pub asking_all : {a b : History} {i : ℕ} → i ≤ length items → AskingSo a b i → Asks (always (2 * length items)) a b (HasSegments bucket test items) (TellsOf TellsNothing) (Ok tt)
  asking_all near asking = asks_room (omega (arith, near)) asking

  pub asked_more : {old new : Names Bool} {i : ℕ} (item : NameItem) → i < length items → item ≡ get_or items i item → Stays old new → AreAsked test old (take i items) → IsAsked test new item → AreAsked test new (take (i + 1) items)
  asked_more {old = old} {new = new} {i = i} item within is stays were one =
      all_more (IsAsked test new) items i item within is (all_later (IsAsked test old) (IsAsked test new) (λ x has passes. stays.so (id_in x.name) (has passes)) (take i items) were) one

-- what was clear when the loop began, and then more
pub clears_then : {at then : History} (bucket : List ℕ) (test : List ℕ → Bool) (initial old new : Names Bool) → GoesOn at then → LeavesThroughout at then
    → (IsTrue at.observable → AreClear (uploads_name bucket) bucket test (present at) initial → AreClear (uploads_name bucket) bucket test (present at) old)
    → (IsTrue then.observable → AreClear (uploads_name bucket) bucket test (present then) old → AreClear (uploads_name bucket) bucket test (present then) new)
    → IsTrue at.observable → AreClear (uploads_name bucket) bucket test (present at) initial → AreClear (uploads_name bucket) bucket test (present at) new
clears_then {at = at} bucket test initial old new on leaves first next observable clear =
    said_there (λ tree. AreClear (uploads_name bucket) bucket test tree old → AreClear (uploads_name bucket) bucket test tree new) on leaves observable next (first observable clear)

-- the same of a table that was clear
pub clears_on : {at then : History} (bucket : List ℕ) (test : List ℕ → Bool) (old new : Names Bool) → GoesOn at then → LeavesThroughout at then
    → (IsTrue at.observable → AreClear (uploads_name bucket) bucket test (present at) old)
    → (IsTrue then.observable → AreClear (uploads_name bucket) bucket test (present then) old → AreClear (uploads_name bucket) bucket test (present then) new)
    → IsTrue at.observable → AreClear (uploads_name bucket) bucket test (present at) new
clears_on {at = at} bucket test old new on leaves were next observable =
    said_there (λ tree. AreClear (uploads_name bucket) bucket test tree old → AreClear (uploads_name bucket) bucket test tree new) on leaves observable next (were observable)

-- ---- a page

module _ (folder bucket marker : List ℕ) (test : List ℕ → Bool) (named : folder ≡ segments_name bucket) {page : List NameItem} where
  next_page : (tree : SwiftAccount) → TellsFiles folder [] marker tree page → (next : Option (List ℕ)) → next ≡ next_after (map name_in page) → TellsNextPage folder marker tree next
  next_page tree tells None is = tt
  next_page tree tells (Some next) is =
      let rows = rows_after [] marker (files tree folder) in
      let turns = turned [] marker (files tree folder) page next tells.items (sym is) in
      let enough = turns.1 in
      omega (arith, enough, length-map rows (λ e. e.0), length-map (rows_after [] next (files tree folder)) (λ e. e.0), ap length turns.0, length-drop 1000 rows)

  segments_are : (tree : SwiftAccount) → HasUnused bucket test tree → TellsFiles folder [] marker tree page → HasSegments bucket test page tree
  segments_are tree has tells = record { has = has; are = subst (λ f. AllByRecursion (IsItemOf (files tree f)) page) named (items_are folder marker tree page tells) }

  module _ {a b : History} (first : Asks (always 1) a b Any (TellsOf (TellsFiles folder [] marker)) (Ok page)) where
    listed : Asks (always 1) a b (HasUnused bucket test) (TellsOf (TellsFiles folder [] marker)) (Ok page)
    listed = asks_under (λ tree has. tt) first

    few_here : Met (HasUnused bucket test) a → length page ≤ length (names_after folder marker (present a))
    few_here met =
        let items = (told_here listed met).of_account.items in
        omega (arith, ap length items, length-take 1000 (items_after [] marker (files (present a) folder)), length-map (rows_after [] marker (files (present a) folder)) item_at, length-map (rows_after [] marker (files (present a) folder)) (λ e. e.0))

    pub page_no_memory : (result : Result (Option (List ℕ)) PlanFault) → IsErrAnd result (λ e. e ≡ fault.Memory) → Asks (always 2001) a b (HasUnused bucket test) (TellsOf (TellsNextPage folder marker)) result
    page_no_memory result is = asks_no_memory (omega arith) listed result is

    module _ {c : History} (within : length page ≤ 1000) where
      pub page_more : (next : Option (List ℕ)) → next ≡ next_after (map name_in page) → Asks (always (2 * length page)) b c (HasSegments bucket test page) (TellsOf TellsNothing) (Ok tt)
          → Asks (always 2001) a c (HasUnused bucket test) (TellsOf (TellsNextPage folder marker)) (Ok next)
      page_more next is then =
          reads_then {m = 2 * length page} (omega (arith, within)) listed (asks_told {Q = λ tree y. y ≡ next} (λ tree has. has) next (λ tree sound has told. refl) then)
          (λ tree sound has tells. segments_are tree has tells)
          (λ tree y sound has tells same. subst (TellsNextPage folder marker tree) (sym same) (next_page tree tells next is))

      pub page_broken : {f : PlanFault} → Asks (always (2 * length page)) b c (HasSegments bucket test page) (TellsOf TellsNothing) (Err f) → (result : Result (Option (List ℕ)) PlanFault) → IsErrAnd result (λ e. e ≡ f)
          → Asks (always 2001) a c (HasUnused bucket test) (TellsOf (TellsNextPage folder marker)) result
      page_broken then result gives =
          reads_then {m = 2 * length page} (omega (arith, within)) listed (asks_failed {R = TellsOf (λ tree y. ⊥)} (omega arith) then result gives)
          (λ tree sound has tells. segments_are tree has tells) (λ tree y sound has tells never. absurd never)

    module _ {given : SwiftAccount → Type 0} {c : History} (grows : Grows (always (2 * length page)) given b c) where
      so_far : Met (HasUnused bucket test) a → c.called ≤ a.called + asking_after (present a) folder marker
      so_far met = let few = few_here met in let near = first.grows.calls in let far = grows.calls in omega (arith, few, near, far)

      pub pays_broken : (f : PlanFault) (result : Result (Option (List ℕ)) PlanFault) → IsErrAnd result (λ e. e ≡ f) → PaysAsking folder bucket marker test a c result
      pays_broken f (Ok next) is = absurd is
      pays_broken f (Err e) is = λ met. let paid = so_far met in omega (arith, paid)

      pub pays_page : length page ≤ 1000 → (next : Option (List ℕ)) → Asks (always 2001) a c (HasUnused bucket test) (TellsOf (TellsNextPage folder marker)) (Ok next) → PaysAsking folder bucket marker test a c (Ok next)
      pays_page within None asks = λ met. let paid = so_far met in omega (arith, paid)
      pays_page within (Some next) asks = λ met.
          let fewer = (told_here asks met).of_account in
          let near = first.grows.calls in
          let far = grows.calls in
          omega (arith, fewer, near, far, within)

-- the page wasn't had
module _ {a b : History} {folder marker : List ℕ} (bucket : List ℕ) (test : List ℕ → Bool) {f : PlanFault} (first : Asks (always 1) a b Any (TellsOf (TellsFiles folder [] marker)) (Err f))
    (result : Result (Option (List ℕ)) PlanFault) (is : IsErrAnd result (λ e. e ≡ f)) where
  pub page_failed : Asks (always 2001) a b (HasUnused bucket test) (TellsOf (TellsNextPage folder marker)) result
  page_failed = asks_failed {given = HasUnused bucket test} (omega arith) (asks_under (λ tree has. tt) first) result is

  pub pays_failed : PaysAsking folder bucket marker test a b result
  pays_failed = by result is
    where
      by : (result : Result (Option (List ℕ)) PlanFault) → IsErrAnd result (λ e. e ≡ f) → PaysAsking folder bucket marker test a b result
      by (Ok next) is = absurd is
      by (Err f) is = λ met. let near = first.grows.calls in omega (arith, near)

-- what a page has is behind its marker
pub page_asked : (at : History) (folder marker : List ℕ) (test : List ℕ → Bool) (table : Names Bool) {named behind : List ℕ} (page handed : List NameItem) → named ≡ folder → behind ≡ marker → handed ≡ page
    → TellsFiles named [] behind (present at) page → AreAsked test table handed → (next : Option (List ℕ)) → next ≡ next_after (map name_in handed) → IsPageAsked folder marker test (present at) table next
page_asked at folder marker test table page handed foldered marked same tells asked next is =
    by (subst {A = List NameItem × List ℕ × List ℕ} (λ x. TellsFiles x.1 [] x.2 (present at) x.0) (λ i. (sym same i, foldered i, marked i)) tells) next is
  where
    drop_items : (n : ℕ) (rows : List (List ℕ × SwiftObject)) → drop n (map item_at rows) ≡ map item_at (drop n rows)
    drop_items zero [] = refl
    drop_items zero (e ∷ rows) = refl
    drop_items (suc n) [] = refl
    drop_items (suc n) (e ∷ rows) = drop_items n rows

    by : TellsFiles folder [] marker (present at) handed → (next : Option (List ℕ)) → next ≡ next_after (map name_in handed) → IsPageAsked folder marker test (present at) table next
    by tells None is = record {
      page = handed;
      all = sym (ended [] marker (files (present at) folder) handed tells.items (sym is)) ∙ sym (append-nil handed);
      asked = asked;
    }
    by tells (Some next) is =
        let turns = turned [] marker (files (present at) folder) handed next tells.items (sym is) in
        record {
          page = handed;
          all =
              sym (halves 1000 (items_after [] marker (files (present at) folder)))
              ∙ (λ i. sym tells.items i ++ drop_items 1000 (rows_after [] marker (files (present at) folder)) i)
              ∙ ap (λ rows. handed ++ map item_at rows) (sym turns.0);
          asked = asked;
        }

-- ---- page by page

pub record AskedSo (folder marker : List ℕ) (test : List ℕ → Bool) (tree : SwiftAccount) (table : Names Bool) : Type 0 where
  pub front : List NameItem
  pub all : items_after [] [] (files tree folder) ≡ front ++ items_after [] marker (files tree folder)
  pub asked : AreAsked test table front

pub asked_none : (folder : List ℕ) (test : List ℕ → Bool) (tree : SwiftAccount) (table : Names Bool) → AskedSo folder [] test tree table
asked_none folder test tree table = record { front = []; all = refl; asked = tt }

module _ {folder marker : List ℕ} {test : List ℕ → Bool} {tree : SwiftAccount} {table new : Names Bool} (so : AskedSo folder marker test tree table) (stays : Stays table new) where
  both : {next : Option (List ℕ)} (page : IsPageAsked folder marker test tree new next) → AreAsked test new (so.front ++ page.page)
  both page = all_append (IsAsked test new) so.front page.page (all_later (IsAsked test table) (IsAsked test new) (λ x has passes. stays.so (id_in x.name) (has passes)) so.front so.asked) page.asked

  asked_next : (told : Option (List ℕ)) (next : List ℕ) → told ≡ Some next → IsPageAsked folder marker test tree new told → AskedSo folder next test tree new
  asked_next told next is page = record {
    front = so.front ++ page.page;
    all = so.all ∙ ap (λ l. so.front ++ l) (page.all ∙ ap (λ o. page.page ++ items_left folder tree o) is) ∙ sym (append_assoc so.front page.page (items_after [] next (files tree folder)));
    asked = both page;
  }

  asked_end : (told : Option (List ℕ)) → told ≡ None → IsPageAsked folder marker test tree new told → AreAsked test new (items_after [] [] (files tree folder))
  asked_end told is page =
      subst (AreAsked test new)
      (sym (so.all ∙ ap (λ l. so.front ++ l) (page.all ∙ ap (λ o. page.page ++ items_left folder tree o) is ∙ append-nil page.page)))
      (both page)

clear_items : (uploads bucket : List ℕ) (test : List ℕ → Bool) (tree : SwiftAccount) (table : Names Bool) → AreClear uploads bucket test tree table → (items : List NameItem) → AreAsked test table items
    → AllByRecursion (λ (item : NameItem). test item.name ≡ true → IsClear uploads bucket test tree (id_in item.name)) items
clear_items uploads bucket test tree table clear items asked = all_later (IsAsked test table) _ (λ x has passes. clear (id_in x.name) (has passes)) items asked

module _ {a b : History} {folder marker : List ℕ} {test : List ℕ → Bool} {table new : Names Bool} (on : GoesOn a b) (leaves : LeavesThroughout a b) (so : IsTrue a.observable → AskedSo folder marker test (present a) table) (stays : Stays table new)
    (told : Option (List ℕ)) (says : IsTrue b.observable → IsPageAsked folder marker test (present b) new told) where
  page_here : IsTrue a.observable → IsPageAsked folder marker test (present a) new told
  page_here observable = said_there (λ tree. IsPageAsked folder marker test tree new told) on leaves observable says

  pub asked_on : (next : List ℕ) → told ≡ Some next → IsTrue a.observable → AskedSo folder next test (present a) new
  asked_on next is observable = asked_next (so observable) stays told next is (page_here observable)

  pub cleared_all : (bucket : List ℕ) → told ≡ None → (IsTrue a.observable → AreClear (uploads_name bucket) bucket test (present a) new) → IsTrue a.observable → ClearsAll folder bucket test (present a)
  cleared_all bucket is clear observable =
      clear_items (uploads_name bucket) bucket test (present a) new (clear observable) (items_after [] [] (files (present a) folder)) (asked_end (so observable) stays told is (page_here observable))

-- no id is in an empty table
pub clear_empty : (uploads bucket : List ℕ) (test : List ℕ → Bool) (tree : SwiftAccount) (table : Names Bool) → table ≡ empty → AreClear uploads bucket test tree table
clear_empty uploads bucket test tree table none id has = absurd (true≢false (sym has ∙ ap (λ t. is_some (get t id)) none ∙ ap is_some (get_empty by_name id)))

-- ---- what the pages tell and pay

pub record SoFar (a b : History) (folder marker : List ℕ) : Type 0 where
  pub idles : Idles b a.called b.called
  pub paid : b.called + asking_after (present a) folder marker ≤ a.called + asking_after (present a) folder []

pub record Walking (a b : History) (folder bucket marker : List ℕ) (test : List ℕ → Bool) : Type 0 where
  pub on : GoesOn a b
  pub faults : b.faults ≡ a.faults
  pub settled : IsTrue a.observable → IsSettled (present a) → IsSettled (present b)
  pub so : Met (HasUnused bucket test) a → SoFar a b folder marker

pub walking_none : (a : History) (folder bucket : List ℕ) (test : List ℕ → Bool) → Walking a a folder bucket [] test
walking_none a folder bucket test = record {
  on = goes_none a;
  faults = refl;
  settled = λ observable settled. settled;
  so = λ met. record { idles = idles_none a met.sound; paid = omega arith };
}

calls_are : (tree : SwiftAccount) (folder : List ℕ) → IsConsistent tree → asking_after tree folder [] ≡ asking_calls tree folder
calls_are tree folder sound = ap (λ n. pages n + 2 * n) (ap length (all_names tree folder sound) ∙ length-map (entries (files tree folder)) (λ e. e.0) ∙ sym (len-entries (files tree folder)))

module _ {a b : History} {folder bucket marker : List ℕ} {test : List ℕ → Bool} (walking : Walking a b folder bucket marker test) where
  same_now : Met (HasUnused bucket test) a → present b ≡ present a
  same_now met = let order = walking.on.ordered in (walking.so met).idles.same ∙ (walking.on.kept met.observable).accounts a.called (omega arith)

  met_here : Met (HasUnused bucket test) a → Met (HasUnused bucket test) b
  met_here met =
      let order = walking.on.ordered in
      record {
        observable = walking.on.observable met.observable;
        sound = (walking.so met).idles.quiet.sound b.called order (omega arith);
        has = subst (HasUnused bucket test) (sym (same_now met)) met.has;
      }

  module _ {c : History} {told : Option (List ℕ)} (asks : Asks (always 2001) b c (HasUnused bucket test) (TellsOf (TellsNextPage folder marker)) (Ok told)) (pays : PaysAsking folder bucket marker test b c (Ok told)) where
    later : Met (HasUnused bucket test) a → Extends b.called b c
    later met = asks.grows.on.kept (walking.on.observable met.observable)

    idles_then : Met (HasUnused bucket test) a → Idles c a.called c.called
    idles_then met =
        let keeps = asks.effect (met_here met) in
        idles_trans walking.on.ordered (later met) (walking.so met).idles (record { quiet = keeps.0; still = keeps.1; same = keeps.2.same })

    pays_then : Met (HasUnused bucket test) a → c.called + asking_left (present a) folder told ≤ b.called + asking_after (present a) folder marker
    pays_then met = subst (λ tree. c.called + asking_left tree folder told ≤ b.called + asking_after tree folder marker) (same_now met) (pays (met_here met))

    pub walking_more : (next : List ℕ) → told ≡ Some next → Walking a c folder bucket next test
    walking_more next is = record {
      on = goes_trans walking.on asks.grows.on;
      faults = asks.cause ∙ walking.faults;
      settled = λ observable settled. asks.settled (walking.on.observable observable) (walking.settled observable settled);
      so = λ met.
          let before = (walking.so met).paid in
          let page : c.called + asking_after (present a) folder next ≤ b.called + asking_after (present a) folder marker =
          subst (λ t. c.called + asking_left (present a) folder t ≤ b.called + asking_after (present a) folder marker) is (pays_then met) in
          record { idles = idles_then met; paid = omega (arith, before, page) };
    }

    pub walking_end : told ≡ None → Asks (by_account (asking_calls (present a) folder)) a c (HasUnused bucket test) (TellsOf TellsNothing) (Ok tt)
    walking_end is = record {
      grows = record {
        on = goes_trans walking.on asks.grows.on;
        calls = λ met.
            let before = (walking.so met).paid in
            let page : c.called + 0 ≤ b.called + asking_after (present a) folder marker =
            subst (λ t. c.called + asking_left (present a) folder t ≤ b.called + asking_after (present a) folder marker) is (pays_then met) in
            omega (arith, before, page, calls_are (present a) folder met.sound);
      };
      cause = asks.cause ∙ walking.faults;
      effect = λ met. let idles = idles_then met in (idles.quiet, idles.still, record { of_account = tt; same = idles.same });
      settled = λ observable settled. asks.settled (walking.on.observable observable) (walking.settled observable settled);
    }

  pub walking_fault : {c : History} {f : PlanFault} → Asks (always 2001) b c (HasUnused bucket test) (TellsOf (TellsNextPage folder marker)) (Err f) → PaysAsking folder bucket marker test b c (Err f)
      → (result : Result (Unit {0}) PlanFault) → IsErrAnd result (λ e. e ≡ f) → Asks (by_account (asking_calls (present a) folder)) a c (HasUnused bucket test) (TellsOf TellsNothing) result
  walking_fault {c = c} {f = f} asks pays result is = subst (Asks (by_account (asking_calls (present a) folder)) a c (HasUnused bucket test) (TellsOf TellsNothing)) (sym (err_is result f is)) (record {
    grows = record {
      on = goes_trans walking.on asks.grows.on;
      calls = λ met.
          let before = (walking.so met).paid in
          let page : c.called + 0 ≤ b.called + asking_after (present a) folder marker = subst (λ tree. c.called + 0 ≤ b.called + asking_after tree folder marker) (same_now met) (pays (met_here met)) in
          omega (arith, before, page, calls_are (present a) folder met.sound);
    };
    cause = cause_after (Option (List ℕ)) (Unit {0}) a.faults b.faults c.faults f walking.faults asks.cause;
    effect = λ met. keeps_after (Option (List ℕ)) (Unit {0}) (TellsNextPage folder marker) TellsNothing b c a.called b.called c.called f walking.on.ordered
        (asks.grows.on.kept (walking.on.observable met.observable)) (walking.so met).idles (asks.effect (met_here met));
    settled = λ observable settled. asks.settled (walking.on.observable observable) (walking.settled observable settled);
  })
