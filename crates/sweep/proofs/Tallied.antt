-- The files of a container are counted, item by item, and page by page.
use Rattle.std.specs.Prelude.{◌≡◌, ◌≤◌, ◌<◌, ◌+◌, ℕ, Bool, true, false, cond, not, IsTrue, List, [], ◌∷◌, ◌++◌, map, length, take, drop, get_or, Option, None, Some, Result, Ok, Err}
use Rattle.std.specs.Result.{IsErrAnd}
use Rattle.std.specs.List.{filter}
use Rattle.std.specs.FinMap.{entries, len-entries}
use Rattle.std.proofs.Common.{refl, sym, ap, subst, ◌∙◌, arith}
use Rattle.std.proofs.lemmas.List.{length-drop, length-map, map-append, take-map, take_all, take_more}
use Rattle.swift_calls.specs.Account.{SwiftAccount, SwiftObject, files}
use Rattle.swift_calls.specs.History.{History, present, Extends}
use Rattle.swift_calls.specs.declared.heads.NameItem.{NameItem}
use Rattle.list_pages.specs.Listing.{name_in}
use Rattle.upload_records.specs.Native.{IsSettled}
use Rattle.upload_records.specs.Consistent.{IsConsistent}
use Rattle.account_calls.specs.declared.fault.PlanFault.{PlanFault}
use Rattle.account_calls.specs.declared.fault.PlanFault.TheVariants as fault
use Rattle.account_calls.specs.Answers.{pages}
use Rattle.account_calls.specs.Calls.{always, by_account, Any, Asks, GoesOn, Met}
use Rattle.account_calls.specs.FilePages.{item_at, next_after, rows_after, TellsFiles}
use Rattle.account_calls.specs.Listing.{TellsOf}
use Rattle.account_calls.specs.Told.{Idles}
use Rattle.account_calls.proofs.lemmas.Ask.{asks_fault, asks_out_of_memory, asks_told}
use Rattle.account_calls.proofs.lemmas.Faults.{err_is}
use Rattle.account_calls.proofs.lemmas.Idle.{goes_none, goes_trans}
use Rattle.account_calls.proofs.lemmas.Quiet.{told_here}
use Rattle.account_calls.proofs.lemmas.Walk.{idles_none, idles_trans, cause_after, keeps_after}
use Rattle.sweep.specs.declared.file_counts.FileCount.{FileCount}
use Rattle.leftovers.specs.Gathering.{names_after}
use Rattle.sweep.specs.Surveying.{no_tally, one_more, page_calls, TalliesFiles, TalliesNext, TalliesPage, TellsTallied, TellsTally}
use Rattle.leftovers.proofs.lemmas.Counted.{filter_append}
use Rattle.leftovers.proofs.lemmas.FileNames.{all_names, names_of}
use Rattle.leftovers.proofs.lemmas.Lists.{halves, take_zero}
use Rattle.account_calls.proofs.lemmas.Turned.{turned, ended}

-- ---- item by item

module _ (test : List ℕ → Bool) (items : List NameItem) (old : FileCount) where
  abbrev pub Tallying : ℕ → FileCount → Type 0
  Tallying i now = TalliesFiles test (map name_in (take i items)) old now

  pub tallying_none : Tallying 0 old
  tallying_none = subst (λ l. TalliesFiles test (map name_in l) old old) (sym (take_zero items)) (record { used = omega arith; unused = omega arith })

  module _ {now : FileCount} {i : ℕ} (so : Tallying i now) (item : NameItem) (within : i < length items) (is : item ≡ get_or items i item) where
    counted : (p : List ℕ → Bool) → length (filter p (map name_in (take (i + 1) items))) ≡ length (filter p (map name_in (take i items))) + length (filter p (item.name ∷ []))
    counted p =
        ap (λ l. length (filter p l)) (ap (map name_in) (take_more items i item within ∙ ap (λ x. take i items ++ x ∷ []) (sym is)) ∙ map-append name_in (take i items) (item ∷ []))
        ∙ filter_append p (map name_in (take i items)) (item.name ∷ [])

    one : (p : List ℕ → Bool) (t : Bool) → p item.name ≡ t → length (filter p (item.name ∷ [])) ≡ length (cond t (item.name ∷ []) [])
    one p t e = ap (λ b. length (cond b (item.name ∷ []) [])) e

    pub tallying_more : (t : Bool) (new : FileCount) → test item.name ≡ t → new ≡ one_more t now → Tallying (i + 1) new
    tallying_more true new e grown = record {
      used = omega (arith, so.used, counted test, one test true e, ap (λ (x : FileCount). x.used) grown);
      unused = omega (arith, so.unused, counted (λ name. not (test name)), one (λ name. not (test name)) false (ap not e), ap (λ (x : FileCount). x.unused) grown);
    }
    tallying_more false new e grown = record {
      used = omega (arith, so.used, counted test, one test false e, ap (λ (x : FileCount). x.used) grown);
      unused = omega (arith, so.unused, counted (λ name. not (test name)), one (λ name. not (test name)) true (ap not e), ap (λ (x : FileCount). x.unused) grown);
    }

  pub tallying_all : {now : FileCount} {i : ℕ} → length items ≤ i → Tallying i now → TalliesFiles test (map name_in items) old now
  tallying_all {now = now} {i = i} far so = subst (λ l. TalliesFiles test (map name_in l) old now) (take_all i items far) so

-- ---- a page

module _ (test : List ℕ → Bool) (folder marker : List ℕ) (page : List NameItem) (old : FileCount) where
  module _ (new : FileCount) (added : TalliesFiles test (map name_in page) old new) (tree : SwiftAccount) (tells : TellsFiles folder [] marker tree page) where
    abbrev rows : List (List ℕ × SwiftObject)
    rows = rows_after [] marker (files tree folder)

    page_names : map name_in page ≡ map (λ e. e.0) (take 1000 rows)
    page_names = ap (map name_in) (tells.items ∙ take-map item_at 1000 rows) ∙ names_of (take 1000 rows)

    split : (p : List ℕ → Bool) → length (filter p (names_after folder marker tree)) ≡ length (filter p (map name_in page)) + length (filter p (map (λ e. e.0) (drop 1000 rows)))
    split p =
        ap (λ rs. length (filter p (map (λ (e : List ℕ × SwiftObject). e.0) rs))) (sym (halves 1000 rows))
        ∙ ap (λ l. length (filter p l)) (map-append (λ e. e.0) (take 1000 rows) (drop 1000 rows) ∙ ap (λ l. l ++ map (λ e. e.0) (drop 1000 rows)) (sym page_names))
        ∙ filter_append p (map name_in page) (map (λ e. e.0) (drop 1000 rows))

    page_tallied : (next : Option (List ℕ)) → next ≡ next_after (map name_in page) → TalliesNext test folder marker old new tree next
    page_tallied None is = subst (λ l. TalliesFiles test l old new) (ap (map name_in) (ended [] marker (files tree folder) page tells.items (sym is)) ∙ names_of rows) added
    page_tallied (Some next) is =
        let turns = turned [] marker (files tree folder) page next tells.items (sym is) in
        let enough = turns.1 in
        let here : names_after folder next tree ≡ map (λ e. e.0) (drop 1000 rows) = ap (map (λ e. e.0)) turns.0 in
        record {
          used = omega (arith, added.used, split test, ap (λ l. length (filter test l)) here);
          unused = omega (arith, added.unused, split (λ name. not (test name)), ap (λ l. length (filter (λ name. not (test name)) l)) here);
          fewer = omega (arith, enough, length-map rows (λ e. e.0), length-map (rows_after [] next (files tree folder)) (λ e. e.0), ap length turns.0, length-drop 1000 rows);
        }

  module _ {a b : History} (first : Asks (always 1) a b Any (TellsOf (TellsFiles folder [] marker)) (Ok page)) where
    pub page_counted : (new : FileCount) (next : Option (List ℕ)) → next ≡ next_after (map name_in page) → TalliesFiles test (map name_in page) old new
        → Asks (always 1) a b Any (TellsOf (TellsTallied test folder marker old)) (Ok (new, next))
    page_counted new next is added = asks_told {Q = TellsTallied test folder marker old} (λ tree has. has) (new, next) (λ tree sound has told. page_tallied new added tree told next is) first

    pub page_uncounted : (result : Result (FileCount × Option (List ℕ)) PlanFault) → IsErrAnd result (λ e. e ≡ fault.Memory) → Asks (always 1) a b Any (TellsOf (TellsTallied test folder marker old)) result
    page_uncounted result is = asks_out_of_memory (λ tree has. has) first result is

pub page_missed : (test : List ℕ → Bool) (folder marker : List ℕ) (old : FileCount) {a b : History} {f : PlanFault} → Asks (always 1) a b Any (TellsOf (TellsFiles folder [] marker)) (Err f)
    → (result : Result (FileCount × Option (List ℕ)) PlanFault) → IsErrAnd result (λ e. e ≡ f) → Asks (always 1) a b Any (TellsOf (TellsTallied test folder marker old)) result
page_missed test folder marker old first result is = asks_fault (λ tree has. has) first result is

-- ---- page by page

-- how many of the names behind a marker pass
abbrev passing_after : (List ℕ → Bool) → List ℕ → List ℕ → SwiftAccount → ℕ
passing_after p folder marker tree = length (filter p (names_after folder marker tree))

pub record TalliedSo (a b : History) (test : List ℕ → Bool) (folder marker : List ℕ) (total : FileCount) : Type 0 where
  pub idles : Idles b a.called b.called
  pub used : total.used + passing_after test folder marker (present a) ≡ passing_after test folder [] (present a)
  pub unused : total.unused + passing_after (λ name. not (test name)) folder marker (present a) ≡ passing_after (λ name. not (test name)) folder [] (present a)
  pub paid : b.called + pages (length (names_after folder marker (present a))) ≤ a.called + pages (length (names_after folder [] (present a)))

pub record TallyWalk (a b : History) (test : List ℕ → Bool) (folder marker : List ℕ) (total : FileCount) : Type 0 where
  pub on : GoesOn a b
  pub faults : b.faults ≡ a.faults
  pub settled : IsTrue a.observable → IsSettled (present a) → IsSettled (present b)
  pub so : Met Any a → TalliedSo a b test folder marker total

pub walk_none : (a : History) (test : List ℕ → Bool) (folder : List ℕ) → TallyWalk a a test folder [] no_tally
walk_none a test folder = record {
  on = goes_none a;
  faults = refl;
  settled = λ observable settled. settled;
  so = λ met. record { idles = idles_none a met.sound; used = omega arith; unused = omega arith; paid = omega arith };
}

calls_are : (tree : SwiftAccount) (folder : List ℕ) → IsConsistent tree → pages (length (names_after folder [] tree)) ≡ page_calls tree folder
calls_are tree folder sound = ap pages (ap length (all_names tree folder sound) ∙ length-map (entries (files tree folder)) (λ e. e.0) ∙ sym (len-entries (files tree folder)))

module _ {a b : History} {test : List ℕ → Bool} {folder marker : List ℕ} {total : FileCount} (walk : TallyWalk a b test folder marker total) where
  same_now : Met Any a → present b ≡ present a
  same_now met = let order = walk.on.ordered in (walk.so met).idles.same ∙ (walk.on.kept met.observable).accounts a.called (omega arith)

  met_here : Met Any a → Met Any b
  met_here met =
      let order = walk.on.ordered in
      record { observable = walk.on.observable met.observable; sound = (walk.so met).idles.quiet.sound b.called order (omega arith); has = tt }

  module _ {c : History} {told : FileCount × Option (List ℕ)} (asks : Asks (always 1) b c Any (TellsOf (TellsTallied test folder marker total)) (Ok told)) where
    later : Met Any a → Extends b.called b c
    later met = asks.grows.on.kept (walk.on.observable met.observable)

    idles_then : Met Any a → Idles c a.called c.called
    idles_then met =
        let keeps = asks.effect (met_here met) in
        idles_trans walk.on.ordered (later met) (walk.so met).idles (record { quiet = keeps.0; still = keeps.1; same = keeps.2.same })

    tells_then : Met Any a → TellsTallied test folder marker total (present a) told
    tells_then met = subst (λ tree. TellsTallied test folder marker total tree told) (same_now met) (told_here asks (met_here met)).of_account

    pub walk_more : (next : List ℕ) → told.1 ≡ Some next → TallyWalk a c test folder next told.0
    walk_more next is = record {
      on = goes_trans walk.on asks.grows.on;
      faults = asks.cause ∙ walk.faults;
      settled = λ observable settled. asks.settled (walk.on.observable observable) (walk.settled observable settled);
      so = λ met.
          let so = walk.so met in
          let before = so.paid in
          let near = asks.grows.calls in
          let tells : TalliesPage test folder marker next total told.0 (present a) = subst (TalliesNext test folder marker total told.0 (present a)) is (tells_then met) in
          let fewer = tells.fewer in
          record { idles = idles_then met; used = omega (arith, so.used, tells.used); unused = omega (arith, so.unused, tells.unused); paid = omega (arith, before, near, fewer) };
    }

    pub walk_end : told.1 ≡ None → Asks (by_account (page_calls (present a) folder)) a c Any (TellsOf (TellsTally test folder)) (Ok told.0)
    walk_end is = record {
      grows = record {
        on = goes_trans walk.on asks.grows.on;
        calls = λ met. let before = (walk.so met).paid in let near = asks.grows.calls in omega (arith, before, near, calls_are (present a) folder met.sound);
      };
      cause = asks.cause ∙ walk.faults;
      effect = λ met.
          let idles = idles_then met in
          let so = walk.so met in
          let tells : TalliesFiles test (names_after folder marker (present a)) total told.0 = subst (TalliesNext test folder marker total told.0 (present a)) is (tells_then met) in
          let all = all_names (present a) folder met.sound in
          let from : c.account_at a.called ≡ present a = ((goes_trans walk.on asks.grows.on).kept met.observable).accounts a.called (omega arith) in (
            idles.quiet,
            idles.still,
            record {
              of_account = subst (λ tree. TellsTally test folder tree told.0) (sym from) (record {
                used = omega (arith, so.used, tells.used, ap (λ l. length (filter test l)) all);
                unused = omega (arith, so.unused, tells.unused, ap (λ l. length (filter (λ name. not (test name)) l)) all);
              });
              same = idles.same;
            },
          );
      settled = λ observable settled. asks.settled (walk.on.observable observable) (walk.settled observable settled);
    }

  pub walk_fault : {c : History} {f : PlanFault} → Asks (always 1) b c Any (TellsOf (TellsTallied test folder marker total)) (Err f)
      → (result : Result FileCount PlanFault) → IsErrAnd result (λ e. e ≡ f) → Asks (by_account (page_calls (present a) folder)) a c Any (TellsOf (TellsTally test folder)) result
  walk_fault {c = c} {f = f} asks result is = subst (Asks (by_account (page_calls (present a) folder)) a c Any (TellsOf (TellsTally test folder))) (sym (err_is result f is)) (record {
    grows = record {
      on = goes_trans walk.on asks.grows.on;
      calls = λ met. let before = (walk.so met).paid in let near = asks.grows.calls in omega (arith, before, near, calls_are (present a) folder met.sound);
    };
    cause = cause_after (FileCount × Option (List ℕ)) FileCount a.faults b.faults c.faults f walk.faults asks.cause;
    effect = λ met. keeps_after (FileCount × Option (List ℕ)) FileCount (TellsTallied test folder marker total) (TellsTally test folder) b c a.called b.called c.called f walk.on.ordered
        (asks.grows.on.kept (walk.on.observable met.observable)) (walk.so met).idles (asks.effect (met_here met));
    settled = λ observable settled. asks.settled (walk.on.observable observable) (walk.settled observable settled);
  })
