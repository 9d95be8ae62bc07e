-- What the items of a container tell, taken page by page.
use Rattle.std.proofs.Common.{◌≡◌, ℕ, zero, suc, ◌+◌, ◌*◌, ◌<◌, ◌≤◌, Bool, IsTrue, true, false, List, [], ◌∷◌, ◌++◌, map, length, take, drop, get_or, is_some, Option, Some, None, Result, Ok, Err, refl, sym, ap, subst, ◌∙◌, arith, append_assoc}
use Rattle.std.specs.Result.{IsErrAnd}
use Rattle.std.specs.List.{cons_option, filter_map, list_all}
use Rattle.std.proofs.lemmas.Bool.{and_from, and_parts}
use Rattle.std.proofs.lemmas.List.{length-drop, take-append-drop, take_more}
use Rattle.std.proofs.lemmas.List.Elements.{All-contains, filter_map-append}
use Rattle.std.proofs.lemmas.List.Sums.{AllPass-from_list_all}
use Rattle.gate_base.specs.Maps.{Names}
use Rattle.swift_calls.specs.Account.{SwiftObject, SwiftAccount, files}
use Rattle.swift_calls.specs.History.{History, present, Extends}
use Rattle.swift_calls.specs.declared.heads.NameItem.{NameItem}
use Rattle.upload_records.specs.Native.{IsSettled}
use Rattle.upload_records.specs.Consistent.{IsConsistent}
use Rattle.list_pages.specs.Listing.{name_in}
use Rattle.account_calls.specs.declared.fault.PlanFault.{PlanFault}
use Rattle.account_calls.specs.declared.fault.PlanFault.TheVariants as plan
use Rattle.account_calls.specs.Answers.{pages}
use Rattle.account_calls.specs.Calls.{always, by_account, Any, Asks, GivenOf, GoesOn, Grows, Met}
use Rattle.account_calls.specs.FilePages.{item_at, rows_after, items_after, next_after, TellsFiles}
use Rattle.account_calls.specs.Listing.{TellsOf}
use Rattle.account_calls.proofs.lemmas.Ask.{asks_out_of_memory}
use Rattle.account_calls.proofs.lemmas.Faults.{err_is}
use Rattle.account_calls.proofs.lemmas.Idle.{goes_none, goes_trans}
use Rattle.account_calls.specs.Told.{Idles}
use Rattle.account_calls.proofs.lemmas.Walk.{idles_none, idles_trans, cause_after, keeps_after}
use Rattle.upload_calls.specs.Listing.{told_after, Adds, GoesOnWith, HasOdd, TellsNext}
use Rattle.account_calls.proofs.lemmas.Turned.{turned, ended}

-- ---- one item more

pub added_more : {X : Type 0} (due : NameItem → Option X) (page : List NameItem) (i : ℕ) (item : NameItem) (x : X) (before now new : List X) → now ≡ before ++ filter_map due (take i page) → new ≡ now ++ x ∷ []
    → i < length page → item ≡ get_or page i item → due item ≡ Some x → new ≡ before ++ filter_map due (take (i + 1) page)
added_more due page i item x before now new so more near is tells =
    let all : filter_map due (take (i + 1) page) ≡ filter_map due (take i page) ++ x ∷ [] =
    ap (filter_map due) (take_more page i item near) ∙ filter_map-append due (take i page) (get_or page i item ∷ [])
    ∙ ap (λ y. filter_map due (take i page) ++ filter_map due (y ∷ [])) (sym is) ∙ ap (λ o. filter_map due (take i page) ++ cons_option o []) tells in
    more ∙ ap (λ xs. xs ++ x ∷ []) so ∙ append_assoc before (filter_map due (take i page)) (x ∷ []) ∙ ap (λ xs. before ++ xs) (sym all)

drop-map : {A B : Type 0} (f : A → B) (n : ℕ) (xs : List A) → drop n (map f xs) ≡ map f (drop n xs)
drop-map f zero [] = refl
drop-map f zero (x ∷ xs) = refl
drop-map f (suc n) [] = refl
drop-map f (suc n) (x ∷ xs) = drop-map f n xs

all_take : {X : Type 0} (p : X → Bool) (n : ℕ) (xs : List X) → list_all p xs ≡ true → list_all p (take n xs) ≡ true
all_take p zero [] h = refl
all_take p zero (x ∷ xs) h = refl
all_take p (suc n) [] h = refl
all_take p (suc n) (x ∷ xs) h = let a = and_parts (p x) (list_all p xs) h in and_from _ _ a.0 (all_take p n xs a.1)

-- ---- a page

-- a page of which nothing is asked
met_any : {given : SwiftAccount → Type 0} {a : History} → Met given a → Met Any a
met_any met = record { observable = met.observable; sound = met.sound; has = tt }

grows_any : {given : SwiftAccount → Type 0} {a b : History} → Grows (always 1) Any a b → Grows (always 1) given a b
grows_any grows = record { on = grows.on; calls = grows.calls }

-- the same of texts that are handed on
pub as_page : {a b : History} {r : Result (List NameItem) PlanFault} (folder prefix marker name front behind : List ℕ) → name ≡ folder → front ≡ prefix → behind ≡ marker
    → Asks (always 1) a b Any (TellsOf (TellsFiles name front behind)) r → Asks (always 1) a b Any (TellsOf (TellsFiles folder prefix marker)) r
as_page {a = a} {b = b} {r = r} folder prefix marker name front behind named fronted from asks =
    subst {A = List ℕ × List ℕ × List ℕ} (λ x. Asks (always 1) a b Any (TellsOf (TellsFiles x.0 x.1 x.2)) r) (λ i. (named i, fronted i, from i)) asks

module _ {X : Type 0} (due : NameItem → Option X) (folder prefix marker : List ℕ) where
  module _ (tree : SwiftAccount) (told : List NameItem) (tells : TellsFiles folder prefix marker tree told) (old new : List X) (added : new ≡ old ++ filter_map due told) where
    abbrev fs : Names SwiftObject
    fs = files tree folder

    abbrev rows : List (List ℕ × SwiftObject)
    rows = rows_after prefix marker fs

    goes_on : (next : List ℕ) → next_after (map name_in told) ≡ Some next → GoesOnWith due folder prefix marker next old new tree
    goes_on next after =
        let page = turned prefix marker fs told next tells.items after in
        let left : items_after prefix next fs ≡ drop 1000 (map item_at rows) = ap (map item_at) page.0 ∙ sym (drop-map item_at 1000 rows) in
        let all : filter_map due told ++ filter_map due (items_after prefix next fs) ≡ filter_map due (items_after prefix marker fs) =
        (λ i. filter_map due (tells.items i) ++ filter_map due (left i)) ∙ sym (filter_map-append due (take 1000 (map item_at rows)) (drop 1000 (map item_at rows)))
        ∙ ap (filter_map due) (take-append-drop 1000 (map item_at rows)) in
        let enough = page.1 in
        record {
          all = ap (λ xs. xs ++ filter_map due (items_after prefix next fs)) added ∙ append_assoc old (filter_map due told) (filter_map due (items_after prefix next fs)) ∙ ap (λ xs. old ++ xs) all;
          fewer = omega (arith, ap length page.0, length-drop 1000 rows, enough);
        }

    pub tells_next : (next : Option (List ℕ)) → next ≡ next_after (map name_in told) → TellsNext due folder prefix marker old new tree next
    tells_next None is = added ∙ ap (λ page. old ++ filter_map due page) (ended prefix marker fs told tells.items (sym is))
    tells_next (Some next) is = goes_on next (sym is)

  -- an item that tells nothing, where each of them tells something
  module _ (given : SwiftAccount → Type 0) (good : (tree : SwiftAccount) → IsConsistent tree → given tree → list_all (λ item. is_some (due item)) (items_after prefix marker (files tree folder)) ≡ true) where
    none_odd : (tree : SwiftAccount) (told : List NameItem) → IsConsistent tree → given tree → TellsFiles folder prefix marker tree told → HasOdd due told → ⊥
    none_odd tree told sound has tells odd =
        let all : list_all (λ item. is_some (due item)) told ≡ true =
        ap (list_all (λ item. is_some (due item))) tells.items ∙ all_take (λ item. is_some (due item)) 1000 (items_after prefix marker (files tree folder)) (good tree sound has) in
        let k : false ≡ true = ap is_some (sym odd.odd) ∙ All-contains (λ (x : NameItem). is_some (due x) ≡ true) told odd.item (AllPass-from_list_all (λ item. is_some (due item)) told all) odd.has in
        cc

    -- what a page tells couldn't be added
    pub not_added : {a b : History} {told : List NameItem} → Asks (always 1) a b Any (TellsOf (TellsFiles folder prefix marker)) (Ok told) → (old new : List X) {Q : SwiftAccount → Option (List ℕ) → Type 0}
        (tells : NameItem → Option X) (handed : List NameItem) → tells ≡ due → handed ≡ told → (f : PlanFault) → Adds tells old new handed (Err f) → (result : Result (Option (List ℕ)) PlanFault) → IsErrAnd result (λ e. e ≡ f) → Asks (always 1) a b (GivenOf given) (TellsOf Q) result
    not_added asks old new tells handed is same plan.Failed never result gives = absurd never
    not_added asks old new tells handed is same plan.Memory done result gives = asks_out_of_memory (λ tree has. tt) asks result gives
    not_added {a = a} {b = b} {told = told} asks old new {Q = Q} tells handed is same plan.Inconsistent odd result gives = subst (Asks (always 1) a b (GivenOf given) (TellsOf Q)) (sym (err_is result plan.Inconsistent gives)) (record {
      grows = grows_any asks.grows;
      cause = asks.cause;
      effect = λ met.
          let keeps = asks.effect (met_any met) in
          let from : b.account_at a.called ≡ present a = (asks.grows.on.kept met.observable).accounts a.called (omega arith) in
          none_odd (b.account_at a.called) told (subst IsConsistent (sym from) met.sound) (subst given (sym from) met.has.is) keeps.2.of_account
          (subst {A = (NameItem → Option X) × List NameItem} (λ x. HasOdd x.0 x.1) (λ i. (is i, same i)) odd);
      settled = asks.settled;
    })

-- ---- what is given goes on

module _ (given : SwiftAccount → Type 0) {a b : History} (on : GoesOn a b) (settled : IsTrue a.observable → IsSettled (present a) → IsSettled (present b)) (idles : Idles b a.called b.called) where
  pub same_after : Met (GivenOf given) a → present b ≡ present a
  same_after met = let order = on.ordered in idles.same ∙ (on.kept met.observable).accounts a.called (omega arith)

  pub met_after : Met (GivenOf given) a → Met (GivenOf given) b
  met_after met =
      let order = on.ordered in
      record {
        observable = on.observable met.observable;
        sound = idles.quiet.sound b.called order (omega arith);
        has = record { settled = settled met.observable met.has.settled; is = subst given (sym (same_after met)) met.has.is };
      }

-- ---- page by page

-- so far what is told behind the first marker is taken up to the last one
pub record TakenSo {X : Type 0} (a b : History) (due : NameItem → Option X) (folder prefix first last : List ℕ) (taken : List X) : Type 0 where
  pub count : ℕ
  pub calls : b.called ≤ a.called + count
  pub idles : Idles b a.called b.called
  pub all : taken ++ told_after due folder prefix last (present a) ≡ told_after due folder prefix first (present a)
  pub fewer : length (rows_after prefix last (files (present a) folder)) + 1000 * count ≤ length (rows_after prefix first (files (present a) folder))

pub record Taking {X : Type 0} (a b : History) (given : SwiftAccount → Type 0) (due : NameItem → Option X) (folder prefix first last : List ℕ) (taken : List X) : Type 0 where
  pub on : GoesOn a b
  pub faults : b.faults ≡ a.faults
  pub settled : IsTrue a.observable → IsSettled (present a) → IsSettled (present b)
  pub so : Met (GivenOf given) a → TakenSo a b due folder prefix first last taken

pub taking_none : {X : Type 0} (a : History) (given : SwiftAccount → Type 0) (due : NameItem → Option X) (folder prefix first last : List ℕ) (taken : List X) → last ≡ first → taken ≡ []
    → Taking a a given due folder prefix first last taken
taking_none a given due folder prefix first last taken begins none = record {
  on = goes_none a;
  faults = refl;
  settled = λ observable settled. settled;
  so = λ met. record {
    count = 0;
    calls = omega arith;
    idles = idles_none a met.sound;
    all = λ i. none i ++ told_after due folder prefix (begins i) (present a);
    fewer = omega (arith, ap (λ m. length (rows_after prefix m (files (present a) folder))) begins);
  };
}

module _ {X : Type 0} {a b : History} {given : SwiftAccount → Type 0} {due : NameItem → Option X} {folder prefix first last : List ℕ} {taken : List X} (walked : Taking a b given due folder prefix first last taken) where
  met_here : Met (GivenOf given) a → Met (GivenOf given) b
  met_here met = met_after given walked.on walked.settled (walked.so met).idles met

  module _ {new : List X} {c : History} {told : Option (List ℕ)} (asks : Asks (always 1) b c (GivenOf given) (TellsOf (TellsNext due folder prefix last taken new)) (Ok told)) where
    later : Met (GivenOf given) a → Extends b.called b c
    later met = asks.grows.on.kept (walked.on.observable met.observable)

    idles_then : Met (GivenOf given) a → Idles c a.called c.called
    idles_then met =
        let keeps = asks.effect (met_here met) in
        idles_trans walked.on.ordered (later met) (walked.so met).idles (record { quiet = keeps.0; still = keeps.1; same = keeps.2.same })

    tells_then : Met (GivenOf given) a → TellsNext due folder prefix last taken new (present a) told
    tells_then met =
        let keeps = asks.effect (met_here met) in
        subst (λ tree. TellsNext due folder prefix last taken new tree told) ((later met).accounts b.called (omega arith) ∙ same_after given walked.on walked.settled (walked.so met).idles met) keeps.2.of_account

    -- a page, and more behind it
    pub taking_more : (next : List ℕ) → told ≡ Some next → Taking a c given due folder prefix first next new
    taking_more next is = record {
      on = goes_trans walked.on asks.grows.on;
      faults = asks.cause ∙ walked.faults;
      settled = λ observable settled. asks.settled (walked.on.observable observable) (walked.settled observable settled);
      so = λ met.
          let so = walked.so met in
          let tells = subst (TellsNext due folder prefix last taken new (present a)) is (tells_then met) in
          let calls = asks.grows.calls in
          let before = so.calls in
          let fewer = so.fewer in
          let more = tells.fewer in
          record {
            count = so.count + 1;
            calls = omega (arith, calls, before);
            idles = idles_then met;
            all = tells.all ∙ so.all;
            fewer = omega (arith, fewer, more);
          };
    }

    -- the last page that is asked for, where no more rows than so many stand behind the first marker
    pub taking_end : {Y : Type 0} (P : SwiftAccount → Y → Type 0) (n : ℕ) (y : Y) → length (rows_after prefix first (files (present a) folder)) ≤ n
        → ((tree : SwiftAccount) → IsConsistent tree → given tree → TellsNext due folder prefix last taken new tree told → taken ++ told_after due folder prefix last tree ≡ told_after due folder prefix first tree → P tree y)
        → Asks (by_account (pages n)) a c (GivenOf given) (TellsOf P) (Ok y)
    taking_end P n y within told_is = record {
      grows = record {
        on = goes_trans walked.on asks.grows.on;
        calls = λ met.
            let so = walked.so met in
            let calls = asks.grows.calls in
            let before = so.calls in
            let fewer = so.fewer in
            omega (arith, calls, before, fewer, within);
      };
      cause = asks.cause ∙ walked.faults;
      effect = λ met.
          let idles = idles_then met in
          let from : c.account_at a.called ≡ present a = ((goes_trans walked.on asks.grows.on).kept met.observable).accounts a.called (omega arith) in
          (idles.quiet, idles.still, record { of_account = subst (λ tree. P tree y) (sym from) (told_is (present a) met.sound met.has.is (tells_then met) (walked.so met).all); same = idles.same });
      settled = λ observable settled. asks.settled (walked.on.observable observable) (walked.settled observable settled);
    }

  -- a page that wasn't added
  pub taking_fault : {T Y : Type 0} {Q : SwiftAccount → T → Type 0} {c : History} {f : PlanFault} → Asks (always 1) b c (GivenOf given) (TellsOf Q) (Err f) → (P : SwiftAccount → Y → Type 0) (n : ℕ)
      → length (rows_after prefix first (files (present a) folder)) ≤ n → (result : Result Y PlanFault) → IsErrAnd result (λ e. e ≡ f) → Asks (by_account (pages n)) a c (GivenOf given) (TellsOf P) result
  taking_fault {T = T} {Y = Y} {Q = Q} {c = c} {f = f} asks P n within result is = subst (Asks (by_account (pages n)) a c (GivenOf given) (TellsOf P)) (sym (err_is result f is)) (record {
    grows = record {
      on = goes_trans walked.on asks.grows.on;
      calls = λ met.
          let so = walked.so met in
          let calls = asks.grows.calls in
          let before = so.calls in
          let fewer = so.fewer in
          omega (arith, calls, before, fewer, within);
    };
    cause = cause_after T Y a.faults b.faults c.faults f walked.faults asks.cause;
    effect = λ met. keeps_after T Y Q P b c a.called b.called c.called f walked.on.ordered (asks.grows.on.kept (walked.on.observable met.observable)) (walked.so met).idles (asks.effect (met_here met));
    settled = λ observable settled. asks.settled (walked.on.observable observable) (walked.settled observable settled);
  })
