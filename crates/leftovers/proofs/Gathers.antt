-- What is gathered of the files of a container: item by item, and page by page.
use Rattle.std.specs.Prelude.{◌≡◌, ◌≤◌, ◌<◌, ◌+◌, ◌*◌, ℕ, zero, suc, Bool, true, false, cond, ◌&&◌, ◌||◌, bytes_eq, IsTrue, List, [], ◌∷◌, ◌++◌, map, length, take, drop, get_or, is_some, Option, None, Some, Result, Ok, Err}
use Rattle.std.specs.Result.{IsErrAnd}
use Rattle.std.specs.List.{AllByRecursion, filter}
use Rattle.std.specs.FinMap.{empty, entries, get, insert, len-entries}
use Rattle.std.proofs.lemmas.Map.Text.{is_eq-slice_cmp}
use Rattle.slo_manifest.specs.declared.Segment.{Segment}
use Rattle.std.proofs.Common.{refl, sym, ap, subst, ◌∙◌, inl, inr, arith}
use Rattle.std.proofs.lemmas.List.{length-drop, length-map, length-take, map-append, take-map, take_all, take_more}
use Rattle.std.proofs.lemmas.List.Folds.{list_any-append}
use Rattle.gate_base.specs.Maps.{Names, name_cmp}
use Rattle.std.specs.Ordering.{is_lt}
use Rattle.gate_base.proofs.lemmas.Maps.{by_name, get_empty, key_itself, apart_back, same_key, at_insert, off_insert}
use Rattle.s3_machine.specs.Items.{begins, with_prefix}
use Rattle.swift_calls.specs.Account.{SwiftAccount, SwiftObject, files}
use Rattle.swift_calls.specs.History.{History, present, Extends}
use Rattle.swift_calls.specs.declared.heads.NameItem.{NameItem}
use Rattle.list_pages.specs.Listing.{name_in}
use Rattle.upload_records.specs.Native.{IsSettled}
use Rattle.upload_records.specs.Consistent.{IsConsistent}
use Rattle.account_calls.specs.declared.fault.PlanFault.{PlanFault}
use Rattle.account_calls.specs.declared.fault.PlanFault.TheVariants as fault
use Rattle.account_calls.specs.Answers.{pages}
use Rattle.account_calls.specs.Calls.{always, by_account, Any, Asks, GoesOn, Grows, Met}
use Rattle.account_calls.specs.FilePages.{item_at, items_after, next_after, rows_after, TellsFiles}
use Rattle.account_calls.specs.Listing.{TellsOf}
use Rattle.account_calls.proofs.lemmas.Ask.{asks_told}
use Rattle.account_calls.proofs.lemmas.Faults.{err_is}
use Rattle.account_calls.proofs.lemmas.Idle.{goes_none, goes_trans}
use Rattle.account_calls.proofs.lemmas.Markers.{IsEntry, entries_are}
use Rattle.account_calls.proofs.lemmas.Quiet.{asks_failed, asks_no_memory, asks_then, asks_under, told_here}
use Rattle.account_calls.specs.Told.{Idles}
use Rattle.account_calls.proofs.lemmas.Walk.{idles_none, idles_trans, cause_after, keeps_after}
use Rattle.leftovers.proofs.lemmas.FileNames.{all_names, names_of}
use Rattle.leftovers.proofs.lemmas.Lists.{at_place, halves, take_zero}
use Rattle.account_calls.proofs.lemmas.Turned.{turned, ended}
use Rattle.leftovers.specs.declared.gathering.Source.{Source}
use Rattle.leftovers.specs.declared.gathering.Source.TheVariants.{Records, Objects}
use Rattle.leftovers.specs.Leftovers.{is_named_in, is_open}
use Rattle.upload_records.specs.Layout.{uploads_name}
use Rattle.upload_records.specs.Native.{record_at}
use Rattle.leftovers.specs.Gathering.{any_adds, calls_a_file, folder_of, gather_after, gather_calls, gather_left, HasItem, HasItems, InBucket, IsItemOf, names_after, PaysGathering, TellsAdded, TellsAll, TellsGathered, TellsOpen}
use Rattle.s3_names.specs.Bucket.{is_bucket}
use Rattle.swift_calls.specs.Step.{IsContainerName}
use Rattle.account_calls.proofs.lemmas.Names.{container_name}
use Rattle.account_calls.proofs.lemmas.SideNames.{uploads_fits}
use Rattle.leftovers.proofs.lemmas.Readings.{asks_idle}

-- ---- calls that leave the account, one after the other

pub reads_then : {T U : Type 0} {n m most : ℕ} {a b c : History} {given rest : SwiftAccount → Type 0} {P : SwiftAccount → T → Type 0} {Q R : SwiftAccount → U → Type 0} {x : T} {result : Result U PlanFault} → n + m ≤ most
    → Asks (always n) a b given (TellsOf P) (Ok x) → Asks (always m) b c rest (TellsOf Q) result
    → ((tree : SwiftAccount) → IsConsistent tree → given tree → P tree x → rest tree)
    → ((tree : SwiftAccount) (y : U) → IsConsistent tree → given tree → P tree x → Q tree y → R tree y)
    → Asks (always most) a c given (TellsOf R) result
reads_then {rest = rest} {Q = Q} within first then gives tells =
    asks_then within first then
    (λ old new sound same has told. subst rest (sym told.same) (gives old sound has told.of_account))
    (λ old new last y sound has told next. record { of_account = tells old y sound has told.of_account (subst (λ tree. Q tree y) told.same next.of_account); same = next.same ∙ told.same })

-- ---- lists

pub or_end : (t : Bool) → (t || false) ≡ t
or_end true = refl
or_end false = refl

and_false : (t : Bool) → (t && false) ≡ false
and_false true = refl
and_false false = refl

and_true : (t : Bool) → (t && true) ≡ t
and_true true = refl
and_true false = refl

pub or_assoc : (s t u : Bool) → ((s || t) || u) ≡ (s || (t || u))
or_assoc true t u = refl
or_assoc false t u = refl

take_within : {X : Type 0} (i : ℕ) (xs : List X) → i ≤ length xs → length (take i xs) ≡ i
take_within i xs near = omega (arith, near, length-take i xs)

-- ---- one text more

pub or_true_first : (t : Bool) → (t || true) ≡ true
or_true_first true = refl
or_true_first false = refl

pub put_adds : (t : Names Bool) (name text : List ℕ) → is_some (get (insert t name true) text) ≡ (is_some (get t text) || bytes_eq name text)
put_adds t name text = elim (same_key by_name text name) [
  | inl e ↦
      ap (λ n. is_some (get (insert t name true) n)) e ∙ ap is_some (at_insert by_name t name true) ∙ sym (or_true_first (is_some (get t text)))
      ∙ ap (λ b. is_some (get t text) || b) (sym (ap (bytes_eq name) e ∙ sym (is_eq-slice_cmp name name) ∙ key_itself by_name name))
  | inr a ↦
      ap is_some (off_insert by_name t name true text a) ∙ sym (or_end (is_some (get t text)))
      ∙ ap (λ b. is_some (get t text) || b) (sym (sym (is_eq-slice_cmp name text) ∙ apart_back by_name text name a))
]

-- the names of the first segments were added
abbrev pub AddedSo : Names Bool → Names Bool → List Segment → ℕ → Type 0
AddedSo old new segments i = (text : List ℕ) → is_some (get new text) ≡ (is_some (get old text) || is_named_in text (take i segments))

pub added_none : (old : Names Bool) (segments : List Segment) → AddedSo old old segments 0
added_none old segments text = sym (or_end (is_some (get old text))) ∙ ap (λ l. is_some (get old text) || is_named_in text l) (sym (take_zero segments))

pub added_more : (old now new : Names Bool) (segments : List Segment) (i : ℕ) (s : Segment) (name : List ℕ) → name ≡ s.name → i < length segments → s ≡ get_or segments i s → AddedSo old now segments i → new ≡ insert now name true → AddedSo old new segments (i + 1)
added_more old now new segments i s name named within is so grown text =
    let more : take (i + 1) segments ≡ take i segments ++ s ∷ [] = take_more segments i s within ∙ ap (λ x. take i segments ++ x ∷ []) (sym is) in
    ap (λ t. is_some (get t text)) grown ∙ put_adds now name text ∙ (λ j. so text j || bytes_eq (named j) text)
    ∙ or_assoc (is_some (get old text)) (is_named_in text (take i segments)) (bytes_eq s.name text)
    ∙ ap (λ b. is_some (get old text) || b)
    (ap (λ b. is_named_in text (take i segments) || b) (sym (or_end (bytes_eq s.name text)))
    ∙ sym (ap (is_named_in text) more ∙ list_any-append (λ (x : Segment). bytes_eq x.name text) (take i segments) (s ∷ [])))

pub added_all : (old new : Names Bool) (segments : List Segment) (i : ℕ) → length segments ≤ i → AddedSo old new segments i → (text : List ℕ) → is_some (get new text) ≡ (is_some (get old text) || is_named_in text segments)
added_all old new segments i far so text = so text ∙ ap (λ l. is_some (get old text) || is_named_in text l) (take_all i segments far)

-- ---- what one file adds

-- a record that isn't open adds nothing
pub record_passed : (tree : SwiftAccount) (bucket name : List ℕ) (t : Names Bool) (told : Bool) → told ≡ false → TellsOpen bucket name tree told → TellsAdded Records bucket (name ∷ []) t t tree tt
record_passed tree bucket name t told not tells text =
    let closed : is_open (record_at (files tree (uploads_name bucket)) name) ≡ false = sym tells ∙ not in
    sym (or_end (is_some (get t text))) ∙ ap (λ b. is_some (get t text) || b) (sym (ap (λ o. (bytes_eq name text && o) || false) closed ∙ or_end (bytes_eq name text && false) ∙ and_false (bytes_eq name text)))

-- one that is adds its name
pub record_added : (tree : SwiftAccount) (bucket name key : List ℕ) (t new : Names Bool) (told : Bool) → told ≡ true → TellsOpen bucket name tree told → key ≡ name → new ≡ insert t key true → TellsAdded Records bucket (name ∷ []) t new tree tt
record_added tree bucket name key t new told so tells keyed grown text =
    let opened : is_open (record_at (files tree (uploads_name bucket)) name) ≡ true = sym tells ∙ so in
    ap (λ x. is_some (get x text)) grown ∙ put_adds t key text ∙ ap (λ k. is_some (get t text) || bytes_eq k text) keyed
    ∙ ap (λ b. is_some (get t text) || b) (sym (ap (λ o. (bytes_eq name text && o) || false) opened ∙ or_end (bytes_eq name text && true) ∙ and_true (bytes_eq name text)))

-- ---- item by item

module _ (source : Source) (folder bucket : List ℕ) (items : List NameItem) (old : Names Bool) where
  abbrev pub Adding : History → History → ℕ → Names Bool → Type 0
  Adding a b i table = Asks (always (calls_a_file * i)) a b (HasItems folder bucket items) (TellsOf (TellsAdded source bucket (map name_in (take i items)) old table)) (Ok tt)

  pub adding_none : (a : History) → Adding a a 0 old
  adding_none a = asks_idle (always (calls_a_file * 0)) a tt (λ tree sound has text. sym (or_end (is_some (get old text))) ∙ ap (λ l. is_some (get old text) || any_adds source tree bucket text (map name_in l)) (sym (take_zero items)))

  module _ {a b : History} {i : ℕ} (table : Names Bool) (adding : Adding a b i table) (item : NameItem) (within : i < length items) (is : item ≡ get_or items i item) where
    here : (tree : SwiftAccount) → HasItems folder bucket items tree → HasItem folder bucket item tree
    here tree has = record { there = has.there; is = at_place (IsItemOf (files tree folder)) items i item within is has.are }

    names_more : map name_in (take (i + 1) items) ≡ map name_in (take i items) ++ item.name ∷ []
    names_more = ap (map name_in) (take_more items i item within ∙ ap (λ x. take i items ++ x ∷ []) (sym is)) ∙ map-append name_in (take i items) (item ∷ [])

    pub adding_more : {c : History} (new : Names Bool) → Asks (always calls_a_file) b c (HasItem folder bucket item) (TellsOf (TellsAdded source bucket (item.name ∷ []) table new)) (Ok tt) → Adding a c (i + 1) new
    adding_more new one = reads_then (omega arith) adding one (λ tree sound has told. here tree has)
        (λ tree done sound has first then text.
        then text ∙ ap (λ t. t || any_adds source tree bucket text (item.name ∷ [])) (first text)
        ∙ or_assoc (is_some (get old text)) (any_adds source tree bucket text (map name_in (take i items))) (any_adds source tree bucket text (item.name ∷ []))
        ∙ ap (λ t. is_some (get old text) || t) (sym (ap (any_adds source tree bucket text) names_more ∙ list_any-append _ (map name_in (take i items)) (item.name ∷ []))))

    pub adding_fault : {c : History} (new : Names Bool) {f : PlanFault} {Q : SwiftAccount → Unit {0} → Type 0} → Asks (always calls_a_file) b c (HasItem folder bucket item) (TellsOf Q) (Err f) → (result : Result (Unit {0}) PlanFault) → IsErrAnd result (λ e. e ≡ f)
        → Asks (always (calls_a_file * length items)) a c (HasItems folder bucket items) (TellsOf (TellsAdded source bucket (map name_in items) old new)) result
    adding_fault {c = c} new {f = f} one result gives =
        subst (Asks (always (calls_a_file * length items)) a c (HasItems folder bucket items) (TellsOf (TellsAdded source bucket (map name_in items) old new))) (sym (err_is result f gives))
        (reads_then {m = calls_a_file} (omega (arith, within)) adding (asks_failed {R = TellsOf (λ tree done. ⊥)} (omega arith) one (Err f) refl) (λ tree sound has told. here tree has) (λ tree done sound has first never. absurd never))

  pub adding_all : {a b : History} {i : ℕ} (table : Names Bool) → i ≤ length items → length items ≤ i → Adding a b i table → Asks (always (calls_a_file * length items)) a b (HasItems folder bucket items) (TellsOf (TellsAdded source bucket (map name_in items) old table)) (Ok tt)
  adding_all {a = a} {b = b} {i = i} table near far adding =
      let e : i ≡ length items = omega (arith, near, far) in
      subst (λ n. Asks (always (calls_a_file * n)) a b (HasItems folder bucket items) (TellsOf (TellsAdded source bucket (map name_in items) old table)) (Ok tt)) e
      (subst (λ l. Asks (always (calls_a_file * i)) a b (HasItems folder bucket items) (TellsOf (TellsAdded source bucket (map name_in l) old table)) (Ok tt)) (take_all i items far) adding)

-- ---- the items of a page

entry_is : (fs : Names SwiftObject) (e : List ℕ × SwiftObject) → IsEntry fs e → IsItemOf fs (item_at e)
entry_is fs e found = record { file = e.1; found = found; is = refl }

all_items : (fs : Names SwiftObject) (es : List (List ℕ × SwiftObject)) → AllByRecursion (IsEntry fs) es → AllByRecursion (IsItemOf fs) (map item_at es)
all_items fs [] h = tt
all_items fs (e ∷ es) h = (entry_is fs e h.0, all_items fs es h.1)

all_filter : {X : Type 0} (P : X → Type 0) (p : X → Bool) (xs : List X) → AllByRecursion P xs → AllByRecursion P (filter p xs)
all_filter P p [] h = tt
all_filter P p (x ∷ xs) h = elim (p x) as (λ t. AllByRecursion P (cond t (x ∷ filter p xs) (filter p xs))) [ true ↦ (h.0, all_filter P p xs h.1) | false ↦ all_filter P p xs h.1 ]

all_take : {X : Type 0} (P : X → Type 0) (n : ℕ) (xs : List X) → AllByRecursion P xs → AllByRecursion P (take n xs)
all_take P zero [] h = tt
all_take P zero (x ∷ xs) h = tt
all_take P (suc n) [] h = tt
all_take P (suc n) (x ∷ xs) h = (h.0, all_take P n xs h.1)

pub items_are : (folder marker : List ℕ) (tree : SwiftAccount) (told : List NameItem) → TellsFiles folder [] marker tree told → AllByRecursion (IsItemOf (files tree folder)) told
items_are folder marker tree told tells =
    let fs = files tree folder in
    subst (AllByRecursion (IsItemOf fs)) (sym tells.items)
    (all_take (IsItemOf fs) 1000 (items_after [] marker fs) (all_items fs (rows_after [] marker fs) (all_filter (IsEntry fs) (λ (e : List ℕ × SwiftObject). is_lt (name_cmp marker e.0)) (with_prefix [] (entries fs)) (all_filter (IsEntry fs) (λ (e : List ℕ × SwiftObject). begins [] e.0) (entries fs) (entries_are fs)))))

-- ---- a page

module _ (source : Source) (folder bucket marker : List ℕ) (page : List NameItem) (old new : Names Bool) where
  module _ (tree : SwiftAccount) (tells : TellsFiles folder [] marker tree page) (added : TellsAdded source bucket (map name_in page) old new tree tt) where
    abbrev rows : List (List ℕ × SwiftObject)
    rows = rows_after [] marker (files tree folder)

    page_names : map name_in page ≡ map (λ e. e.0) (take 1000 rows)
    page_names = ap (map name_in) (tells.items ∙ take-map item_at 1000 rows) ∙ names_of (take 1000 rows)

    split : (text : List ℕ) → any_adds source tree bucket text (names_after folder marker tree) ≡ (any_adds source tree bucket text (map name_in page) || any_adds source tree bucket text (map (λ e. e.0) (drop 1000 rows)))
    split text =
        ap (λ rs. any_adds source tree bucket text (map (λ (e : List ℕ × SwiftObject). e.0) rs)) (sym (halves 1000 rows))
        ∙ ap (any_adds source tree bucket text) (map-append (λ e. e.0) (take 1000 rows) (drop 1000 rows) ∙ ap (λ l. l ++ map (λ e. e.0) (drop 1000 rows)) (sym page_names))
        ∙ list_any-append _ (map name_in page) (map (λ e. e.0) (drop 1000 rows))

    pub page_gathered : (next : Option (List ℕ)) → next ≡ next_after (map name_in page) → TellsGathered source folder bucket marker old new tree next
    page_gathered None is = λ text.
        added text ∙ ap (λ l. is_some (get old text) || any_adds source tree bucket text l) (ap (map name_in) (ended [] marker (files tree folder) page tells.items (sym is)) ∙ names_of rows)
    page_gathered (Some next) is =
        let turns = turned [] marker (files tree folder) page next tells.items (sym is) in
        let enough = turns.1 in
        record {
          all = λ text.
              (λ i. added text i || any_adds source tree bucket text (map (λ (e : List ℕ × SwiftObject). e.0) (turns.0 i)))
              ∙ or_assoc (is_some (get old text)) (any_adds source tree bucket text (map name_in page)) (any_adds source tree bucket text (map (λ e. e.0) (drop 1000 rows)))
              ∙ ap (λ t. is_some (get old text) || t) (sym (split text));
          fewer = omega (arith, enough, length-map rows (λ e. e.0), length-map (rows_after [] next (files tree folder)) (λ e. e.0), ap length turns.0, length-drop 1000 rows);
        }

  module _ {a b : History} (first : Asks (always 1) a b Any (TellsOf (TellsFiles folder [] marker)) (Ok page)) where
    listed : Asks (always 1) a b (InBucket bucket) (TellsOf (TellsFiles folder [] marker)) (Ok page)
    listed = asks_under (λ tree has. tt) first

    few_here : Met (InBucket bucket) a → length page ≤ length (names_after folder marker (present a))
    few_here met =
        let items = (told_here listed met).of_account.items in
        omega (arith, ap length items, length-take 1000 (items_after [] marker (files (present a) folder)), length-map (rows_after [] marker (files (present a) folder)) item_at, length-map (rows_after [] marker (files (present a) folder)) (λ e. e.0))

    pub gather_no_memory : (result : Result (Option (List ℕ)) PlanFault) → IsErrAnd result (λ e. e ≡ fault.Memory) → Asks (always 11001) a b (InBucket bucket) (TellsOf (TellsGathered source folder bucket marker old new)) result
    gather_no_memory result is = asks_no_memory (omega arith) listed result is

    module _ {c : History} (within : length page ≤ 1000) where
      pub gather_more : (next : Option (List ℕ)) → next ≡ next_after (map name_in page) → Asks (always (calls_a_file * length page)) b c (HasItems folder bucket page) (TellsOf (TellsAdded source bucket (map name_in page) old new)) (Ok tt)
          → Asks (always 11001) a c (InBucket bucket) (TellsOf (TellsGathered source folder bucket marker old new)) (Ok next)
      gather_more next is then =
          reads_then {m = calls_a_file * length page} (omega (arith, within)) listed (given_next next then)
          (λ tree sound there tells. record { there = there; are = items_are folder marker tree page tells })
          (λ tree y sound there tells added. subst (TellsGathered source folder bucket marker old new tree) (sym added.1) (page_gathered tree tells added.0 next is))
        where
          given_next : (next : Option (List ℕ)) → Asks (always (calls_a_file * length page)) b c (HasItems folder bucket page) (TellsOf (TellsAdded source bucket (map name_in page) old new)) (Ok tt)
              → Asks (always (calls_a_file * length page)) b c (HasItems folder bucket page) (TellsOf (λ tree y. TellsAdded source bucket (map name_in page) old new tree tt × (y ≡ next))) (Ok next)
          given_next next then = asks_told (λ tree has. has) next (λ tree sound has told. (told, refl)) then

      pub gather_broken : {f : PlanFault} {Q : SwiftAccount → Unit {0} → Type 0} → Asks (always (calls_a_file * length page)) b c (HasItems folder bucket page) (TellsOf Q) (Err f) → (result : Result (Option (List ℕ)) PlanFault) → IsErrAnd result (λ e. e ≡ f)
          → Asks (always 11001) a c (InBucket bucket) (TellsOf (TellsGathered source folder bucket marker old new)) result
      gather_broken then result gives =
          reads_then {m = calls_a_file * length page} (omega (arith, within)) listed (asks_failed {R = TellsOf (λ tree y. ⊥)} (omega arith) then result gives)
          (λ tree sound there tells. record { there = there; are = items_are folder marker tree page tells }) (λ tree y sound there tells never. absurd never)

    -- ---- what it pays

    module _ {given : SwiftAccount → Type 0} {c : History} (grows : Grows (always (calls_a_file * length page)) given b c) where
      gathers_so_far : Met (InBucket bucket) a → c.called ≤ a.called + gather_after (present a) folder marker
      gathers_so_far met = let few = few_here met in let near = first.grows.calls in let far = grows.calls in omega (arith, few, near, far)

      pub gather_pays_broken : (f : PlanFault) (result : Result (Option (List ℕ)) PlanFault) → IsErrAnd result (λ e. e ≡ f) → PaysGathering folder bucket marker a c result
      gather_pays_broken f (Ok next) is = absurd is
      gather_pays_broken f (Err e) is = λ met. let paid = gathers_so_far met in omega (arith, paid)

      pub gather_pays : length page ≤ 1000 → (next : Option (List ℕ)) → Asks (always 11001) a c (InBucket bucket) (TellsOf (TellsGathered source folder bucket marker old new)) (Ok next) → PaysGathering folder bucket marker a c (Ok next)
      gather_pays within None asks = λ met. let paid = gathers_so_far met in omega (arith, paid)
      gather_pays within (Some next) asks = λ met.
          let told = (told_here asks met).of_account in
          let fewer = told.fewer in
          let near = first.grows.calls in
          let far = grows.calls in
          omega (arith, fewer, near, far, within)

-- the page wasn't had
module _ {a b : History} {folder marker : List ℕ} (source : Source) (bucket : List ℕ) (old new : Names Bool) {f : PlanFault} (first : Asks (always 1) a b Any (TellsOf (TellsFiles folder [] marker)) (Err f))
    (result : Result (Option (List ℕ)) PlanFault) (is : IsErrAnd result (λ e. e ≡ f)) where
  pub gather_failed : Asks (always 11001) a b (InBucket bucket) (TellsOf (TellsGathered source folder bucket marker old new)) result
  gather_failed = asks_failed {given = InBucket bucket} (omega arith) (asks_under (λ tree has. tt) first) result is

  pub gather_pays_failed : PaysGathering folder bucket marker a b result
  gather_pays_failed = by result is
    where
      by : (result : Result (Option (List ℕ)) PlanFault) → IsErrAnd result (λ e. e ≡ f) → PaysGathering folder bucket marker a b result
      by (Ok next) is = absurd is
      by (Err f) is = λ met. let near = first.grows.calls in omega (arith, near)

-- ---- page by page

pub record GatheredSo (a b : History) (source : Source) (folder bucket marker : List ℕ) (table : Names Bool) : Type 0 where
  pub idles : Idles b a.called b.called
  pub all : (text : List ℕ) → (is_some (get table text) || any_adds source (present a) bucket text (names_after folder marker (present a))) ≡ any_adds source (present a) bucket text (names_after folder [] (present a))
  pub paid : b.called + gather_after (present a) folder marker ≤ a.called + gather_after (present a) folder []

pub record Gathering (a b : History) (source : Source) (folder bucket marker : List ℕ) (table : Names Bool) : Type 0 where
  pub on : GoesOn a b
  pub faults : b.faults ≡ a.faults
  pub settled : IsTrue a.observable → IsSettled (present a) → IsSettled (present b)
  pub so : Met (InBucket bucket) a → GatheredSo a b source folder bucket marker table

none_there : (text : List ℕ) → is_some (get (let none : Names Bool = empty in none) text) ≡ false
none_there text = ap is_some (get_empty by_name text)

pub gathering_none : (a : History) (source : Source) (folder bucket : List ℕ) → Gathering a a source folder bucket [] empty
gathering_none a source folder bucket = record {
  on = goes_none a;
  faults = refl;
  settled = λ observable settled. settled;
  so = λ met. record {
    idles = idles_none a met.sound;
    all = λ text. ap (λ t. t || any_adds source (present a) bucket text (names_after folder [] (present a))) (none_there text);
    paid = omega arith;
  };
}

calls_are : (tree : SwiftAccount) (folder : List ℕ) → IsConsistent tree → gather_after tree folder [] ≡ gather_calls tree folder
calls_are tree folder sound = ap (λ n. pages n + calls_a_file * n) (ap length (all_names tree folder sound) ∙ length-map (entries (files tree folder)) (λ e. e.0) ∙ sym (len-entries (files tree folder)))

module _ {a b : History} {source : Source} {folder bucket marker : List ℕ} {table : Names Bool} (gathering : Gathering a b source folder bucket marker table) where
  same_now : Met (InBucket bucket) a → present b ≡ present a
  same_now met = let order = gathering.on.ordered in (gathering.so met).idles.same ∙ (gathering.on.kept met.observable).accounts a.called (omega arith)

  met_here : Met (InBucket bucket) a → Met (InBucket bucket) b
  met_here met =
      let order = gathering.on.ordered in
      record {
        observable = gathering.on.observable met.observable;
        sound = (gathering.so met).idles.quiet.sound b.called order (omega arith);
        has = subst (InBucket bucket) (sym (same_now met)) met.has;
      }

  module _ {c : History} {new : Names Bool} {told : Option (List ℕ)} (asks : Asks (always 11001) b c (InBucket bucket) (TellsOf (TellsGathered source folder bucket marker table new)) (Ok told)) (pays : PaysGathering folder bucket marker b c (Ok told)) where
    later : Met (InBucket bucket) a → Extends b.called b c
    later met = asks.grows.on.kept (gathering.on.observable met.observable)

    idles_then : Met (InBucket bucket) a → Idles c a.called c.called
    idles_then met =
        let keeps = asks.effect (met_here met) in
        idles_trans gathering.on.ordered (later met) (gathering.so met).idles (record { quiet = keeps.0; still = keeps.1; same = keeps.2.same })

    tells_then : Met (InBucket bucket) a → TellsGathered source folder bucket marker table new (present a) told
    tells_then met = subst (λ tree. TellsGathered source folder bucket marker table new tree told) (same_now met) (told_here asks (met_here met)).of_account

    pays_then : Met (InBucket bucket) a → c.called + gather_left (present a) folder told ≤ b.called + gather_after (present a) folder marker
    pays_then met = subst (λ tree. c.called + gather_left tree folder told ≤ b.called + gather_after tree folder marker) (same_now met) (pays (met_here met))

    pub gathering_more : (next : List ℕ) → told ≡ Some next → Gathering a c source folder bucket next new
    gathering_more next is = record {
      on = goes_trans gathering.on asks.grows.on;
      faults = asks.cause ∙ gathering.faults;
      settled = λ observable settled. asks.settled (gathering.on.observable observable) (gathering.settled observable settled);
      so = λ met.
          let so = gathering.so met in
          let before = so.paid in
          let page : c.called + gather_after (present a) folder next ≤ b.called + gather_after (present a) folder marker =
          subst (λ t. c.called + gather_left (present a) folder t ≤ b.called + gather_after (present a) folder marker) is (pays_then met) in
          let tells = subst (TellsGathered source folder bucket marker table new (present a)) is (tells_then met) in
          record { idles = idles_then met; all = λ text. tells.all text ∙ so.all text; paid = omega (arith, before, page) };
    }

    pub gathering_end : told ≡ None → Asks (by_account (gather_calls (present a) folder)) a c (InBucket bucket) (TellsOf (TellsAll source folder bucket)) (Ok new)
    gathering_end is = record {
      grows = record {
        on = goes_trans gathering.on asks.grows.on;
        calls = λ met.
            let before = (gathering.so met).paid in
            let page : c.called + 0 ≤ b.called + gather_after (present a) folder marker =
            subst (λ t. c.called + gather_left (present a) folder t ≤ b.called + gather_after (present a) folder marker) is (pays_then met) in
            omega (arith, before, page, calls_are (present a) folder met.sound);
      };
      cause = asks.cause ∙ gathering.faults;
      effect = λ met.
          let idles = idles_then met in
          let tells = subst (TellsGathered source folder bucket marker table new (present a)) is (tells_then met) in
          let from : c.account_at a.called ≡ present a = ((goes_trans gathering.on asks.grows.on).kept met.observable).accounts a.called (omega arith) in (
            idles.quiet,
            idles.still,
            record {
              of_account = subst (λ tree. TellsAll source folder bucket tree new) (sym from) (λ text. tells text ∙ (gathering.so met).all text ∙ ap (any_adds source (present a) bucket text) (all_names (present a) folder met.sound));
              same = idles.same;
            },
          );
      settled = λ observable settled. asks.settled (gathering.on.observable observable) (gathering.settled observable settled);
    }

  pub gathering_fault : {c : History} {new : Names Bool} {f : PlanFault} → Asks (always 11001) b c (InBucket bucket) (TellsOf (TellsGathered source folder bucket marker table new)) (Err f) → PaysGathering folder bucket marker b c (Err f)
      → (result : Result (Names Bool) PlanFault) → IsErrAnd result (λ e. e ≡ f) → Asks (by_account (gather_calls (present a) folder)) a c (InBucket bucket) (TellsOf (TellsAll source folder bucket)) result
  gathering_fault {c = c} {new = new} {f = f} asks pays result is = subst (Asks (by_account (gather_calls (present a) folder)) a c (InBucket bucket) (TellsOf (TellsAll source folder bucket))) (sym (err_is result f is)) (record {
    grows = record {
      on = goes_trans gathering.on asks.grows.on;
      calls = λ met.
          let before = (gathering.so met).paid in
          let page : c.called + 0 ≤ b.called + gather_after (present a) folder marker = subst (λ tree. c.called + 0 ≤ b.called + gather_after tree folder marker) (same_now met) (pays (met_here met)) in
          omega (arith, before, page, calls_are (present a) folder met.sound);
    };
    cause = cause_after (Option (List ℕ)) (Names Bool) a.faults b.faults c.faults f gathering.faults asks.cause;
    effect = λ met. keeps_after (Option (List ℕ)) (Names Bool) (TellsGathered source folder bucket marker table new) (TellsAll source folder bucket) b c a.called b.called c.called f gathering.on.ordered
        (asks.grows.on.kept (gathering.on.observable met.observable)) (gathering.so met).idles (asks.effect (met_here met));
    settled = λ observable settled. asks.settled (gathering.on.observable observable) (gathering.settled observable settled);
  })

-- ---- the container has a name

pub folder_fits : (source : Source) (bucket : List ℕ) → is_bucket bucket ≡ true → IsContainerName (folder_of source bucket)
folder_fits Records bucket is = uploads_fits bucket is
folder_fits Objects bucket is = container_name bucket is
