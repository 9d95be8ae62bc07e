-- A page of the files of a container is asked for, and those of them are deleted that pass a test.
use Rattle.std.specs.Prelude.{◌≡◌, ◌≤◌, ◌+◌, ℕ, Bool, true, false, cond, List, [], ◌∷◌, map, length, take, Option, None, Some, Result, Ok, Err}
use Rattle.std.specs.Result.{IsErrAnd}
use Rattle.std.specs.List.{filter}
use Rattle.std.specs.FinMap.{entries, get}
use Rattle.std.proofs.Common.{refl, sym, ap, subst, ◌∙◌, arith}
use Rattle.std.proofs.lemmas.List.{length-map}
use Rattle.s3_machine.specs.Items.{behind}
use Rattle.swift_calls.specs.Account.{SwiftAccount, SwiftObject, files}
use Rattle.swift_calls.specs.History.{History, present}
use Rattle.swift_calls.specs.declared.heads.NameItem.{NameItem}
use Rattle.list_pages.specs.Listing.{name_in}
use Rattle.upload_records.specs.Native.{IsSettled}
use Rattle.upload_records.specs.Consistent.{IsConsistent}
use Rattle.account_calls.specs.declared.fault.PlanFault.{PlanFault}
use Rattle.account_calls.specs.declared.fault.PlanFault.TheVariants as fault
use Rattle.account_calls.specs.Calls.{always, Any, Met, Grows, Asks}
use Rattle.account_calls.specs.FilePages.{next_after, TellsFiles}
use Rattle.account_calls.specs.Listing.{TellsOf}
use Rattle.account_calls.specs.Purging.{Deletes}
use Rattle.account_calls.proofs.lemmas.FilePages.{names_are}
use Rattle.account_calls.proofs.lemmas.Quiet.{asks_failed, asks_left, asks_no_memory, asks_then, asks_under, told_here}
use Rattle.account_calls.proofs.lemmas.Removal.{IsNext, next_is}
use Rattle.leftovers.specs.Sweeping.{passing, AllBehind, MayGo, MayDelete, MaySweep, TellsSwept, TellsPage, LeftBehind, PaysPage, after_marker, sweep_calls}
use Rattle.leftovers.proofs.Items.{going}
use Rattle.leftovers.proofs.lemmas.FileNames.{no_prefix}
use Rattle.leftovers.proofs.Removals.{page_behind, page_fewer, page_nearer, page_short, stays_without}

-- ---- the names of a page

page_names : (tree : SwiftAccount) (folder marker : List ℕ) (told : List NameItem) → IsConsistent tree → TellsFiles folder [] marker tree told
    → map name_in told ≡ take 1000 (map (λ e. e.0) (after_marker marker (files tree folder)))
page_names tree folder marker told sound tells =
    ap (map name_in) tells.items ∙ names_are tree folder sound [] marker 1000 ∙ ap (λ es. take 1000 (map (λ e. e.0) (behind marker es))) (no_prefix (entries (files tree folder)))

-- ---- what is told of the account

module _ (folder bucket : List ℕ) (test : List ℕ → Bool) (marker : List ℕ) (names : List (List ℕ)) (old last : SwiftAccount) (is : names ≡ take 1000 (map (λ e. e.0) (after_marker marker (files old folder))))
    (behind : AllBehind marker test (files old folder)) where
  -- no more go than there are
  pub within : length (filter test names) ≤ length (passing test (files old folder))
  within = let fewer = page_fewer test marker (files old folder) behind names is in omega (arith, fewer)

  module _ (deletes : Deletes folder (filter test names) old last) (may : MayGo folder bucket test last) where
    left_is : (next : Option (List ℕ)) → IsNext names next → LeftBehind folder bucket test marker old last next
    left_is None near = ap (λ fs. map (λ (e : List ℕ × SwiftObject). e.0) (passing test fs)) deletes.left ∙ page_short test marker (files old folder) behind names is near
    left_is (Some next) (far, at) = record {
      may = may;
      behind = subst (λ fs. AllBehind next test fs) (sym deletes.left) (page_behind test marker (files old folder) behind names is far next at);
      nearer = subst (λ fs. length (after_marker next fs) + 1000 ≤ length (after_marker marker (files old folder))) (sym deletes.left) (page_nearer test marker (files old folder) behind names is far next at (filter test names));
    }

    pub page_tells : (count : ℕ) → count ≡ length (filter test names) → (next : Option (List ℕ)) → IsNext names next → TellsPage folder bucket test marker old last (count, next)
    page_tells count counted next near = record {
      sweeps = record {
        touches = deletes.touches;
        fewer = page_fewer test marker (files old folder) behind names is ∙ (λ i. sym counted i + length (passing test (sym deletes.left i)));
        stays = λ name not. ap (λ fs. get fs name) deletes.left ∙ stays_without test names (files old folder) name not;
      };
      left = left_is next near;
    }

pub filter_few : {X : Type 0} (p : X → Bool) (xs : List X) → length (filter p xs) ≤ length xs
filter_few p [] = omega arith
filter_few p (x ∷ xs) = let rest = filter_few p xs in elim (p x) as (λ t. length (cond t (x ∷ filter p xs) (filter p xs)) ≤ length (x ∷ xs)) [ true ↦ omega (arith, rest) | false ↦ omega (arith, rest) ]

going_few : (test : List ℕ → Bool) (page : List NameItem) → length (going test page) ≤ length page
going_few test page = let few = filter_few test (map name_in page) in omega (arith, few, length-map page name_in)

module _ {a b : History} {folder marker : List ℕ} (bucket : List ℕ) (test : List ℕ → Bool) {page : List NameItem} (first : Asks (always 1) a b Any (TellsOf (TellsFiles folder [] marker)) (Ok page)) where
  listed : Asks (always 1) a b (MaySweep folder bucket test marker) (TellsOf (TellsFiles folder [] marker)) (Ok page)
  listed = asks_under (λ tree has. tt) first

  names_here : Met (MaySweep folder bucket test marker) a → map name_in page ≡ take 1000 (map (λ e. e.0) (after_marker marker (files (present a) folder)))
  names_here met = page_names (present a) folder marker page met.sound (told_here listed met).of_account

  may_delete : (old new : SwiftAccount) → MaySweep folder bucket test marker old → TellsOf (TellsFiles folder [] marker) old new page → MayDelete folder bucket test new
  may_delete old new has told = record { settled = subst IsSettled (sym told.same) has.settled; may = subst (MayGo folder bucket test) (sym told.same) has.may }

  -- memory ran out before the first DELETE
  pub page_no_memory : (result : Result (ℕ × Option (List ℕ)) PlanFault) → IsErrAnd result (λ e. e ≡ fault.Memory) → Asks (always 1001) a b (MaySweep folder bucket test marker) (TellsPage folder bucket test marker) result
  page_no_memory result is = asks_no_memory (omega arith) listed result is

  module _ {c : History} where
    -- the page was swept
    pub page_swept : length page ≤ 1000 → (count : ℕ) → count ≡ length (going test page) → (next : Option (List ℕ)) → next ≡ next_after (map name_in page)
        → Asks (always (length (going test page))) b c (MayDelete folder bucket test) (TellsSwept folder bucket test (map name_in page)) (Ok count)
        → Asks (always 1001) a c (MaySweep folder bucket test marker) (TellsPage folder bucket test marker) (Ok (count, next))
    page_swept within count counted next is then =
        let few = going_few test page in
        asks_then {m = length (going test page)} (omega (arith, within, few)) listed
        (asks_left {R = λ old new y. TellsSwept folder bucket test (map name_in page) old new count × (y ≡ (count, next))} (count, next) (omega arith) then (λ old new sound same has told. (told, refl)))
        (λ old new sound same has told. may_delete old new has told)
        (λ old new last y sound has told swept.
        subst (TellsPage folder bucket test marker old last) (sym swept.1)
        (page_tells folder bucket test marker (map name_in page) old last (page_names old folder marker page sound told.of_account) has.behind
        (subst (λ tree. Deletes folder (going test page) tree last) told.same swept.0.deletes) swept.0.may count counted next (next_is (map name_in page) next is)))

    -- it wasn't, or not as a whole
    pub page_broken : length page ≤ 1000 → {f : PlanFault} → Asks (always (length (going test page))) b c (MayDelete folder bucket test) (TellsSwept folder bucket test (map name_in page)) (Err f)
        → (result : Result (ℕ × Option (List ℕ)) PlanFault) → IsErrAnd result (λ e. e ≡ f) → Asks (always 1001) a c (MaySweep folder bucket test marker) (TellsPage folder bucket test marker) result
    page_broken within then result gives =
        let few = going_few test page in
        asks_then {m = length (going test page)} (omega (arith, within, few)) listed (asks_failed {R = λ old new y. ⊥} (omega arith) then result gives) (λ old new sound same has told. may_delete old new has told)
        (λ old new last y sound has told never. absurd never)

  -- ---- what it pays

  -- the calls so far, with no more DELETEs than files that go
  module _ {given : SwiftAccount → Type 0} {c : History} (grows : Grows (always (length (going test page))) given b c) where
    paid_so_far : Met (MaySweep folder bucket test marker) a → c.called ≤ a.called + sweep_calls (present a) folder test marker
    paid_so_far met =
        let few = within folder bucket test marker (map name_in page) (present a) (present a) (names_here met) met.has.behind in
        let near = first.grows.calls in
        let far = grows.calls in
        omega (arith, few, near, far)

    pub pays_broken : (f : PlanFault) (result : Result (ℕ × Option (List ℕ)) PlanFault) → IsErrAnd result (λ e. e ≡ f) → PaysPage folder bucket test marker a c result
    pays_broken f (Ok told) is = absurd is
    pays_broken f (Err e) is = λ met. let paid = paid_so_far met in omega (arith, paid)

    pub pays_page : (count : ℕ) → count ≡ length (going test page) → (next : Option (List ℕ))
        → Asks (always 1001) a c (MaySweep folder bucket test marker) (TellsPage folder bucket test marker) (Ok (count, next)) → PaysPage folder bucket test marker a c (Ok (count, next))
    pays_page count counted None asks = λ met. let paid = paid_so_far met in omega (arith, paid)
    pays_page count counted (Some next) asks = λ met.
        let told = told_here asks met in
        let fewer = told.sweeps.fewer in
        let nearer = told.left.nearer in
        let near = first.grows.calls in
        let far = grows.calls in
        omega (arith, fewer, nearer, near, far, counted)

-- the page wasn't had
module _ {a b : History} {folder marker : List ℕ} (bucket : List ℕ) (test : List ℕ → Bool) {f : PlanFault} (first : Asks (always 1) a b Any (TellsOf (TellsFiles folder [] marker)) (Err f))
    (result : Result (ℕ × Option (List ℕ)) PlanFault) (is : IsErrAnd result (λ e. e ≡ f)) where
  pub page_failed : Asks (always 1001) a b (MaySweep folder bucket test marker) (TellsPage folder bucket test marker) result
  page_failed = asks_failed {given = MaySweep folder bucket test marker} (omega arith) (asks_under (λ tree has. tt) first) result is

  pub pays_failed : PaysPage folder bucket test marker a b result
  pays_failed = by result is
    where
      by : (result : Result (ℕ × Option (List ℕ)) PlanFault) → IsErrAnd result (λ e. e ≡ f) → PaysPage folder bucket test marker a b result
      by (Ok next) is = absurd is
      by (Err f) is = λ met. let near = first.grows.calls in omega (arith, near)
