-- A page of the files under a prefix is asked for and deleted.
use Rattle.std.specs.Prelude.{◌≡◌, ◌≤◌, ◌<◌, ◌+◌, ◌-◌, ℕ, zero, suc, Bool, true, List, [], ◌∷◌, map, length, take, get_or, Option, None, Some, IfSome, Result, Ok, Err}
use Rattle.std.specs.Result.{IsErrAnd}
use Rattle.std.specs.List.{list_all}
use Rattle.std.proofs.Common.{refl, sym, ap, subst, ◌∙◌, arith}
use Rattle.std.proofs.lemmas.Bool.{and_from, and_parts}
use Rattle.std.proofs.lemmas.List.{length-map}
use Rattle.std.proofs.lemmas.Option.{slice_get-get_or}
use Rattle.s3_names.specs.Key.{is_key}
use Rattle.s3_machine.specs.Items.{begins}
use Rattle.swift_calls.specs.Account.{SwiftAccount, files}
use Rattle.swift_calls.specs.History.{History, present}
use Rattle.swift_calls.specs.Limits.{IsMarker}
use Rattle.swift_calls.specs.declared.heads.NameItem.{NameItem}
use Rattle.list_pages.specs.Listing.{IsPageOf, is_listed_name_with_prefix, name_in}
use Rattle.upload_records.specs.Native.{IsSettled}
use Rattle.account_calls.specs.declared.fault.PlanFault.{PlanFault}
use Rattle.account_calls.specs.declared.fault.PlanFault.TheVariants as fault
use Rattle.account_calls.specs.Calls.{always, Any, Met, Grows, Asks}
use Rattle.account_calls.specs.FilePages.{next_after, TellsFiles}
use Rattle.account_calls.specs.Listing.{TellsOf}
use Rattle.account_calls.specs.Purging.{under, names_under, AllBehind, MayGo, MayDelete, MayPurge, Deletes, TellsDeleted, TellsPurged, PaysPage, purge_calls}
use Rattle.account_calls.proofs.Taken.{key_is_marker}
use Rattle.account_calls.proofs.lemmas.Quiet.{asks_failed, asks_left, asks_no_memory, asks_then, asks_under, told_here}
use Rattle.account_calls.proofs.lemmas.Removal.{IsNext, first_names, next_is, page_behind, page_fewer, page_short, page_within}

-- ---- the names of a page

key_of_name : (prefix name : List ℕ) → is_listed_name_with_prefix prefix name ≡ true → is_key name ≡ true
key_of_name prefix name e = (and_parts (is_key name) (begins prefix name) e).0

pub all_keys : (prefix : List ℕ) (names : List (List ℕ)) → list_all (is_listed_name_with_prefix prefix) names ≡ true → list_all is_key names ≡ true
all_keys prefix [] all = refl
all_keys prefix (name ∷ names) all = let a = and_parts (is_listed_name_with_prefix prefix name) (list_all (is_listed_name_with_prefix prefix) names) all in and_from _ _ (key_of_name prefix name a.0) (all_keys prefix names a.1)

pub all_under : (prefix : List ℕ) (names : List (List ℕ)) → list_all (is_listed_name_with_prefix prefix) names ≡ true → list_all (begins prefix) names ≡ true
all_under prefix [] all = refl
all_under prefix (name ∷ names) all =
    let a = and_parts (is_listed_name_with_prefix prefix name) (list_all (is_listed_name_with_prefix prefix) names) all in
    and_from _ _ (and_parts (is_key name) (begins prefix name) a.0).1 (all_under prefix names a.1)

at_index : (p : List ℕ → Bool) (names : List (List ℕ)) (i : ℕ) (d : List ℕ) → i < length names → list_all p names ≡ true → p (get_or names i d) ≡ true
at_index p [] i d within all = absurd (omega (arith, within))
at_index p (name ∷ names) zero d within all = (and_parts (p name) (list_all p names) all).0
at_index p (name ∷ names) (suc i) d within all = at_index p names i d (omega (arith, within)) (and_parts (p name) (list_all p names) all).1

-- the name that the next page begins behind may be a marker
pub next_is_marker : (prefix marker : List ℕ) (names : List (List ℕ)) (next : Option (List ℕ)) → IsPageOf prefix marker names → next ≡ next_after names → IfSome next IsMarker
next_is_marker prefix marker names next page is = by next (next_is names next is)
  where
    by : (next : Option (List ℕ)) → IsNext names next → IfSome next IsMarker
    by None near = tt
    by (Some next) (far, at) =
        let found : Some (get_or names (length names - 1) next) ≡ Some next = sym (slice_get-get_or names (length names - 1) next (omega (arith, far))) ∙ at in
        let same : get_or names (length names - 1) next ≡ next = cc in
        subst IsMarker same (key_is_marker _ (at_index is_key names (length names - 1) next (omega (arith, far)) (all_keys prefix names page.named)))

-- ---- what is told of the account

module _ (folder bucket prefix : List ℕ) (names : List (List ℕ)) (old last : SwiftAccount) (is : names ≡ take 1000 (names_under prefix (files old folder))) (deletes : Deletes folder names old last) (may : MayGo folder bucket prefix last) where
  page_tells : (next : Option (List ℕ)) → IsNext names next → TellsPurged folder bucket prefix old last next
  page_tells None near = record { touches = deletes.touches; none = ap (names_under prefix) deletes.left ∙ page_short prefix names (files old folder) is near }
  page_tells (Some next) (far, at) = record {
    touches = deletes.touches;
    fewer = page_fewer prefix names (files old folder) is far ∙ ap (λ fs. 1000 + length (under prefix fs)) (sym deletes.left);
    may = may;
    behind = subst (AllBehind next prefix) (sym deletes.left) (page_behind prefix names (files old folder) is far next at);
  }

-- what was asked for, by the texts and the items that were handed on
pub as_read : {a b : History} {folder prefix marker named front behind : List ℕ} {page handed : List NameItem} → named ≡ folder → front ≡ prefix → behind ≡ marker → handed ≡ page
    → Asks (always 1) a b Any (TellsOf (TellsFiles named front behind)) (Ok page) → Asks (always 1) a b Any (TellsOf (TellsFiles folder prefix marker)) (Ok handed)
as_read {a = a} {b = b} foldered fronted marked same asks =
    subst {A = (List ℕ × List ℕ) × (List ℕ × List NameItem)} (λ x. Asks (always 1) a b Any (TellsOf (TellsFiles x.0.0 x.0.1 x.1.0)) (Ok x.1.1)) (λ i. ((foldered i, fronted i), (marked i, sym same i))) asks

pub as_asked : {a b : History} {folder prefix marker named front behind : List ℕ} {f : PlanFault} → named ≡ folder → front ≡ prefix → behind ≡ marker
    → Asks (always 1) a b Any (TellsOf (TellsFiles named front behind)) (Err f) → Asks (always 1) a b Any (TellsOf (TellsFiles folder prefix marker)) (Err f)
as_asked {a = a} {b = b} {f = f} foldered fronted marked asks =
    subst {A = (List ℕ × List ℕ) × List ℕ} (λ x. Asks (always 1) a b Any (TellsOf (TellsFiles x.0.0 x.0.1 x.1)) (Err f)) (λ i. ((foldered i, fronted i), marked i)) asks

pub as_page : {prefix marker front behind : List ℕ} {page handed : List NameItem} → front ≡ prefix → behind ≡ marker → handed ≡ page → IsPageOf front behind (map name_in page) → IsPageOf prefix marker (map name_in handed)
as_page fronted marked same page =
    subst {A = (List ℕ × List ℕ) × List NameItem} (λ x. IsPageOf x.0.0 x.0.1 (map name_in x.1)) (λ i. ((fronted i, marked i), sym same i)) page

pub page_few : {prefix marker : List ℕ} (page : List NameItem) → IsPageOf prefix marker (map name_in page) → length page ≤ 1000
page_few page is = let within = is.within in omega (arith, within, length-map page name_in)

module _ {a b : History} {folder prefix marker : List ℕ} (bucket : List ℕ) {page : List NameItem} (first : Asks (always 1) a b Any (TellsOf (TellsFiles folder prefix marker)) (Ok page)) where
  listed : Asks (always 1) a b (MayPurge folder bucket prefix marker) (TellsOf (TellsFiles folder prefix marker)) (Ok page)
  listed = asks_under (λ tree has. tt) first

  names_here : Met (MayPurge folder bucket prefix marker) a → map name_in page ≡ take 1000 (names_under prefix (files (present a) folder))
  names_here met = first_names (present a) folder prefix marker page met.sound met.has.behind (told_here listed met).of_account

  few_here : Met (MayPurge folder bucket prefix marker) a → length page ≤ length (under prefix (files (present a) folder))
  few_here met = omega (arith, page_within prefix (map name_in page) (files (present a) folder) (names_here met), length-map page name_in)

  may_delete : (old new : SwiftAccount) → MayPurge folder bucket prefix marker old → TellsOf (TellsFiles folder prefix marker) old new page → MayDelete folder bucket prefix new
  may_delete old new has told = record { settled = subst IsSettled (sym told.same) has.settled; may = subst (MayGo folder bucket prefix) (sym told.same) has.may }

  -- memory ran out before the first DELETE
  pub page_no_memory : (result : Result (Option (List ℕ)) PlanFault) → IsErrAnd result (λ e. e ≡ fault.Memory) → Asks (always 1001) a b (MayPurge folder bucket prefix marker) (TellsPurged folder bucket prefix) result
  page_no_memory result is = asks_no_memory (omega arith) listed result is

  module _ (within : length page ≤ 1000) {c : History} where
    -- the page was deleted
    pub page_purged : (next : Option (List ℕ)) → next ≡ next_after (map name_in page) → Asks (always (length page)) b c (MayDelete folder bucket prefix) (TellsDeleted folder bucket prefix (map name_in page)) (Ok tt)
        → Asks (always 1001) a c (MayPurge folder bucket prefix marker) (TellsPurged folder bucket prefix) (Ok next)
    page_purged next is then =
        asks_then {m = length page} (omega (arith, within)) listed
        (asks_left {R = λ old new y. TellsDeleted folder bucket prefix (map name_in page) old new tt × (y ≡ next)} next (omega arith) then (λ old new sound same has told. (told, refl)))
        (λ old new sound same has told. may_delete old new has told)
        (λ old new last y sound has told deleted.
        subst (TellsPurged folder bucket prefix old last) (sym deleted.1)
        (page_tells folder bucket prefix (map name_in page) old last (first_names old folder prefix marker page sound has.behind told.of_account)
        (subst (λ tree. Deletes folder (map name_in page) tree last) told.same deleted.0.deletes) deleted.0.may next (next_is (map name_in page) next is)))

    -- it wasn't, or not as a whole
    pub page_broken : {f : PlanFault} → Asks (always (length page)) b c (MayDelete folder bucket prefix) (TellsDeleted folder bucket prefix (map name_in page)) (Err f)
        → (result : Result (Option (List ℕ)) PlanFault) → IsErrAnd result (λ e. e ≡ f) → Asks (always 1001) a c (MayPurge folder bucket prefix marker) (TellsPurged folder bucket prefix) result
    page_broken then result gives =
        asks_then {m = length page} (omega (arith, within)) listed (asks_failed {R = λ old new y. ⊥} (omega arith) then result gives) (λ old new sound same has told. may_delete old new has told) (λ old new last y sound has told never. absurd never)

  -- ---- what it pays

  -- the calls so far, with no more DELETEs than names
  module _ {given : SwiftAccount → Type 0} {c : History} (grows : Grows (always (length page)) given b c) where
    paid_so_far : Met (MayPurge folder bucket prefix marker) a → c.called ≤ a.called + purge_calls (present a) folder prefix
    paid_so_far met = let few = few_here met in let near = first.grows.calls in let far = grows.calls in omega (arith, few, near, far)

    pub pays_broken : (f : PlanFault) (result : Result (Option (List ℕ)) PlanFault) → IsErrAnd result (λ e. e ≡ f) → PaysPage folder bucket prefix marker a c result
    pays_broken f (Ok next) is = absurd is
    pays_broken f (Err e) is = λ met. let paid = paid_so_far met in omega (arith, paid)

    pub pays_page : (next : Option (List ℕ)) → next ≡ next_after (map name_in page) → Asks (always 1001) a c (MayPurge folder bucket prefix marker) (TellsPurged folder bucket prefix) (Ok next) → PaysPage folder bucket prefix marker a c (Ok next)
    pays_page None is asks = λ met. let paid = paid_so_far met in omega (arith, paid)
    pays_page (Some next) is asks = λ met.
        let told = told_here asks met in
        let fewer = told.fewer in
        let few = few_here met in
        let near = first.grows.calls in
        let far = grows.calls in
        omega (arith, fewer, few, near, far)

-- the page wasn't had
module _ {a b : History} {folder prefix marker : List ℕ} (bucket : List ℕ) {f : PlanFault} (first : Asks (always 1) a b Any (TellsOf (TellsFiles folder prefix marker)) (Err f))
    (result : Result (Option (List ℕ)) PlanFault) (is : IsErrAnd result (λ e. e ≡ f)) where
  pub page_failed : Asks (always 1001) a b (MayPurge folder bucket prefix marker) (TellsPurged folder bucket prefix) result
  page_failed = asks_failed {given = MayPurge folder bucket prefix marker} (omega arith) (asks_under (λ tree has. tt) first) result is

  pub pays_failed : PaysPage folder bucket prefix marker a b result
  pays_failed = by result is
    where
      by : (result : Result (Option (List ℕ)) PlanFault) → IsErrAnd result (λ e. e ≡ f) → PaysPage folder bucket prefix marker a b result
      by (Ok next) is = absurd is
      by (Err f) is = λ met. let near = first.grows.calls in omega (arith, near)
