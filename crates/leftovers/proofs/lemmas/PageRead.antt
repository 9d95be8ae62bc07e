-- The page of a container that was asked for, by the texts that were handed on.
use Rattle.std.specs.Prelude.{◌≡◌, ◌≤◌, ◌<◌, ◌-◌, ℕ, zero, suc, Bool, true, List, [], ◌∷◌, map, length, get_or, Option, None, Some, IfSome, Ok, Err}
use Rattle.std.specs.List.{list_all}
use Rattle.std.proofs.Common.{refl, sym, subst, ◌∙◌, arith}
use Rattle.std.proofs.lemmas.Bool.{and_from, and_parts}
use Rattle.std.proofs.lemmas.List.{length-map}
use Rattle.std.proofs.lemmas.Option.{slice_get-get_or}
use Rattle.s3_names.specs.Key.{is_key}
use Rattle.s3_machine.specs.Items.{begins}
use Rattle.swift_calls.specs.History.{History}
use Rattle.swift_calls.specs.Limits.{IsMarker}
use Rattle.swift_calls.specs.declared.heads.NameItem.{NameItem}
use Rattle.list_pages.specs.Listing.{IsPageOf, is_listed_name_with_prefix, name_in}
use Rattle.account_calls.specs.declared.fault.PlanFault.{PlanFault}
use Rattle.account_calls.specs.Calls.{always, Any, Asks}
use Rattle.account_calls.specs.FilePages.{next_after, TellsFiles}
use Rattle.account_calls.specs.Listing.{TellsOf}
use Rattle.account_calls.proofs.lemmas.Names.{object_name}
use Rattle.account_calls.proofs.lemmas.Removal.{IsNext, next_is}

-- ---- the names of a page

key_of_name : (prefix name : List ℕ) → is_listed_name_with_prefix prefix name ≡ true → is_key name ≡ true
key_of_name prefix name e = (and_parts (is_key name) (begins prefix name) e).0

pub all_keys : (prefix : List ℕ) (names : List (List ℕ)) → list_all (is_listed_name_with_prefix prefix) names ≡ true → list_all is_key names ≡ true
all_keys prefix [] all = refl
all_keys prefix (name ∷ names) all = let a = and_parts (is_listed_name_with_prefix prefix name) (list_all (is_listed_name_with_prefix prefix) names) all in and_from _ _ (key_of_name prefix name a.0) (all_keys prefix names a.1)

at_index : (p : List ℕ → Bool) (names : List (List ℕ)) (i : ℕ) (d : List ℕ) → i < length names → list_all p names ≡ true → p (get_or names i d) ≡ true
at_index p [] i d within all = absurd (omega (arith, within))
at_index p (name ∷ names) zero d within all = (and_parts (p name) (list_all p names) all).0
at_index p (name ∷ names) (suc i) d within all = at_index p names i d (omega (arith, within)) (and_parts (p name) (list_all p names) all).1

-- a key may be a marker
key_is_marker : (name : List ℕ) → is_key name ≡ true → IsMarker name
key_is_marker name is =
    let text = (object_name name is).1 in
    let within = text.within in
    record { within = omega (arith, within); utf8 = text.utf8; no_zero = text.no_zero }

-- the name that the next page begins behind may be a marker
pub next_is_marker : (prefix marker : List ℕ) (names : List (List ℕ)) (next : Option (List ℕ)) → IsPageOf prefix marker names → next ≡ next_after names → IfSome next IsMarker
next_is_marker prefix marker names next page is = by next (next_is names next is)
  where
    by : (next : Option (List ℕ)) → IsNext names next → IfSome next IsMarker
    by None near = tt
    by (Some next) (far, at) =
        let found : Some (get_or names (length names - 1) next) ≡ Some next = sym (slice_get-get_or names (length names - 1) next (omega (arith, far))) ∙ at in
        let same : get_or names (length names - 1) next ≡ next = cc in
        subst IsMarker same (key_is_marker _ (at_index is_key names (length names - 1) next (omega (arith, far)) (all_keys prefix names page.named)))

-- what was asked for, by the texts and the items that were handed on
pub as_read : {a b : History} {folder prefix marker named front behind : List ℕ} {page handed : List NameItem} → named ≡ folder → front ≡ prefix → behind ≡ marker → handed ≡ page
    → Asks (always 1) a b Any (TellsOf (TellsFiles named front behind)) (Ok page) → Asks (always 1) a b Any (TellsOf (TellsFiles folder prefix marker)) (Ok handed)
as_read {a = a} {b = b} foldered fronted marked same asks =
    subst {A = (List ℕ × List ℕ) × (List ℕ × List NameItem)} (λ x. Asks (always 1) a b Any (TellsOf (TellsFiles x.0.0 x.0.1 x.1.0)) (Ok x.1.1)) (λ i. ((foldered i, fronted i), (marked i, sym same i))) asks

pub as_asked : {a b : History} {folder prefix marker named front behind : List ℕ} {f : PlanFault} → named ≡ folder → front ≡ prefix → behind ≡ marker
    → Asks (always 1) a b Any (TellsOf (TellsFiles named front behind)) (Err f) → Asks (always 1) a b Any (TellsOf (TellsFiles folder prefix marker)) (Err f)
as_asked {a = a} {b = b} {f = f} foldered fronted marked asks =
    subst {A = (List ℕ × List ℕ) × List ℕ} (λ x. Asks (always 1) a b Any (TellsOf (TellsFiles x.0.0 x.0.1 x.1)) (Err f)) (λ i. ((foldered i, fronted i), marked i)) asks

pub as_page : {prefix marker front behind : List ℕ} {page handed : List NameItem} → front ≡ prefix → behind ≡ marker → handed ≡ page → IsPageOf front behind (map name_in page) → IsPageOf prefix marker (map name_in handed)
as_page fronted marked same page =
    subst {A = (List ℕ × List ℕ) × List NameItem} (λ x. IsPageOf x.0.0 x.0.1 (map name_in x.1)) (λ i. ((fronted i, marked i), sym same i)) page

pub page_few : {prefix marker : List ℕ} (page : List NameItem) → IsPageOf prefix marker (map name_in page) → length page ≤ 1000
page_few page is = let within = is.within in omega (arith, within, length-map page name_in)
