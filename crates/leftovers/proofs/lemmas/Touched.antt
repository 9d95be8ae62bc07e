-- Calls that touch one container alone, one after the other; and what holds of the item at a place.
use Rattle.std.specs.Prelude.{◌≡◌, ◌<◌, ℕ, zero, suc, Bool, true, List, [], ◌∷◌, map, length, get_or}
use Rattle.std.specs.List.{list_all}
use Rattle.std.proofs.Common.{refl, ap, ◌∙◌, arith}
use Rattle.std.proofs.lemmas.Bool.{and_parts}
use Rattle.swift_calls.specs.Account.{SwiftAccount}
use Rattle.swift_calls.specs.declared.heads.NameItem.{NameItem}
use Rattle.list_pages.specs.Listing.{name_in}
use Rattle.account_calls.specs.Purging.{Touches}

pub touches_none : (folder : List ℕ) (tree : SwiftAccount) → Touches folder tree tree
touches_none folder tree = record { others = λ name apart. refl; stays = refl }

pub touches_trans : {folder : List ℕ} {a b c : SwiftAccount} → Touches folder a b → Touches folder b c → Touches folder a c
touches_trans first then = record { others = λ name apart. then.others name apart ∙ first.others name apart; stays = then.stays ∙ first.stays }

-- what holds of each item holds of the one at a place
pub at_place : (p : List ℕ → Bool) (items : List NameItem) (i : ℕ) (item : NameItem) → i < length items → item ≡ get_or items i item → list_all p (map name_in items) ≡ true → p item.name ≡ true
at_place p [] i item within is all = absurd (omega (arith, within))
at_place p (x ∷ items) zero item within is all = ap (λ (y : NameItem). p y.name) is ∙ (and_parts (p x.name) (list_all p (map name_in items)) all).0
at_place p (x ∷ items) (suc i) item within is all = at_place p items i item (omega (arith, within)) is (and_parts (p x.name) (list_all p (map name_in items)) all).1
