-- Objects of a listing with one more.
use Rattle.std.proofs.Common.{◌≡◌, ℕ, List, [], ◌∷◌, ◌++◌, true}
use Rattle.std.specs.Prelude.{nat_eq}
use Rattle.std.specs.List.{All, starts_with}
use Rattle.std.proofs.lemmas.List.Elements.{All-push, All-same}
use Rattle.swift_calls.specs.declared.heads.NameItem.{NameItem}
use Rattle.kept_store.specs.Kept.{HasPrefix}

pub one_more : (prefix : List ℕ) (items now : List NameItem) (item : NameItem) → All (HasPrefix prefix) items → now ≡ items ++ item ∷ [] → starts_with nat_eq item.name prefix ≡ true → All (HasPrefix prefix) now
one_more prefix items now item all e has = All-same (HasPrefix prefix) now (items ++ item ∷ []) e (All-push (HasPrefix prefix) items item all has)
