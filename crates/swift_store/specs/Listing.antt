-- Pages of listings by the first names of a run. Source: Object Storage API v1.
use Rattle.std.specs.Prelude.{ℕ, zero, suc, Bool, cond, nat_eq, List, [], ◌∷◌}
use Rattle.std.specs.List.{filter, starts_with}
use Rattle.std.specs.FinMap.{entries}
use Rattle.std.specs.declared.ops.Bound.{Bound}
use Rattle.std.specs.BTreeMap.Range.{is_from_start}
use Rattle.gate_base.specs.Maps.{Names, name_cmp}
use Rattle.swift_calls.specs.Account.{SwiftObject}
use Rattle.swift_calls.specs.Bodies.{item_of}
use Rattle.swift_calls.specs.declared.heads.NameItem.{NameItem}

-- what f gives of the first things as far as they pass the test, at most so many
unfoldable pub leading : {A B : Type 0} → (A → B) → (A → Bool) → ℕ → List A → List B
leading f test zero things = []
leading f test (suc n) [] = []
leading f test (suc n) (a ∷ rest) = cond (test a) (f a ∷ leading f test n rest) []

-- the entries from a place on
abbrev pub entries_from : {X : Type 0} → Bound (List ℕ) → Names X → List (List ℕ × X)
entries_from start names = filter (λ e. is_from_start name_cmp start e.0) (entries names)

-- the objects from a place on as far as their names begin with the prefix, at most so many
abbrev pub object_run : ℕ → List ℕ → Bound (List ℕ) → Names SwiftObject → List NameItem
object_run limit prefix start objects = leading (λ e. item_of e.0 e.1) (λ e. starts_with nat_eq e.0 prefix) limit (entries_from start objects)
