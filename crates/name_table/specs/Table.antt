-- The map that a table represents.
use Rattle.std.specs.Prelude.{ℕ, List, map}
use Rattle.std.specs.Global.{Vec}
use Rattle.std.specs.FinMap.{from_entries}
use Rattle.gate_base.specs.Maps.{Names}

abbrev pub entry_of : {X : Type 0} → Vec ℕ × X → List ℕ × X
entry_of e = (e.0.items, e.1)

-- what stands under each name
abbrev pub names_of : {X : Type 0} → List (Vec ℕ × X) → Names X
names_of entries = from_entries (map entry_of entries)
