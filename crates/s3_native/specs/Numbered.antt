-- The map that a table by numbers represents.
use Rattle.std.specs.Prelude.{ℕ, List, map}
use Rattle.std.specs.FinMap.{from_entries}
use Rattle.gate_base.specs.Maps.{Numbers}

abbrev pub numbered_of : {X : Type 0} → ℕ × X → ℕ × X
numbered_of e = (e.0, e.1)

-- what stands under each number
abbrev pub numbers_of : {X : Type 0} → List (ℕ × X) → Numbers X
numbers_of entries = from_entries (map numbered_of entries)
