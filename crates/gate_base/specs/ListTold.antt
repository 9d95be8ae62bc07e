-- What a clock and a source of draws in memory tell: the values still to come.
use Rattle.std.specs.Prelude.{ℕ, true, List, [], ◌∷◌}
use Rattle.gate_base.specs.Told.{SourceModel}
use Rattle.std.specs.Vec.Iter.{into_iter_items}
use Rattle.gate_base.specs.declared.told_memory.ListClock.{ListClock}
use Rattle.gate_base.specs.declared.told_memory.ListDraws.{ListDraws}

-- the moments that are still to come
abbrev pub moments_of : ListClock → List ℕ
moments_of clock = clock.next ∷ into_iter_items clock.later

-- the draws that are still to come
abbrev pub draws_of : ListDraws → List ℕ
draws_of draws = draws.next ∷ into_iter_items draws.later

-- the draws given, or 1 where none are
abbrev pub draws_from : List ℕ → List ℕ
draws_from [] = 1 ∷ []
draws_from (x ∷ xs) = x ∷ xs

-- as any clock or source of draws shows itself: these values are still to come
abbrev pub source_of : List ℕ → SourceModel
source_of values = record { observable = true; values = values }
