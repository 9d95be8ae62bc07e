use Rattle.std.proofs.Common.{subst, sym}
use Rattle.swift_store.specs.Made.{IsMade}
use Rattle.swift_store.proofs.MadeChanges.{made_empty}
use Rattle.swift_store.proofs.map_shelf.MapShelf.new.Goals as goal

pub invariant_of-result : goal.invariant_of-result
invariant_of-result c = record { made = subst IsMade (sym c.new.ensures) made_empty }
