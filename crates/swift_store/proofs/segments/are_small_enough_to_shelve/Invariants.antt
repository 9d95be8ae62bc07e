use Rattle.std.proofs.Common.{◌^◌}
use Rattle.swift_store.proofs.Listed.{Leaves}
use Rattle.swift_store.proofs.segments.are_small_enough_to_shelve.Given as goal

abbrev pub invariant-loop-segment : goal.invariant-loop-segment
invariant-loop-segment l = Leaves (2 ^ 63) l.segments l.segment-index l.left
