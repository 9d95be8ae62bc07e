use Rattle.swift_calls.specs.Bodies.{outer_bytes}
use Rattle.swift_store.proofs.Joining.{Reading}
use Rattle.swift_store.proofs.joined.read_outer_segments_from_shelf.Given as goal

abbrev pub invariant-loop-segment : goal.invariant-loop-segment
invariant-loop-segment g l = Reading outer_bytes l.segments l.fn.skip l.fn.count l.initial.out l.segment-index l.skip l.count l.out (g.S.Shelf.model l.initial.shelf) (g.S.Shelf.model l.shelf)
