use Rattle.swift_calls.specs.Account.{find_object}
use Rattle.swift_store.specs.Listed.{is_outer}
use Rattle.swift_store.proofs.Passing.{Passing}
use Rattle.swift_store.proofs.segments.are_outer_segments_on_shelf.Given as goal

abbrev pub invariant-loop-segment : goal.invariant-loop-segment
invariant-loop-segment g l = Passing (λ account. is_outer (find_object account)) l.segments l.segment-index (g.S.Shelf.model l.initial.shelf) (g.S.Shelf.model l.shelf)
