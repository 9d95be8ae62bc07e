use Rattle.swift_calls.specs.Bodies.{may_be_listed}
use Rattle.swift_calls.specs.Account.{find_object}
use Rattle.swift_store.proofs.Passing.{Passing}
use Rattle.swift_store.proofs.segments.are_listable_on_shelf.Given as goal

abbrev pub invariant-loop-segment : goal.invariant-loop-segment
invariant-loop-segment g l = Passing (λ account. may_be_listed (find_object account)) l.segments l.segment-index (g.S.Shelf.model l.initial.shelf) (g.S.Shelf.model l.shelf)
