use Rattle.swift_calls.specs.Bodies.{may_be_listed}
use Rattle.planned_swift.specs.Lists.{look_in}
use Rattle.planned_swift.proofs.Manifests.{Passes}
use Rattle.planned_swift.proofs.listable.are_listable_in_account.Given as goal

abbrev pub invariant-loop-segment : goal.invariant-loop-segment
invariant-loop-segment l = Passes (may_be_listed (look_in l.containers)) l.segments l.segment-index
