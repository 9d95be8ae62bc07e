use Rattle.swift_calls.specs.Bodies.{outer_bytes}
use Rattle.planned_swift.specs.Lists.{look_in}
use Rattle.planned_swift.proofs.Joining.{Joins}
use Rattle.planned_swift.proofs.segments.joined_outer_bytes_in_account.Given as goal

abbrev pub invariant-loop-segment : goal.invariant-loop-segment
invariant-loop-segment l = Joins (outer_bytes (look_in l.containers)) l.segments l.segment-index l.body
