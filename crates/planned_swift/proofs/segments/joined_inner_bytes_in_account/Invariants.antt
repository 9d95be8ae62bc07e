use Rattle.swift_calls.specs.Bodies.{inner_bytes}
use Rattle.planned_swift.specs.Lists.{look_in}
use Rattle.planned_swift.proofs.Joining.{Joins}
use Rattle.planned_swift.proofs.segments.joined_inner_bytes_in_account.Given as goal

abbrev pub invariant-loop-segment : goal.invariant-loop-segment
invariant-loop-segment l = Joins (inner_bytes (look_in l.containers)) l.segments l.segment-index l.body
