use Rattle.std.proofs.Common.{◌≡◌, ◌++◌, drop}
use Rattle.swift_calls.specs.Bodies.{joined_etags}
use Rattle.planned_swift.proofs.objects.joined_etags.Given as goal

abbrev pub invariant-loop-segment : goal.invariant-loop-segment
invariant-loop-segment l = joined_etags l.segments ≡ l.text ++ joined_etags (drop l.segment-index l.segments)
