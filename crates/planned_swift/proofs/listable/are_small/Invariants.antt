use Rattle.std.proofs.Common.{◌^◌}
use Rattle.planned_swift.proofs.Manifests.{Leaves}
use Rattle.planned_swift.proofs.listable.are_small.Given as goal

abbrev pub invariant-loop-segment : goal.invariant-loop-segment
invariant-loop-segment l = Leaves (2 ^ 63) l.segments l.segment-index l.left
