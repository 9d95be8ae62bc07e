use Rattle.std.proofs.Common.{◌≡◌, ◌++◌, take}
use Rattle.many_keys.specs.CopiedLists.{cut_of}
use Rattle.many_keys.proofs.cut.add_pieces.Given as goal

abbrev pub invariant-loop-segment : goal.invariant-loop-segment
invariant-loop-segment l = l.pieces ≡ l.initial.pieces ++ cut_of (take l.segment-index l.segments)
