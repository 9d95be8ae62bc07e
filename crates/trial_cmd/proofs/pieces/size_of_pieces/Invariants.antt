use Rattle.std.proofs.Common.{◌≡◌, ◌-◌, ◌^◌, length, min, take}
use Rattle.trial_cmd.specs.Replied.{output_of}
use Rattle.trial_cmd.proofs.pieces.size_of_pieces.Given as goal

abbrev pub invariant-loop-piece : goal.invariant-loop-piece
invariant-loop-piece l = l.size ≡ min (length (output_of (take l.piece-index l.pieces))) (2 ^ 64 - 1)
