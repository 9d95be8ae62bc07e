use Rattle.std.proofs.Common.{take}
use Rattle.sha2.specs.Hashers.{Holds256}
use Rattle.trial_cmd.specs.Replied.{output_of}
use Rattle.trial_cmd.proofs.pieces.hash_of_pieces.Given as goal

-- the hasher holds the pieces so far
abbrev pub invariant-loop-piece : goal.invariant-loop-piece
invariant-loop-piece l = Holds256 l.hasher (output_of (take l.piece-index l.pieces))
