use Rattle.std.proofs.Common.{◌≡◌, ◌++◌, length}
use Rattle.object_rows.specs.Pieces.{pieces_of}
use Rattle.object_rows.proofs.pieces.pieces_of.Given as goal

abbrev pub invariant-pieces : goal.invariant-pieces
invariant-pieces l = pieces_of l.text ≡ l.pieces ++ pieces_of l.rest

abbrev pub decreases-pieces : goal.decreases-pieces
decreases-pieces l = length l.rest
