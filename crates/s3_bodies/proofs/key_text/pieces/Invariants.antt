use Rattle.std.proofs.Common.{ℕ, List, length}
use Rattle.s3_bodies.specs.DeleteReaders.{SkipsPieces}
use Rattle.s3_bodies.proofs.key_text.pieces.Given as goal

abbrev pub invariant-pieces : goal.invariant-pieces
invariant-pieces l = (last : List ℕ) (left : ℕ) → SkipsPieces l.rest last left → SkipsPieces l.bytes last left

abbrev pub decreases-pieces : goal.decreases-pieces
decreases-pieces l = length l.rest
