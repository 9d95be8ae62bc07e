use Rattle.std.proofs.Common.{ℕ, List, length}
use Rattle.s3_bodies.specs.PartReaders.{SkipsChecksums}
use Rattle.s3_bodies.proofs.part.checksums.Given as goal

abbrev pub invariant-checksums : goal.invariant-checksums
invariant-checksums l = (last : List ℕ) (left : ℕ) → SkipsChecksums l.rest last left → SkipsChecksums l.bytes last left

abbrev pub decreases-checksums : goal.decreases-checksums
decreases-checksums l = length l.rest
