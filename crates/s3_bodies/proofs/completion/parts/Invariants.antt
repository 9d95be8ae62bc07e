use Rattle.std.proofs.Common.{ℕ, List, ◌++◌, map, length}
use Rattle.xml_forms.specs.Forms.{Skips}
use Rattle.s3_bodies.specs.Completion.{Part}
use Rattle.s3_bodies.specs.PartReaders.{part_of}
use Rattle.s3_bodies.proofs.completion.parts.Given as goal

abbrev pub invariant-parts : goal.invariant-parts
invariant-parts l = (more : List (ℕ × List ℕ)) (last : List ℕ) (left : ℕ) → Skips Part l.rest more last left → Skips Part l.bytes (map part_of l.parts ++ more) last left

abbrev pub decreases-parts : goal.decreases-parts
decreases-parts l = length l.rest
