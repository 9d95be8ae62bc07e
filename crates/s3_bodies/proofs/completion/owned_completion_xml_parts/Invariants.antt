use Rattle.std.proofs.Common.{◌≡◌, map, take}
use Rattle.s3_bodies.specs.Completion.{listed_of}
use Rattle.s3_bodies.specs.PartReaders.{part_of}
use Rattle.s3_bodies.proofs.completion.owned_completion_xml_parts.Given as goal

abbrev pub invariant-parts : goal.invariant-parts
invariant-parts l = l.list ≡ map (λ part. listed_of (part_of part)) (take l.part-index l.parts)
