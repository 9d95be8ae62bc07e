use Rattle.std.proofs.Common.{length}
use Rattle.s3_bodies.proofs.Keys.{Meaning}
use Rattle.s3_bodies.proofs.key.meaning_of_delete_xml_text.Given as goal

abbrev pub invariant-pieces : goal.invariant-pieces
invariant-pieces l = Meaning l.text l.bytes l.rest

abbrev pub decreases-pieces : goal.decreases-pieces
decreases-pieces l = length l.rest
