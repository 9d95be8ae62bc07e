use Rattle.std.proofs.Common.{length}
use Rattle.s3_bodies.proofs.DeleteLemmas.{Grows}
use Rattle.s3_bodies.proofs.delete.add_delete_xml_objects.Given as goal

abbrev pub invariant-objects : goal.invariant-objects
invariant-objects l = Grows l.fn.have l.bytes l.texts l.rest

abbrev pub decreases-objects : goal.decreases-objects
decreases-objects l = length l.rest
