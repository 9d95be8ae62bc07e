use Rattle.s3_bodies.proofs.lemmas.Deletions.{deletes_tells}
use Rattle.s3_bodies.proofs.delete.read_delete.Goals as goal

pub returns-clause-tells : goal.returns-clause-tells
returns-clause-tells c = deletes_tells c.args.bytes.now c.deletes_in_delete_xml.result c.deletes_in_delete_xml.ensures
