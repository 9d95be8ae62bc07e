use Rattle.s3_bodies.specs.KeyText.{Plain, Reference}
use Rattle.s3_bodies.proofs.Pieces.{nearer_piece}
use Rattle.s3_bodies.proofs.key_text.next_delete_xml_piece.Goals as goal

pub returns : goal.returns
returns c = nearer_piece Plain Reference c.args.bytes.now _ _ _ c.nearer.ensures c.delete_xml_plain_byte.ensures c.delete_xml_reference.ensures
