use Rattle.std.proofs.Common.{codes}
use Rattle.xml_forms.specs.Forms.{Exactly}
use Rattle.s3_bodies.specs.declared.key_text.Piece.TheVariants.{Byte}
use Rattle.s3_bodies.proofs.Pieces.{nearer_piece}
use Rattle.s3_bodies.proofs.key_text.delete_xml_angle_bracket.Goals as goal

pub returns : goal.returns
returns c = nearer_piece (Exactly (Byte 60) (codes "lt;")) (Exactly (Byte 62) (codes "gt;")) c.args.bytes.now _ _ _ c.nearer.ensures c.delete_xml_named_entity.ensures c.delete_xml_named_entity-2.ensures
