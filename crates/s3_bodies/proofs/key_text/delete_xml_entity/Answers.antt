use Rattle.std.proofs.Common.{codes}
use Rattle.xml_forms.specs.Forms.{Either, Exactly}
use Rattle.s3_bodies.specs.KeyText.{Angle, QuoteMark}
use Rattle.s3_bodies.specs.declared.key_text.Piece.TheVariants.{Byte}
use Rattle.s3_bodies.proofs.Pieces.{nearer_piece}
use Rattle.s3_bodies.proofs.key_text.delete_xml_entity.Goals as goal

pub returns : goal.returns
returns c =
    nearer_piece (Exactly (Byte 38) (codes "amp;")) (Either Angle QuoteMark) c.args.bytes.now _ _ _ c.nearer.ensures c.delete_xml_named_entity.ensures
    (nearer_piece Angle QuoteMark c.args.bytes.now _ _ _ c.nearer-other.ensures c.delete_xml_angle_bracket.ensures c.delete_xml_quote_mark.ensures)
