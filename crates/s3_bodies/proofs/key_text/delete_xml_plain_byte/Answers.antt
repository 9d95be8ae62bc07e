use Rattle.std.proofs.Common.{length, sym, ◌∙◌}
use Rattle.xml_forms.proofs.lemmas.Elements.{is_zero, not_zero}
use Rattle.s3_bodies.proofs.Pieces.{plain_begins, plain_none, plain_other}
use Rattle.s3_bodies.proofs.key_text.delete_xml_plain_byte.Goals as goal

pub returns-then-is_empty : goal.returns-then-is_empty
returns-then-is_empty c = plain_none c.args.bytes.now (is_zero (length c.args.bytes.now) c.if-is_empty.ensures)

pub returns-then-not-has : goal.returns-then-not-has
returns-then-not-has c = plain_other c.args.bytes.now (not_zero (length c.args.bytes.now) c.if-is_empty.ensures) (sym c.has.ensures ∙ c.if-not-has.true)

pub returns : goal.returns
returns c = plain_begins c.args.bytes.now (not_zero (length c.args.bytes.now) c.if-is_empty.ensures) (sym c.has.ensures ∙ c.if-not-has.false)
