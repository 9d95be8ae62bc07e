use Rattle.std.proofs.Common.{length, sym, subst, ◌∙◌}
use Rattle.xml_forms.proofs.lemmas.Elements.{is_zero, not_zero}
use Rattle.s3_bodies.specs.DeleteReaders.{Appends}
use Rattle.s3_bodies.proofs.Keys.{meaning_next, meaning_none, meaning_unread, meaning_whole}
use Rattle.s3_bodies.proofs.key.meaning_of_delete_xml_text.Goals as goal

pub returns-in_default : goal.returns-in_default
returns-in_default c = meaning_unread c.args.text.now c.pieces.bytes c.pieces.rest.now _ c.pieces.invariant (not_zero (length c.pieces.rest.now) (sym c.pieces-test.true ∙ c.is_empty.ensures)) c.in_default.ensures

pub returns-then-not-branch : goal.returns-then-not-branch
returns-then-not-branch c = meaning_none c.args.text.now c.pieces.bytes c.pieces.rest.now _ c.in-Ok.piece c.pieces.invariant c.in-Ok.ensures
    (subst (λ b. Appends c.in-Ok.piece c.pieces.bytes c.append_delete_xml_piece.new.bytes b) c.if-not-branch.true c.in_ok-append_delete_xml_piece.ensures)

pub pieces-preserved : goal.pieces-preserved
pieces-preserved c =
    let added = subst (λ b. Appends c.in-Ok.piece c.pieces.bytes c.append_delete_xml_piece.new.bytes b) c.if-not-branch.false c.in_ok-append_delete_xml_piece.ensures in
    meaning_next c.args.text.now c.pieces.bytes c.append_delete_xml_piece.new.bytes c.pieces.rest.now c.in-Ok.after.now added.0 c.in-Ok.piece c.pieces.invariant c.in-Ok.ensures added.1 added.2

pub returns : goal.returns
returns c = meaning_whole c.args.text.now c.pieces.bytes c.pieces.rest.now c.pieces.invariant (is_zero (length c.pieces.rest.now) (sym c.pieces-test.false ∙ c.is_empty.ensures))
