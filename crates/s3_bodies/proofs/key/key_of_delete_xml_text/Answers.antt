use Rattle.std.proofs.Common.{ap, subst, sym, ◌∙◌}
use Rattle.s3_names.specs.Key.{is_key}
use Rattle.s3_bodies.specs.DeleteReaders.{IsMeaning}
use Rattle.s3_bodies.proofs.Keys.{no_key}
use Rattle.s3_bodies.proofs.key.key_of_delete_xml_text.Goals as goal

pub returns-else-is_key : goal.returns-else-is_key
returns-else-is_key c =
    no_key c.args.text.now c.in-Some.bytes (subst (λ m. IsMeaning c.args.text.now m) c.in-Some.is c.in_ok-bytes.ensures)
    (sym (c.is_key.ensures ∙ ap is_key c.as_slice.ensures) ∙ c.if-is_key.false)

pub returns-in-None : goal.returns-in-None
returns-in-None c = λ key h. (subst (λ m. IsMeaning c.args.text.now m) c.in-None.is c.in_ok-bytes.ensures) key h.0
