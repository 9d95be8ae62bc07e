use Rattle.std.proofs.lemmas.Result.{err_from_is_err_and}
use Rattle.s3_bodies.specs.KeyText.{Decimal, Hexadecimal}
use Rattle.s3_bodies.proofs.Pieces.{nearer_piece, number_breaks, number_reads}
use Rattle.s3_bodies.proofs.key_text.delete_xml_numbered_reference.Goals as goal

pub returns-in_err-rest : goal.returns-in_err-rest
returns-in_err-rest c = let p = err_from_is_err_and c.from_residual.result c.from_residual.ensures.1 in
    rw (p.1, p.2) (number_breaks c.args.bytes.now _ c.in_err-rest.ensures)

pub returns : goal.returns
returns c = number_reads c.args.bytes.now _ c.in_ok-rest.ensures _ (nearer_piece Decimal Hexadecimal _ _ _ _ c.nearer.ensures c.delete_xml_decimal_reference.ensures c.delete_xml_hexadecimal_reference.ensures)
