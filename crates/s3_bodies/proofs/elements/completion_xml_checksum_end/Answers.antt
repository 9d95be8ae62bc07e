use Rattle.std.proofs.lemmas.Result.{err_from_is_err_and}
use Rattle.s3_bodies.proofs.Checksums.{end_breaks, name_breaks, end_reads}
use Rattle.s3_bodies.proofs.elements.completion_xml_checksum_end.Goals as goal

pub returns-in_err-rest : goal.returns-in_err-rest
returns-in_err-rest c = let p = err_from_is_err_and c.from_residual.result c.from_residual.ensures.1 in
    rw (p.1, p.2) (end_breaks c.args.name.now c.args.bytes.now _ c.in_err-rest.ensures)

pub returns-in_err-rest-2 : goal.returns-in_err-rest-2
returns-in_err-rest-2 c = let p = err_from_is_err_and c.from_residual-in_err-rest-2.result c.from_residual-in_err-rest-2.ensures.1 in
    rw (p.1, p.2) (name_breaks c.args.name.now c.args.bytes.now _ _ c.in_ok-rest.ensures c.in_err-rest-2.ensures)

pub returns : goal.returns
returns c = end_reads c.args.name.now c.args.bytes.now _ _ c.in_ok-rest.ensures c.in_ok-rest-2.ensures _ c.read_word_form-3.ensures
