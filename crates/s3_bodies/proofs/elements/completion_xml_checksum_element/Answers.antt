use Rattle.std.proofs.lemmas.Result.{err_from_is_err_and}
use Rattle.s3_bodies.proofs.Checksums.{checksum_breaks, checksum_reads}
use Rattle.s3_bodies.proofs.elements.completion_xml_checksum_element.Goals as goal

pub returns-in_err-rest : goal.returns-in_err-rest
returns-in_err-rest c = let p = err_from_is_err_and c.from_residual.result c.from_residual.ensures.1 in
    rw (p.1, p.2) (checksum_breaks c.args.bytes.now _ c.in_err-rest.ensures)

pub returns : goal.returns
returns c = checksum_reads c.args.bytes.now _ c.in_ok-rest.ensures _ c.completion_xml_checksum_name.ensures
