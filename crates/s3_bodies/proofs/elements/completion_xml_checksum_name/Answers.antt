use Rattle.std.proofs.lemmas.Result.{err_from_is_err_and}
use Rattle.s3_bodies.proofs.Checksums.{tag_breaks, tag_reads}
use Rattle.s3_bodies.proofs.elements.completion_xml_checksum_name.Goals as goal

pub returns-in_err-rest : goal.returns-in_err-rest
returns-in_err-rest c = let p = err_from_is_err_and c.from_residual.result c.from_residual.ensures.1 in
    rw (p.1, p.2) (tag_breaks c.args.bytes.now _ _ _ c.read_run_form.ensures c.in_err-rest.ensures)

pub returns : goal.returns
returns c = tag_reads c.args.bytes.now _ _ _ c.read_run_form.ensures c.in_ok-rest.ensures _ c.completion_xml_checksum_text.ensures
