use Rattle.std.proofs.lemmas.Result.{err_from_is_err_and}
use Rattle.s3_bodies.proofs.ElementLemmas.{etag_breaks, etag_reads}
use Rattle.s3_bodies.proofs.elements.completion_xml_etag_element.Goals as goal

pub returns-in_err-rest : goal.returns-in_err-rest
returns-in_err-rest c = let p = err_from_is_err_and c.from_residual.result c.from_residual.ensures.1 in
    rw (p.1, p.2) (etag_breaks c.args.bytes.now _ c.in_err-rest.ensures)

pub returns : goal.returns
returns c = etag_reads c.args.bytes.now _ c.in_ok-rest.ensures _ _ _ c.nearer.ensures c.read_short_element_form-bare.ensures c.completion_xml_quoted_etag.ensures
