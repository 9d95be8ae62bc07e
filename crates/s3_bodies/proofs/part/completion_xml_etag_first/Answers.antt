use Rattle.std.proofs.lemmas.Result.{err_from_is_err_and}
use Rattle.s3_bodies.proofs.PartLemmas.{etag_first_breaks, etag_first_reads}
use Rattle.s3_bodies.proofs.part.completion_xml_etag_first.Goals as goal

pub returns-in_err-etag : goal.returns-in_err-etag
returns-in_err-etag c = let p = err_from_is_err_and c.from_residual.result c.from_residual.ensures.1 in
    rw (p.1, p.2) (etag_first_breaks c.args.bytes.now _ c.in_err-etag.ensures)

pub returns : goal.returns
returns c = etag_first_reads c.args.bytes.now _ _ c.in_ok-etag.ensures _ c.completion_xml_number_last.ensures
