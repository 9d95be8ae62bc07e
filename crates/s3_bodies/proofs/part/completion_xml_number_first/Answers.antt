use Rattle.std.proofs.lemmas.Result.{err_from_is_err_and}
use Rattle.s3_bodies.proofs.PartLemmas.{number_first_breaks, number_first_reads}
use Rattle.s3_bodies.proofs.part.completion_xml_number_first.Goals as goal

pub returns-in_err-number : goal.returns-in_err-number
returns-in_err-number c = let p = err_from_is_err_and c.from_residual.result c.from_residual.ensures.1 in
    rw (p.1, p.2) (number_first_breaks c.args.bytes.now _ c.in_err-number.ensures)

pub returns : goal.returns
returns c = number_first_reads c.args.bytes.now _ _ c.in_ok-number.ensures _ c.completion_xml_etag_last.ensures
