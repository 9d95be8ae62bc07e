use Rattle.std.proofs.lemmas.Result.{err_from_is_err_and}
use Rattle.s3_bodies.proofs.PartLemmas.{number_then_breaks, number_then_reads}
use Rattle.s3_bodies.proofs.part.completion_xml_number_then.Goals as goal

pub returns-in_err-number : goal.returns-in_err-number
returns-in_err-number c = let p = err_from_is_err_and c.from_residual.result c.from_residual.ensures.1 in
    rw (p.1, p.2) (number_then_breaks c.args.etag.now c.args.bytes.now _ c.in_err-number.ensures)

pub returns : goal.returns
returns c = number_then_reads c.args.etag.now c.args.bytes.now _ _ c.in_ok-number.ensures _ c.completion_xml_part_last.ensures
