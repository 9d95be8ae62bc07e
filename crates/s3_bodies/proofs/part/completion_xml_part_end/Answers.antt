use Rattle.std.proofs.lemmas.Result.{err_from_is_err_and}
use Rattle.s3_bodies.proofs.PartLemmas.{end_begins, end_stops}
use Rattle.s3_bodies.proofs.part.completion_xml_part_end.Goals as goal

pub returns-in_err-rest : goal.returns-in_err-rest
returns-in_err-rest c = let p = err_from_is_err_and c.from_residual.result c.from_residual.ensures.1 in
    rw (p.1, p.2) (end_stops (c.args.number, c.args.etag.now) c.args.bytes.now _ _ _ c.skip_space.ensures.1 c.in_err-rest.ensures)

pub returns : goal.returns
returns c = end_begins (c.args.number, c.args.etag.now) c.args.bytes.now _ _ _ c.skip_space.ensures.1 c.in_ok-rest.ensures
