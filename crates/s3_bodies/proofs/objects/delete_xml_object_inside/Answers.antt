use Rattle.std.proofs.lemmas.Result.{err_from_is_err_and}
use Rattle.s3_bodies.proofs.ObjectLemmas.{inside_begins, inside_breaks, inside_stops}
use Rattle.s3_bodies.proofs.objects.delete_xml_object_inside.Goals as goal

pub returns-in_err-text : goal.returns-in_err-text
returns-in_err-text c = let p = err_from_is_err_and c.from_residual.result c.from_residual.ensures.1 in
    rw (p.1, p.2) (inside_breaks c.args.bytes.now _ c.in_err-text.ensures)

pub returns-in_err-rest : goal.returns-in_err-rest
returns-in_err-rest c = let p = err_from_is_err_and c.from_residual-in_err-rest.result c.from_residual-in_err-rest.ensures.1 in
    rw (p.1, p.2) (inside_stops c.args.bytes.now _ _ _ c.in_ok-text.ensures c.in_err-rest.ensures)

pub returns : goal.returns
returns c = inside_begins c.args.bytes.now _ _ _ c.in_ok-text.ensures c.in_ok-rest.ensures
