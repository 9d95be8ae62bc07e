use Rattle.std.proofs.lemmas.Result.{err_from_is_err_and}
use Rattle.s3_bodies.proofs.Locations.{constraint_breaks, constraint_stops, constraint_begins}
use Rattle.s3_bodies.proofs.location.location_xml_constraint.Goals as goal

pub returns-in_err-text : goal.returns-in_err-text
returns-in_err-text c = let p = err_from_is_err_and c.from_residual.result c.from_residual.ensures.1 in
    rw (p.1, p.2) (constraint_breaks c.args.bytes.now _ c.in_err-text.ensures)

pub returns-in_err-rest : goal.returns-in_err-rest
returns-in_err-rest c = let p = err_from_is_err_and c.from_residual-in_err-rest.result c.from_residual-in_err-rest.ensures.1 in
    rw (p.1, p.2) (constraint_stops c.args.bytes.now _ _ _ _ _ c.in_ok-text.ensures c.skip_space.ensures.1 c.in_err-rest.ensures)

pub returns : goal.returns
returns c = constraint_begins c.args.bytes.now _ _ _ _ _ c.in_ok-text.ensures c.skip_space.ensures.1 c.in_ok-rest.ensures
