use Rattle.std.proofs.lemmas.Result.{err_from_is_err_and}
use Rattle.s3_bodies.proofs.ElementLemmas.{number_begins, number_stops}
use Rattle.s3_bodies.proofs.elements.completion_xml_bare_number.Goals as goal

pub returns-in_err-digits : goal.returns-in_err-digits
returns-in_err-digits c = let p = err_from_is_err_and c.from_residual.result c.from_residual.ensures.1 in
    rw (p.1, p.2) (number_stops c.args.bytes.now _ c.in_err-digits.ensures)

pub returns : goal.returns
returns c = number_begins c.args.bytes.now _ _ _ c.short_value.ensures c.in_ok-digits.ensures
