use Rattle.std.proofs.lemmas.Result.{err_from_is_err_and}
use Rattle.xml_forms.proofs.lemmas.Elements.{exactly_begins, exactly_stops}
use Rattle.s3_bodies.proofs.objects.delete_xml_quiet_text.Goals as goal

pub returns-in_err-rest : goal.returns-in_err-rest
returns-in_err-rest c = let p = err_from_is_err_and c.from_residual.result c.from_residual.ensures.1 in
    rw (p.1, p.2) (exactly_stops c.args.quiet c.args.text.now c.args.bytes.now _ c.in_err-rest.ensures)

pub returns : goal.returns
returns c = exactly_begins c.args.quiet c.args.text.now c.args.bytes.now _ c.in_ok-rest.ensures
