use Rattle.std.proofs.lemmas.Result.{err_from_is_err_and}
use Rattle.s3_bodies.proofs.ObjectLemmas.{quiet_breaks, quiet_reads}
use Rattle.s3_bodies.proofs.objects.delete_xml_quiet.Goals as goal

pub returns-in_err-rest : goal.returns-in_err-rest
returns-in_err-rest c = let p = err_from_is_err_and c.from_residual.result c.from_residual.ensures.1 in
    rw (p.1, p.2) (quiet_breaks c.args.bytes.now _ c.in_err-rest.ensures)

pub returns : goal.returns
returns c = quiet_reads c.args.bytes.now _ c.in_ok-rest.ensures _ _ _ c.nearer.ensures c.delete_xml_quiet_text.ensures c.delete_xml_quiet_text-2.ensures
