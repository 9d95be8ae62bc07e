use Rattle.std.proofs.lemmas.Result.{err_from_is_err_and}
use Rattle.xml_forms.proofs.lemmas.Openings.{declared_breaks, declared_open, declared_reads}
use Rattle.xml_forms.proofs.document.opening_with_declaration.Goals as goal

pub returns-in_err-rest : goal.returns-in_err-rest
returns-in_err-rest c = let p = err_from_is_err_and c.from_residual.result c.from_residual.ensures.1 in
    rw (p.1, p.2) (declared_breaks c.args.name.now c.args.bytes.now _ c.in_err-rest.ensures)

pub returns-in_err-inner : goal.returns-in_err-inner
returns-in_err-inner c = let p = err_from_is_err_and c.from_residual-in_err-inner.result c.from_residual-in_err-inner.ensures.1 in
    rw (p.1, p.2) (declared_open c.args.name.now c.args.bytes.now _ _ c.in_ok-rest.ensures c.in_err-inner.ensures)

pub returns : goal.returns
returns c = declared_reads c.args.name.now c.args.bytes.now _ _ _ c.in_ok-rest.ensures c.in_ok-inner.ensures _ c.opening_root_tag.ensures
