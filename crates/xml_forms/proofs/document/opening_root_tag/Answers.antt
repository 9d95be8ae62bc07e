use Rattle.std.proofs.lemmas.Result.{err_from_is_err_and}
use Rattle.xml_forms.proofs.lemmas.Openings.{tag_breaks, tag_reads}
use Rattle.xml_forms.proofs.document.opening_root_tag.Goals as goal

pub returns-in_err-rest : goal.returns-in_err-rest
returns-in_err-rest c = let p = err_from_is_err_and c.from_residual.result c.from_residual.ensures.1 in
    rw (p.1, p.2) (tag_breaks c.args.name.now c.requires.0 c.requires.1 c.args.bytes.now _ _ _ c.skip_space.ensures.1 c.in_err-rest.ensures)

pub returns : goal.returns
returns c = tag_reads c.args.name.now c.requires.0 c.requires.1 c.args.bytes.now _ _ _ c.skip_space.ensures.1 c.in_ok-rest.ensures _ c.opening_root_end.ensures
