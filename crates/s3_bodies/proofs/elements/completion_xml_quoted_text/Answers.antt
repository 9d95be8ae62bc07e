use Rattle.std.proofs.Common.{length, Err, Ok}
use Rattle.std.proofs.lemmas.Result.{err_from_is_err_and}
use Rattle.xml_forms.proofs.lemmas.Elements.{is_zero, not_zero}
use Rattle.s3_bodies.proofs.ElementLemmas.{end_begins, end_breaks, end_stops, text_empty, text_reads}
use Rattle.s3_bodies.proofs.elements.completion_xml_quoted_text.Goals as goal

pub returns-then-is_empty : goal.returns-then-is_empty
returns-then-is_empty c = text_empty c.args.bytes.now _ _ c.read_run_form.ensures (is_zero (length c.read_run_form.result.0.now) c.if-is_empty.ensures)

pub returns-in_err-last : goal.returns-in_err-last
returns-in_err-last c = let p = err_from_is_err_and c.from_residual.result c.from_residual.ensures.1 in
    rw (p.1, p.2) (text_reads c.args.bytes.now _ _ c.read_run_form.ensures (not_zero (length c.read_run_form.result.0.now) c.if-is_empty.ensures) (Err _) (end_breaks _ _ _ c.in_err-last.ensures))

pub returns-in_err-after : goal.returns-in_err-after
returns-in_err-after c = let p = err_from_is_err_and c.from_residual-in_err-after.result c.from_residual-in_err-after.ensures.1 in
    rw (p.1, p.2) (text_reads c.args.bytes.now _ _ c.read_run_form.ensures (not_zero (length c.read_run_form.result.0.now) c.if-is_empty.ensures) (Err _) (end_stops _ _ _ _ c.in_ok-last.ensures c.in_err-after.ensures))

pub returns : goal.returns
returns c = text_reads c.args.bytes.now _ _ c.read_run_form.ensures (not_zero (length c.read_run_form.result.0.now) c.if-is_empty.ensures) (Ok (_, _)) (end_begins _ _ _ _ c.in_ok-last.ensures c.in_ok-after.ensures)
