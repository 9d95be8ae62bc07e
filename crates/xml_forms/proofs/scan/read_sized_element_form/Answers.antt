use Rattle.std.proofs.Common.{◌≡◌, true, false, Bool, length, sym, ◌∙◌}
use Rattle.std.proofs.lemmas.Result.{err_from_is_err_and}
use Rattle.xml_forms.proofs.lemmas.Elements.{element_breaks, element_empty, element_stops, element_begins, filled_by, is_zero, no_bytes, not_zero}
use Rattle.xml_forms.proofs.scan.read_sized_element_form.Goals.{else-filled-via-then-filled+else-is_empty, else-filled-via-else-filled}
use Rattle.xml_forms.proofs.scan.read_sized_element_form.Goals as goal

not_both : (b : Bool) → b ≡ true → b ≡ false → ⊥
not_both b h g = let no : true ≡ false = sym h ∙ g in cc no

pub returns-in_err-rest : goal.returns-in_err-rest
returns-in_err-rest c = let p = err_from_is_err_and c.from_residual.result c.from_residual.ensures.1 in
    rw (p.1, p.2) (element_breaks c.args.class c.args.filled c.args.most c.requires.positive c.args.end.now c.requires.ends c.args.start.now c.args.bytes.now _ c.in_err-rest.ensures)

pub returns-then-is_empty : goal.returns-then-is_empty
returns-then-is_empty c =
    element_empty c.args.class c.args.filled c.args.most c.requires.positive c.args.end.now c.requires.ends c.args.start.now c.args.bytes.now _ c.read_run_form.result.0.now c.read_run_form.result.1.now c.if-filled.true c.in_ok-rest.ensures
    (rw c.unwrap_or.ensures at c.read_run_form.ensures) (no_bytes c.read_run_form.result.0.now (is_zero (length c.read_run_form.result.0.now) c.if-is_empty.ensures))

pub returns-in_err-after : goal.returns-in_err-after
returns-in_err-after c = let p = err_from_is_err_and c.from_residual-in_err-after.result c.from_residual-in_err-after.ensures.1 in
    rw (p.1, p.2) (element_stops c.args.class c.args.filled c.args.most c.requires.positive c.args.end.now c.requires.ends c.args.start.now c.args.bytes.now _ c.read_run_form.result.0.now c.read_run_form.result.1.now _
    (filled_by c.args.filled c.read_run_form.result.0.now (elim c.else-filled.branch [
      | else-filled-via-then-filled+else-is_empty w ↦ λ h e. not_zero (length c.read_run_form.result.0.now) w.if-is_empty.ensures e
      | else-filled-via-else-filled w ↦ λ h e. not_both c.args.filled h w.if-filled.false
    ]))
    c.in_ok-rest.ensures (rw c.unwrap_or.ensures at c.read_run_form.ensures) c.in_err-after.ensures)

pub returns : goal.returns
returns c =
    element_begins c.args.class c.args.filled c.args.most c.requires.positive c.args.end.now c.requires.ends c.args.start.now c.args.bytes.now _ c.read_run_form.result.0.now c.read_run_form.result.1.now _
    (filled_by c.args.filled c.read_run_form.result.0.now (elim c.else-filled.branch [
      | else-filled-via-then-filled+else-is_empty w ↦ λ h e. not_zero (length c.read_run_form.result.0.now) w.if-is_empty.ensures e
      | else-filled-via-else-filled w ↦ λ h e. not_both c.args.filled h w.if-filled.false
    ]))
    c.in_ok-rest.ensures (rw c.unwrap_or.ensures at c.read_run_form.ensures) c.in_ok-after.ensures
