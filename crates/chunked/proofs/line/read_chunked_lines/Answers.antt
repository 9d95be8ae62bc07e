use Rattle.std.proofs.Common.{sym, ◌∙◌, ap, ◌+◌, ◌-◌, [], ◌∷◌, ◌++◌}
use Rattle.chunked.specs.Reading.{lines_at, with_front}
use Rattle.chunked.specs.Views.{line_of}
use Rattle.chunked.proofs.Loops.{lines_step}
use Rattle.chunked.proofs.line.read_chunked_lines.Goals as goal

pub lines-preserved : goal.lines-preserved
lines-preserved c =
    ap (λ ls. with_front ls (lines_at (c.args.most - (c.lines.turn + 1)) c.in_ok-line.behind.now))
    (c.in_ok-push.ensures.ok ∙ ap (λ p. c.lines.lines ++ p ∷ []) c.in_ok-chunked_line_pair.ensures)
    ∙ lines_step c.args.most c.lines.turn c.lines.lines c.lines.rest.now c.in_ok-line.behind.now (line_of c.in_ok-line.line) c.lines-test.true
    (sym c.begins_line_end.ensures ∙ c.if-begins_line_end.false) c.in_ok-line.ensures
    ∙ c.lines.invariant
