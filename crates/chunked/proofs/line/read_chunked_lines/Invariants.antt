use Rattle.std.proofs.Common.{◌≡◌, ◌-◌}
use Rattle.chunked.specs.Reading.{lines_at, with_front}
use Rattle.chunked.proofs.line.read_chunked_lines.Given as goal

abbrev pub invariant-lines : goal.invariant-lines
invariant-lines l = with_front l.lines (lines_at (l.most - l.turn) l.rest) ≡ lines_at l.most l.bytes
