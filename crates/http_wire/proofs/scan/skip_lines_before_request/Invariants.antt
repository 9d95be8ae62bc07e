use Rattle.std.proofs.Common.{◌≡◌, length}
use Rattle.http_wire.specs.Scan.{skip_blank}
use Rattle.http_wire.proofs.scan.skip_lines_before_request.Given as goal

abbrev pub invariant-lines : goal.invariant-lines
invariant-lines l = skip_blank l.rest ≡ skip_blank l.bytes

abbrev pub decreases-lines : goal.decreases-lines
decreases-lines l = length l.rest
