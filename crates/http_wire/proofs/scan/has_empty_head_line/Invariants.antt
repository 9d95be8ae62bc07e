use Rattle.std.proofs.Common.{◌≡◌, length}
use Rattle.http_wire.specs.Scan.{has_empty}
use Rattle.http_wire.proofs.scan.has_empty_head_line.Given as goal

abbrev pub invariant-bytes : goal.invariant-bytes
invariant-bytes l = has_empty l.bytes ≡ has_empty l.rest

abbrev pub decreases-bytes : goal.decreases-bytes
decreases-bytes l = length l.rest
