use Rattle.std.proofs.Common.{◌≡◌, length}
use Rattle.http_wire.specs.Scan.{in_method}
use Rattle.http_wire.proofs.scan.in_method.Given as goal

abbrev pub invariant-bytes : goal.invariant-bytes
invariant-bytes l = in_method l.rest ≡ in_method l.bytes

abbrev pub decreases-bytes : goal.decreases-bytes
decreases-bytes l = length l.rest
