use Rattle.std.proofs.Common.{◌≡◌, map, take}
use Rattle.http_wire.specs.Headers.{values_of}
use Rattle.sigv4.specs.Canonical.{clean_header_value}
use Rattle.sigv4.proofs.request.clean_values.Given as goal

abbrev pub invariant-loop-header : goal.invariant-loop-header
invariant-loop-header l = l.values ≡ map clean_header_value (values_of l.name (take l.header-index l.headers))
