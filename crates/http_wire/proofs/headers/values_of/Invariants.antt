use Rattle.std.proofs.Common.{◌≡◌, take}
use Rattle.http_wire.specs.Headers.{values_of}
use Rattle.http_wire.proofs.headers.values_of.Given as goal

abbrev pub invariant-loop-header : goal.invariant-loop-header
invariant-loop-header l = l.values ≡ values_of l.name (take l.header-index l.headers)
