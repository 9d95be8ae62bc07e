use Rattle.std.proofs.Common.{◌≡◌, codes, drop}
use Rattle.std.specs.List.{list_any}
use Rattle.http_wire.specs.Headers.{values_of}
use Rattle.http_wire.specs.Closing.{has_close}
use Rattle.http_wire.proofs.closing.close_header.Given as goal

abbrev pub invariant-loop-header : goal.invariant-loop-header
invariant-loop-header l = list_any has_close (values_of (codes "connection") l.headers) ≡ list_any has_close (values_of (codes "connection") (drop l.header-index l.headers))
