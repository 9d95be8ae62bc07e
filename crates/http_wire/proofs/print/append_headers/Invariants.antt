use Rattle.std.proofs.Common.{◌≡◌, ◌++◌, take}
use Rattle.std.specs.Prelude.{flat_map}
use Rattle.http_wire.specs.Print.{header_line}
use Rattle.http_wire.proofs.print.append_headers.Given as goal

abbrev pub invariant-loop-header : goal.invariant-loop-header
invariant-loop-header l = l.text ≡ l.initial.text ++ flat_map header_line (take l.header-index l.headers)
