use Rattle.std.proofs.Common.{◌≡◌, take}
use Rattle.sigv4.specs.Canonical.{canonical_headers}
use Rattle.sigv4.proofs.request.canonical_headers.Given as goal

abbrev pub invariant-loop-name : goal.invariant-loop-name
invariant-loop-name l = l.text ≡ canonical_headers l.headers (take l.name-index l.names)
