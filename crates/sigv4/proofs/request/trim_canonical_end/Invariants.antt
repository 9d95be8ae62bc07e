use Rattle.std.proofs.Common.{◌≡◌, length}
use Rattle.sigv4.specs.Canonical.{trim_canonical_end}
use Rattle.sigv4.proofs.request.trim_canonical_end.Given as goal

abbrev pub invariant-bytes : goal.invariant-bytes
invariant-bytes l = trim_canonical_end l.text ≡ trim_canonical_end l.rest

abbrev pub decreases-bytes : goal.decreases-bytes
decreases-bytes l = length l.rest
