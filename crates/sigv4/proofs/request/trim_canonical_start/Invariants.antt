use Rattle.std.proofs.Common.{◌≡◌, length}
use Rattle.sigv4.specs.Canonical.{skip_blanks}
use Rattle.sigv4.proofs.request.trim_canonical_start.Given as goal

abbrev pub invariant-bytes : goal.invariant-bytes
invariant-bytes l = skip_blanks l.text ≡ skip_blanks l.rest

abbrev pub decreases-bytes : goal.decreases-bytes
decreases-bytes l = length l.rest
