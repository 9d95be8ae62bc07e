use Rattle.std.proofs.Common.{◌≡◌, ◌++◌, length}
use Rattle.sigv4.specs.Canonical.{single_spaced}
use Rattle.sigv4.proofs.request.single_spaced.Given as goal

abbrev pub invariant-bytes : goal.invariant-bytes
invariant-bytes l = single_spaced l.text ≡ l.spaced ++ single_spaced l.rest

abbrev pub decreases-bytes : goal.decreases-bytes
decreases-bytes l = length l.rest
