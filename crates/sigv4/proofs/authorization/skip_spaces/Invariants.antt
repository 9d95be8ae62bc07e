use Rattle.std.proofs.Common.{◌≡◌, length}
use Rattle.sigv4.specs.Authorization.{skip_spaces}
use Rattle.sigv4.proofs.authorization.skip_spaces.Given as goal

abbrev pub invariant-bytes : goal.invariant-bytes
invariant-bytes l = skip_spaces l.text ≡ skip_spaces l.rest

abbrev pub decreases-bytes : goal.decreases-bytes
decreases-bytes l = length l.rest
