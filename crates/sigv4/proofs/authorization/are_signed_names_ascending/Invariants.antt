use Rattle.std.proofs.Common.{◌≡◌, length}
use Rattle.sigv4.specs.Authorization.{are_ascending}
use Rattle.sigv4.proofs.authorization.are_signed_names_ascending.Given as goal

abbrev pub invariant-names : goal.invariant-names
invariant-names l = are_ascending l.names ≡ are_ascending l.rest

abbrev pub decreases-names : goal.decreases-names
decreases-names l = length l.rest
