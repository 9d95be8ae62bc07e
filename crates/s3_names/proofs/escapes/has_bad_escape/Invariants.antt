use Rattle.std.proofs.Common.{◌≡◌, length}
use Rattle.s3_names.specs.Escapes.{has_bad_escape}
use Rattle.s3_names.proofs.escapes.has_bad_escape.Given as goal

abbrev pub invariant-bytes : goal.invariant-bytes
invariant-bytes l = has_bad_escape l.text ≡ has_bad_escape l.rest

abbrev pub decreases-bytes : goal.decreases-bytes
decreases-bytes l = length l.rest
