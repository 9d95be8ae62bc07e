use Rattle.std.proofs.Common.{◌≡◌, length}
use Rattle.std.specs.List.{list_any}
use Rattle.s3_names.specs.Query.{pieces, has_bad_side}
use Rattle.s3_names.proofs.query.any_bad_side.Given as goal

abbrev pub invariant-pieces : goal.invariant-pieces
invariant-pieces l = list_any has_bad_side (pieces l.text) ≡ list_any has_bad_side (pieces l.rest)

abbrev pub decreases-pieces : goal.decreases-pieces
decreases-pieces l = length l.rest
