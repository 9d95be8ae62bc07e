use Rattle.std.proofs.Common.{◌≡◌, ◌++◌, length}
use Rattle.request_fields.proofs.Tags.{tags}
use Rattle.request_fields.proofs.conditions.etags_between_commas.Given as goal

abbrev pub invariant-pieces : goal.invariant-pieces
invariant-pieces l = tags l.value ≡ l.etags ++ tags l.rest

abbrev pub decreases-pieces : goal.decreases-pieces
decreases-pieces l = length l.rest
