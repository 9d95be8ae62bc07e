use Rattle.std.proofs.Common.{◌≡◌, length}
use Rattle.s3_names.specs.Bucket.{has_two_dots}
use Rattle.s3_names.proofs.bucket.two_dots.Given as goal

abbrev pub invariant-pairs : goal.invariant-pairs
invariant-pairs l = has_two_dots l.name ≡ has_two_dots l.rest

abbrev pub decreases-pairs : goal.decreases-pairs
decreases-pairs l = length l.rest
