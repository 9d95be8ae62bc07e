use Rattle.std.proofs.Common.{◌≡◌, length}
use Rattle.std.specs.List.{list_all, slice_split}
use Rattle.s3_names.specs.Bucket.{is_short_number, is_dot}
use Rattle.s3_names.proofs.bucket.are_numbers_between_dots.Given as goal

abbrev pub invariant-texts : goal.invariant-texts
invariant-texts l = list_all is_short_number (slice_split is_dot l.name) ≡ list_all is_short_number (slice_split is_dot l.rest)

abbrev pub decreases-texts : goal.decreases-texts
decreases-texts l = length l.rest
