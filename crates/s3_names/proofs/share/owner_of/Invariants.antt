use Rattle.std.proofs.Common.{◌≡◌, drop}
use Rattle.s3_names.specs.Share.{owner_of}
use Rattle.s3_names.proofs.share.owner_of.Given as goal

abbrev pub invariant-loop-row : goal.invariant-loop-row
invariant-loop-row l = owner_of l.bucket l.rows ≡ owner_of l.bucket (drop l.row-index l.rows)
