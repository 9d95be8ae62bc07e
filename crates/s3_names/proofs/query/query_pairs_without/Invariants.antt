use Rattle.std.proofs.Common.{◌≡◌, take}
use Rattle.s3_names.specs.Query.{without}
use Rattle.s3_names.proofs.query.query_pairs_without.Given as goal

abbrev pub invariant-loop-pair : goal.invariant-loop-pair
invariant-loop-pair l = l.kept ≡ without l.name (take l.pair-index l.pairs)
