use Rattle.std.proofs.Common.{length}
use Rattle.s3_names.proofs.QueryLemmas.{HasRead}
use Rattle.s3_names.proofs.query.read_query_pairs.Given as goal

abbrev pub invariant-pieces : goal.invariant-pieces
invariant-pieces l = HasRead l.text l.pairs l.rest

abbrev pub decreases-pieces : goal.decreases-pieces
decreases-pieces l = length l.rest
