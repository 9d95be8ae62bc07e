use Rattle.std.proofs.Common.{length}
use Rattle.chunked.proofs.Loops.{Going}
use Rattle.chunked.proofs.trailers.chunked_trailers.Given as goal

abbrev pub invariant-chunks : goal.invariant-chunks
invariant-chunks l = Going l.form l.seal l.bytes l.previous l.rest

abbrev pub decreases-chunks : goal.decreases-chunks
decreases-chunks l = length l.rest
