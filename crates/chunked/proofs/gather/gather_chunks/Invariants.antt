use Rattle.std.proofs.Common.{length, ◌-◌}
use Rattle.chunked.proofs.Moves.{Gathering}
use Rattle.chunked.proofs.gather.gather_chunks.Given as goal

abbrev pub invariant-chunks : goal.invariant-chunks
invariant-chunks l = Gathering l.fn.body.items l.body.items l.signed l.to l.at

abbrev pub decreases-chunks : goal.decreases-chunks
decreases-chunks l = length l.body.items - l.at
