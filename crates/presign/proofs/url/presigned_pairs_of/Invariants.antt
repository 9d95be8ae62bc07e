use Rattle.std.proofs.Common.{◌≡◌, take}
use Rattle.presign.proofs.url.presigned_pairs_of.Given as goal

abbrev pub invariant-loop-pair : goal.invariant-loop-pair
invariant-loop-pair l = l.pairs ≡ take l.pair-index l.query
