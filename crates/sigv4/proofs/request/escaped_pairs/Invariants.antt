use Rattle.std.proofs.Common.{◌≡◌, map, take}
use Rattle.sigv4.specs.Canonical.{escaped_pair}
use Rattle.sigv4.proofs.request.escaped_pairs.Given as goal

abbrev pub invariant-loop-pair : goal.invariant-loop-pair
invariant-loop-pair l = l.escaped ≡ map escaped_pair (take l.pair-index l.pairs)
