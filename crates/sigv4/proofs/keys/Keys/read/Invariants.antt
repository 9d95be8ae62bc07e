use Rattle.std.proofs.Common.{length}
use Rattle.sigv4.specs.Index.{Finds}
use Rattle.sigv4.proofs.KeysLemmas.{HasRead}
use Rattle.sigv4.proofs.keys.Keys.read.Given as goal

abbrev pub invariant-lines : goal.invariant-lines
invariant-lines l = record {
  reads : HasRead l.text l.keys l.rest;
  finds : Finds l.index.places l.keys;
}

abbrev pub decreases-lines : goal.decreases-lines
decreases-lines l = length l.rest
