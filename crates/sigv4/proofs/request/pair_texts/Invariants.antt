use Rattle.std.proofs.Common.{◌≡◌, map, take}
use Rattle.sigv4.specs.Canonical.{pair_text}
use Rattle.sigv4.proofs.request.pair_texts.Given as goal

abbrev pub invariant-loop-pair : goal.invariant-loop-pair
invariant-loop-pair l = l.texts ≡ map pair_text (take l.pair-index l.pairs)
