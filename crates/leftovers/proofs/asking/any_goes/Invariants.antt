use Rattle.std.proofs.Common.{◌≡◌, drop}
use Rattle.leftovers.specs.Asking.{any_goes}
use Rattle.leftovers.specs.Kept.{goes}
use Rattle.leftovers.proofs.asking.any_goes.Given as goal

abbrev pub invariant-loop-segment : goal.invariant-loop-segment
invariant-loop-segment l = any_goes (goes l.kept) l.list ≡ any_goes (goes l.kept) (drop l.segment-index l.list)
