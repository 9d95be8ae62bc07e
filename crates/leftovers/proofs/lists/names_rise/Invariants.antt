use Rattle.std.proofs.Common.{◌≡◌, [], drop}
use Rattle.leftovers.specs.Lists.{names_rise}
use Rattle.leftovers.proofs.lists.names_rise.Given as goal

abbrev pub invariant-loop-segment : goal.invariant-loop-segment
invariant-loop-segment l = names_rise [] l.list ≡ names_rise l.last (drop l.segment-index l.list)
