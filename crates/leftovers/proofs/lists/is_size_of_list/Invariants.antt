use Rattle.std.proofs.Common.{◌≡◌, drop}
use Rattle.std.specs.Prelude.{◌==◌}
use Rattle.leftovers.specs.Lists.{size_of_list}
use Rattle.leftovers.proofs.lists.is_size_of_list.Given as goal

abbrev pub invariant-loop-segment : goal.invariant-loop-segment
invariant-loop-segment l = (size_of_list l.list == l.size) ≡ (size_of_list (drop l.segment-index l.list) == l.left)
