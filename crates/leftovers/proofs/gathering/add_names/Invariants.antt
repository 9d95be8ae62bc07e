use Rattle.std.specs.Prelude.{take}
use Rattle.std.specs.List.{AllByRecursion}
use Rattle.leftovers.specs.Lists.{HasName, Stays}
use Rattle.leftovers.proofs.Gathers.{AddedSo}
use Rattle.leftovers.proofs.gathering.add_names.Given as goal

abbrev pub invariant-loop-segment : goal.invariant-loop-segment
invariant-loop-segment l = record {
  added : AddedSo l.initial.table l.table l.segments l.segment-index;
  held : AllByRecursion (HasName l.table) (take l.segment-index l.segments);
  stays : Stays l.initial.table l.table;
}
