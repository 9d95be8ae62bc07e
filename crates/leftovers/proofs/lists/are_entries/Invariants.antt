use Rattle.std.proofs.Common.{◌≡◌, drop}
use Rattle.std.specs.List.{list_all}
use Rattle.leftovers.specs.Lists.{is_entry}
use Rattle.leftovers.proofs.lists.are_entries.Given as goal

abbrev pub invariant-loop-segment : goal.invariant-loop-segment
invariant-loop-segment l = list_all (is_entry l.subs l.folder l.id) l.list ≡ list_all (is_entry l.subs l.folder l.id) (drop l.segment-index l.list)
