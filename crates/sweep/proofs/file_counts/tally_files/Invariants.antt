use Rattle.std.proofs.Common.{◌-◌}
use Rattle.swift_calls.specs.History.{budget}
use Rattle.swift_calls.specs.Limits.{IsMarker}
use Rattle.account_calls.specs.Told.{LeavesThroughout}
use Rattle.leftovers.specs.Used.{is_taken}
use Rattle.sweep.proofs.Tallied.{TallyWalk}
use Rattle.sweep.proofs.file_counts.tally_files.Given as goal

abbrev pub decreases-pages : goal.decreases-pages
decreases-pages g l = budget - (g.W.Swift.history l.store).called

abbrev pub invariant-pages : goal.invariant-pages
invariant-pages g l = record {
  is_marker : IsMarker l.marker;
  walk : TallyWalk (g.W.Swift.history l.initial.store) (g.W.Swift.history l.store) (is_taken l.used) l.folder l.marker l.total;
  leaves : LeavesThroughout (g.W.Swift.history l.initial.store) (g.W.Swift.history l.store);
}
