use Rattle.std.proofs.Common.{◌-◌}
use Rattle.swift_calls.specs.History.{budget}
use Rattle.swift_calls.specs.Limits.{IsMarker}
use Rattle.account_calls.specs.Told.{LeavesThroughout}
use Rattle.leftovers.proofs.Gathers.{Gathering}
use Rattle.leftovers.proofs.Held.{HoldsSo}
use Rattle.leftovers.proofs.gathering.gather.Given as goal

abbrev pub decreases-pages : goal.decreases-pages
decreases-pages g l = budget - (g.W.Swift.history l.store).called

abbrev pub invariant-pages : goal.invariant-pages
invariant-pages g l = record {
  is_marker : IsMarker l.marker;
  gathering : Gathering (g.W.Swift.history l.initial.store) (g.W.Swift.history l.store) l.files.source l.folder l.bucket l.marker l.table;
  holds : HoldsSo (g.W.Swift.history l.initial.store) l.files.source l.folder l.bucket l.marker l.table;
  leaves : LeavesThroughout (g.W.Swift.history l.initial.store) (g.W.Swift.history l.store);
}
