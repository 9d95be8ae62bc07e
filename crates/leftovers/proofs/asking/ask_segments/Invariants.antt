use Rattle.std.specs.Prelude.{IsTrue}
use Rattle.std.proofs.Common.{◌-◌}
use Rattle.swift_calls.specs.History.{budget, present}
use Rattle.swift_calls.specs.Limits.{IsMarker}
use Rattle.upload_records.specs.Layout.{uploads_name}
use Rattle.account_calls.specs.Told.{LeavesThroughout}
use Rattle.leftovers.specs.Asking.{AreClear}
use Rattle.leftovers.specs.Kept.{goes}
use Rattle.leftovers.proofs.AskWalk.{AskedSo, Walking}
use Rattle.leftovers.proofs.asking.ask_segments.Given as goal

abbrev pub decreases-pages : goal.decreases-pages
decreases-pages g l = budget - (g.W.Swift.history l.store).called

abbrev pub invariant-pages : goal.invariant-pages
invariant-pages g l = record {
  is_marker : IsMarker l.marker;
  walking : Walking (g.W.Swift.history l.initial.store) (g.W.Swift.history l.store) l.folder l.bucket l.marker (goes l.kept);
  clear : IsTrue (g.W.Swift.history l.initial.store).observable → AreClear (uploads_name l.bucket) l.bucket (goes l.kept) (present (g.W.Swift.history l.initial.store)) l.asked;
  asked : IsTrue (g.W.Swift.history l.initial.store).observable → AskedSo l.folder l.marker (goes l.kept) (present (g.W.Swift.history l.initial.store)) l.asked;
  leaves : LeavesThroughout (g.W.Swift.history l.initial.store) (g.W.Swift.history l.store);
}
