use Rattle.std.specs.Prelude.{IsTrue, take}
use Rattle.swift_calls.specs.History.{present}
use Rattle.account_calls.specs.Told.{LeavesThroughout}
use Rattle.leftovers.specs.Lists.{AreHeld, Stays}
use Rattle.leftovers.proofs.Namings.{Naming}
use Rattle.leftovers.proofs.gathering.add_listing.Given as goal

abbrev pub invariant-loop-segment : goal.invariant-loop-segment
invariant-loop-segment g l = record {
  naming : Naming l.bucket l.segments l.initial.table (g.W.Swift.history l.initial.store) (g.W.Swift.history l.store) l.segment-index l.table;
  holds : IsTrue (g.W.Swift.history l.initial.store).observable → AreHeld l.bucket (present (g.W.Swift.history l.initial.store)) l.table (take l.segment-index l.segments);
  stays : Stays l.initial.table l.table;
  leaves : LeavesThroughout (g.W.Swift.history l.initial.store) (g.W.Swift.history l.store);
}
