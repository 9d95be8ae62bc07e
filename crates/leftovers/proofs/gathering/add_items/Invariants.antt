use Rattle.std.specs.Prelude.{IsTrue, take}
use Rattle.swift_calls.specs.History.{present}
use Rattle.account_calls.specs.Told.{LeavesThroughout}
use Rattle.leftovers.specs.Lists.{AreItemsHeld, Stays}
use Rattle.leftovers.proofs.Gathers.{Adding}
use Rattle.leftovers.proofs.gathering.add_items.Given as goal

abbrev pub invariant-loop-item : goal.invariant-loop-item
invariant-loop-item g l = record {
  adding : Adding l.files.source l.files.folder.now l.files.bucket.now l.items l.initial.table (g.W.Swift.history l.initial.store) (g.W.Swift.history l.store) l.item-index l.table;
  holds : IsTrue (g.W.Swift.history l.initial.store).observable → AreItemsHeld l.files.source l.files.folder.now l.files.bucket.now (present (g.W.Swift.history l.initial.store)) l.table (take l.item-index l.items);
  stays : Stays l.initial.table l.table;
  leaves : LeavesThroughout (g.W.Swift.history l.initial.store) (g.W.Swift.history l.store);
}
