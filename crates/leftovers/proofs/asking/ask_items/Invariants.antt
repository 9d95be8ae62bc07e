use Rattle.std.specs.Prelude.{IsTrue, take}
use Rattle.swift_calls.specs.History.{present}
use Rattle.upload_records.specs.Layout.{uploads_name}
use Rattle.account_calls.specs.Told.{LeavesThroughout}
use Rattle.leftovers.specs.Asking.{AreAsked, AreClear}
use Rattle.leftovers.specs.Kept.{goes}
use Rattle.leftovers.specs.Lists.{Stays}
use Rattle.leftovers.proofs.AskWalk.{AskingSo}
use Rattle.leftovers.proofs.asking.ask_items.Given as goal

abbrev pub invariant-loop-item : goal.invariant-loop-item
invariant-loop-item g l = record {
  asks : AskingSo l.bucket (goes l.kept) l.items (g.W.Swift.history l.initial.store) (g.W.Swift.history l.store) l.item-index;
  clear : IsTrue (g.W.Swift.history l.initial.store).observable → AreClear (uploads_name l.bucket) l.bucket (goes l.kept) (present (g.W.Swift.history l.initial.store)) l.initial.asked
      → AreClear (uploads_name l.bucket) l.bucket (goes l.kept) (present (g.W.Swift.history l.initial.store)) l.asked;
  asked : AreAsked (goes l.kept) l.asked (take l.item-index l.items);
  stays : Stays l.initial.asked l.asked;
  leaves : LeavesThroughout (g.W.Swift.history l.initial.store) (g.W.Swift.history l.store);
}
