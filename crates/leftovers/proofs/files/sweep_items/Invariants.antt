use Rattle.std.specs.Prelude.{take}
use Rattle.leftovers.specs.Kept.{goes}
use Rattle.leftovers.specs.Sweeping.{SparesThen}
use Rattle.leftovers.proofs.Items.{Sweeping}
use Rattle.leftovers.proofs.files.sweep_items.Given as goal

abbrev pub invariant-loop-item : goal.invariant-loop-item
invariant-loop-item g l = record {
  sweeping : Sweeping (g.W.Swift.history l.initial.store) (g.W.Swift.history l.store) l.folder (goes l.kept) (take l.item-index l.items) l.count;
  spares : SparesThen l.folder (goes l.kept) (g.W.Swift.history l.initial.store) (g.W.Swift.history l.store);
}
