use Rattle.account_calls.specs.Lent.{Stays}
use Rattle.account_calls.proofs.Deletes.{Deleting}
use Rattle.std.specs.Prelude.{take}
use Rattle.account_calls.proofs.beside.delete_names.Given as goal

abbrev pub invariant-loop-item : goal.invariant-loop-item
invariant-loop-item g l = record {
  stays : Stays l.initial.state l.state;
  deleting : Deleting (g.W.Swift.history l.initial.state.store.now) (g.W.Swift.history l.state.store.now) l.folder (take l.item-index l.items);
}
