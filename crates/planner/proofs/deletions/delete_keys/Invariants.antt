use Rattle.account_calls.specs.Lent.{Stays}
use Rattle.planner.proofs.Deleting.{Deleting}
use Rattle.planner.proofs.deletions.delete_keys.Given as goal

abbrev pub invariant-loop-key : goal.invariant-loop-key
invariant-loop-key g l = record {
  stays : Stays l.initial.state l.state;
  deleting : Deleting l.bucket l.keys (g.W.Swift.history l.initial.state.store.now) (g.W.Swift.history l.state.store.now) l.initial.state.settings.now l.key-index;
}
