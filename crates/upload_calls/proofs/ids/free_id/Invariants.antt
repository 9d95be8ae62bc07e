use Rattle.account_calls.specs.Lent.{Stays}
use Rattle.upload_calls.proofs.FreeSearch.{Tried}
use Rattle.upload_calls.proofs.ids.free_id.Given as goal

abbrev pub invariant-tries : goal.invariant-tries
invariant-tries g l = record {
  stays : Stays l.initial.state l.state;
  tried : Tried (g.W.Swift.history l.initial.state.store.now) (g.W.Swift.history l.state.store.now) l.bucket l.draw l.tries;
}
