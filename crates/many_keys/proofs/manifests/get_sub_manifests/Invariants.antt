use Rattle.std.proofs.Common.{◌≤◌, Ok}
use Rattle.account_calls.specs.Calls.{always, Asks, GivenOf}
use Rattle.account_calls.specs.Lent.{Stays}
use Rattle.account_calls.specs.Listing.{TellsOf}
use Rattle.many_keys.specs.CopiedLists.{HasSubs, TellsRuns}
use Rattle.many_keys.proofs.manifests.get_sub_manifests.Given as goal

abbrev pub invariant-loop-n : goal.invariant-loop-n
invariant-loop-n g l = record {
  within : l.n ≤ l.count;
  stays : Stays l.initial.state l.state;
  asks : Asks (always l.n) (g.W.Swift.history l.initial.state.store.now) (g.W.Swift.history l.state.store.now) (GivenOf (HasSubs l.bucket l.id l.count)) (TellsOf (TellsRuns l.bucket l.id l.n)) (Ok l.pieces);
}
