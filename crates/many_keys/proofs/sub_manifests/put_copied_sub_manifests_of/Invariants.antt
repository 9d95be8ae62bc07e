use Rattle.std.proofs.Common.{◌≤◌, Ok}
use Rattle.account_calls.specs.Calls.{always, Asks, GivenOf}
use Rattle.account_calls.specs.Lent.{Stays}
use Rattle.many_keys.specs.CopiedLists.{HasCopied, LeavesCopied}
use Rattle.many_keys.specs.OwnSegments.{PutsSubs}
use Rattle.many_keys.proofs.sub_manifests.put_copied_sub_manifests_of.Given as goal

abbrev pub invariant-loop-n : goal.invariant-loop-n
invariant-loop-n g l = record {
  within : l.n ≤ l.count;
  stays : Stays l.initial.state l.state;
  asks : Asks (always l.n) (g.W.Swift.history l.initial.state.store.now) (g.W.Swift.history l.state.store.now) (GivenOf (HasCopied l.sealed 0)) (LeavesCopied l.sealed l.n) (Ok tt);
  own : PutsSubs l.sealed l.n (g.W.Swift.history l.initial.state.store.now) (g.W.Swift.history l.state.store.now) (Ok tt);
}
