use Rattle.std.proofs.Common.{◌≤◌, Ok}
use Rattle.account_calls.specs.Calls.{always, Asks}
use Rattle.recovery.specs.Rolls.{HasSubs, HoldsSealed, IsSealed, KeepsGateway, Leaves}
use Rattle.recovery.proofs.settling.put_sub_manifests_of.Given as goal

abbrev pub invariant-loop-n : goal.invariant-loop-n
invariant-loop-n g l = record {
  within : l.n ≤ l.count;
  asks : Asks (always l.n) (g.W.Swift.history l.initial.store) (g.W.Swift.history l.store) (IsSealed l.sealed) (Leaves (HasSubs l.sealed l.n)) (Ok tt);
  keeps : KeepsGateway (g.W.Swift.history l.initial.store) (g.W.Swift.history l.store);
  holds : HoldsSealed (g.W.Swift.history l.initial.store) (g.W.Swift.history l.store);
}
