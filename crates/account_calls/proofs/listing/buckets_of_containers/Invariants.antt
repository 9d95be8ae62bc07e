use Rattle.std.specs.List.{All}
use Rattle.s3_machine.specs.Shown.{IsShownBucket}
use Rattle.account_calls.specs.Lent.{Stays}
use Rattle.account_calls.proofs.Made.{Made}
use Rattle.account_calls.proofs.listing.buckets_of_containers.Given as goal

abbrev pub invariant-loop-name : goal.invariant-loop-name
invariant-loop-name g l = record {
  stays : Stays l.initial.state l.state;
  dated : All IsShownBucket l.items;
  made : Made (g.W.Swift.history l.initial.state.store.now) (g.W.Swift.history l.state.store.now) l.names l.name-index l.items;
}
