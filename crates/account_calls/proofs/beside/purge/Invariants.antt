use Rattle.std.proofs.Common.{◌-◌, ℕ, List}
use Rattle.swift_calls.specs.History.{budget}
use Rattle.swift_calls.specs.Limits.{IsMarker}
use Rattle.account_calls.specs.Lent.{Stays}
use Rattle.account_calls.proofs.PurgeWalk.{Purging}
use Rattle.account_calls.proofs.beside.purge.Given as goal

abbrev pub decreases-pages : goal.decreases-pages
decreases-pages g l = budget - (g.W.Swift.history l.state.store.now).called

abbrev pub invariant-pages : goal.invariant-pages
invariant-pages g l = record {
  stays : Stays l.initial.state l.state;
  is_marker : IsMarker l.marker;
  purging : (bucket : List ℕ) → Purging (g.W.Swift.history l.initial.state.store.now) (g.W.Swift.history l.state.store.now) l.folder bucket l.prefix l.marker;
}
