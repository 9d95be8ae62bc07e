use Rattle.std.proofs.Common.{◌≡◌, ◌-◌, ◌<◌, false}
use Rattle.swift_calls.specs.History.{budget}
use Rattle.list_pages.specs.Rolls.{wanted}
use Rattle.account_calls.specs.Keys.{StandsBehind}
use Rattle.account_calls.specs.Lent.{Stays}
use Rattle.account_calls.proofs.KeyWalk.{Rolling}
use Rattle.account_calls.proofs.keys.listed_objects.Given as goal

abbrev pub decreases-pages : goal.decreases-pages
decreases-pages g l = budget - (g.W.Swift.history l.state.store.now).called

abbrev pub invariant-pages : goal.invariant-pages
invariant-pages g l = record {
  stays : Stays l.initial.state l.state;
  wants : l.roll.wanted ≡ wanted l.asked;
  room : l.roll.more ≡ false;
  stands : StandsBehind l.roll;
  some : 0 < l.asked.max;
  walked : Rolling (g.W.Swift.history l.initial.state.store.now) (g.W.Swift.history l.state.store.now) l.bucket l.asked.prefix l.roll;
}
