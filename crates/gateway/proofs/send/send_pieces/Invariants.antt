use Rattle.std.proofs.Common.{◌≤◌, ◌-◌, false}
use Rattle.gate_base.specs.Line.{OnlyWrites}
use Rattle.account_calls.specs.Lent.{Stays}
use Rattle.gateway.specs.Reading.{SentSoFar}
use Rattle.gateway.proofs.send.send_pieces.Given as goal

abbrev pub invariant-pieces : goal.invariant-pieces
invariant-pieces g l = record {
  stays : Stays l.fn.state l.state;
  writes : OnlyWrites false (g.N.Line.model l.fn.line) (g.N.Line.model l.line);
  so_far : SentSoFar l.fn.found (g.N.Line.model l.fn.line) (g.W.Swift.history l.fn.state.store.now) (g.N.Line.model l.line) (g.W.Swift.history l.state.store.now) l.at;
  near : l.at ≤ l.fn.found.length;
}

abbrev pub decreases-pieces : goal.decreases-pieces
decreases-pieces g l = l.fn.found.length - l.at
