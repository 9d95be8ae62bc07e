use Rattle.std.specs.Prelude.{IsTrue, take}
use Rattle.swift_calls.specs.History.{present}
use Rattle.account_calls.specs.Lent.{Stays}
use Rattle.many_keys.specs.OwnSegments.{StandSegments}
use Rattle.many_keys.proofs.Copying.{Copying}
use Rattle.many_keys.proofs.segments.copy_pieces.Given as goal

abbrev pub invariant-loop-piece : goal.invariant-loop-piece
invariant-loop-piece g l = record {
  stays : Stays l.initial.state l.state;
  copying : Copying (g.W.Swift.history l.initial.state.store.now) (g.W.Swift.history l.state.store.now) l.to.bucket l.id l.from_bucket l.from_id l.to.label.moment l.pieces (take l.piece-index l.pieces) l.list;
  own : IsTrue (g.W.Swift.history l.state.store.now).observable → StandSegments l.to.bucket l.id l.to.label.moment l.list (present (g.W.Swift.history l.state.store.now));
}
