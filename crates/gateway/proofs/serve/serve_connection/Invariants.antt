use Rattle.std.proofs.Common.{◌≡◌, false}
use Rattle.gate_base.specs.Line.{LineServes}
use Rattle.http_wire.specs.Reading.{weight}
use Rattle.gateway.specs.World.{world, start_of, cursor_of, ServesOver, StaysLent}
use Rattle.gateway.proofs.Looping.{Answered}
use Rattle.gateway.proofs.serve.serve_connection.Given as goal

abbrev pub invariant-requests : goal.invariant-requests
invariant-requests g l = record {
  stays : StaysLent l.initial.lent l.lent;
  goes : l.reader.ended ≡ false;
  line : LineServes false (g.N.Line.model l.initial.lent.line.now) (g.N.Line.model l.lent.line.now);
  serves : ServesOver l.service.settings (λ R old new. Answered l.service R old.line.transcript.begun (start_of old) (cursor_of l.reader new))
      (world (g.N.Line.model l.initial.lent.line.now) (g.W.Swift.history l.initial.lent.store.now) l.initial.lent.known (g.C.Clock.model l.initial.lent.clock.now) (g.D.Draws.model l.initial.lent.draws.now))
      (world (g.N.Line.model l.lent.line.now) (g.W.Swift.history l.lent.store.now) l.lent.known (g.C.Clock.model l.lent.clock.now) (g.D.Draws.model l.lent.draws.now));
}

abbrev pub decreases-requests : goal.decreases-requests
decreases-requests g l = weight (g.N.Line.model l.lent.line.now).spent l.reader.bytes
