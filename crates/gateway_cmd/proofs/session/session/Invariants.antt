use Rattle.std.proofs.Common.{◌≡◌, ◌≤◌, ◌-◌, ◌^◌, IsTrue}
use Rattle.gate_base.specs.Causes.{Rose}
use Rattle.gateway.specs.World.{world, ServesOver, StaysLent}
use Rattle.gateway_cmd.specs.Run.{RunTraces}
use Rattle.http_service.specs.Running.{NoneFaulty}
use Rattle.http_service.proofs.lemmas.Counting.{Counts}
use Rattle.gateway_cmd.proofs.session.session.Given as goal

abbrev pub invariant-connections : goal.invariant-connections
invariant-connections g l = record {
  stays : StaysLent l.initial.lent l.lent;
  next_faults : (g.N.Line.model l.lent.line.now).next_faults ≡ (g.N.Line.model l.initial.lent.line.now).next_faults;
  faults : (g.N.Line.model l.initial.lent.line.now).faults ≤ (g.N.Line.model l.lent.line.now).faults;
  none_faulty : IsTrue (g.N.Line.model l.initial.lent.line.now).observable → (Rose (g.N.Line.model l.initial.lent.line.now).faults (g.N.Line.model l.lent.line.now).faults → ⊥)
      → NoneFaulty (g.N.Line.model l.initial.lent.line.now).transcript (g.N.Line.model l.lent.line.now).transcript;
  counts : IsTrue (g.N.Line.model l.initial.lent.line.now).observable → Counts l.fn.most l.left (g.N.Line.model l.initial.lent.line.now).transcript.begun (g.N.Line.model l.lent.line.now).transcript.begun;
  serves : ServesOver l.service.settings (RunTraces l.service)
      (world (g.N.Line.model l.initial.lent.line.now) (g.W.Swift.history l.initial.lent.store.now) l.initial.lent.known (g.C.Clock.model l.initial.lent.clock.now) (g.D.Draws.model l.initial.lent.draws.now))
      (world (g.N.Line.model l.lent.line.now) (g.W.Swift.history l.lent.store.now) l.lent.known (g.C.Clock.model l.lent.clock.now) (g.D.Draws.model l.lent.draws.now));
}

abbrev pub decreases-connections : goal.decreases-connections
decreases-connections g l = 2 ^ 63 - (g.N.Line.model l.lent.line.now).spent
