use Rattle.std.proofs.Common.{◌≡◌, ◌≤◌, ◌-◌, ◌^◌, IsTrue}
use Rattle.gate_base.specs.Causes.{Rose}
use Rattle.http_service.specs.Running.{NoneFaulty, run_cursor}
use Rattle.http_service.proofs.lemmas.Counting.{Counts}
use Rattle.http_service.proofs.Runs.{Served}
use Rattle.http_service.proofs.run.serve_all.Given as goal

abbrev pub invariant-connections : goal.invariant-connections
invariant-connections g l = record {
  next_faults : (g.N.Line.model l.line).next_faults ≡ (g.N.Line.model l.initial.line).next_faults;
  faults : (g.N.Line.model l.initial.line).faults ≤ (g.N.Line.model l.line).faults;
  observable : IsTrue (g.N.Line.model l.initial.line).observable → IsTrue (g.N.Line.model l.line).observable;
  none_faulty : IsTrue (g.N.Line.model l.initial.line).observable → (Rose (g.N.Line.model l.initial.line).faults (g.N.Line.model l.line).faults → ⊥)
      → NoneFaulty (g.N.Line.model l.initial.line).transcript (g.N.Line.model l.line).transcript;
  counts : IsTrue (g.N.Line.model l.initial.line).observable → Counts l.fn.most l.left (g.N.Line.model l.initial.line).transcript.begun (g.N.Line.model l.line).transcript.begun;
  goes : g.S.Service.GoesOn l.initial.service l.service;
  serves : (view : g.S.Service.View) → g.S.Service.Given view l.initial.service → IsTrue (g.N.Line.model l.initial.line).observable
      → Served g.S.Service.number g.S.Service.limit g.S.Service.memory (g.S.Service.Answers view l.service)
      (run_cursor (g.N.Line.model l.initial.line).transcript (g.S.Service.state l.initial.service)) (run_cursor (g.N.Line.model l.line).transcript (g.S.Service.state l.service));
}

abbrev pub decreases-connections : goal.decreases-connections
decreases-connections g l = 2 ^ 63 - (g.N.Line.model l.line).spent
