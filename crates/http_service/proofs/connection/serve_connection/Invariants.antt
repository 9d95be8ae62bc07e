use Rattle.std.proofs.Common.{◌≡◌, false, IsTrue}
use Rattle.gate_base.specs.Line.{LineServes}
use Rattle.http_wire.specs.Reading.{weight}
use Rattle.http_service.specs.Answering.{start_of, cursor_of}
use Rattle.http_service.proofs.Looping.{Answered}
use Rattle.http_service.proofs.connection.serve_connection.Given as goal

abbrev pub invariant-requests : goal.invariant-requests
invariant-requests g l = record {
  goes : l.reader.ended ≡ false;
  line : LineServes false (g.N.Line.model l.initial.line) (g.N.Line.model l.line);
  goes_on : g.S.Service.GoesOn l.initial.service l.service;
  serves : (view : g.S.Service.View) → g.S.Service.Given view l.initial.service → IsTrue (g.N.Line.model l.initial.line).observable
      → Answered g.S.Service.number g.S.Service.limit (g.S.Service.Answers view l.service) (g.N.Line.model l.initial.line).transcript.begun
      (start_of (g.N.Line.model l.initial.line).transcript (g.S.Service.state l.initial.service)) (cursor_of l.reader (g.N.Line.model l.line).transcript (g.S.Service.state l.service));
}

abbrev pub decreases-requests : goal.decreases-requests
decreases-requests g l = weight (g.N.Line.model l.line).spent l.reader.bytes
