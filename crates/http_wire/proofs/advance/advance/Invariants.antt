use Rattle.std.proofs.Common.{◌≡◌, ◌≤◌, ◌++◌, false, IsTrue, length}
use Rattle.gate_base.specs.Line.{OnlyReads}
use Rattle.http_wire.specs.Reading.{weight}
use Rattle.http_wire.proofs.advance.advance.Given as goal

-- what each round keeps of the clauses
abbrev pub invariant-come : goal.invariant-come
invariant-come g l = record {
  reads : OnlyReads false (g.N.Line.model l.initial.line) (g.N.Line.model l.line);
  room : 8192 ≤ length l.headers;
  seen : l.seen ≤ length l.pending.items;
  weighs : weight (g.N.Line.model l.line).spent l.pending.items ≤ weight (g.N.Line.model l.initial.line).spent l.initial.pending.items;
  kept : IsTrue (g.N.Line.model l.initial.line).observable
      → l.pending.items ++ (g.N.Line.model l.line).transcript.rest ≡ l.initial.pending.items ++ (g.N.Line.model l.initial.line).transcript.rest;
}

-- each round but the last reads some bytes
abbrev pub decreases-come : goal.decreases-come
decreases-come g l = weight (g.N.Line.model l.line).spent l.pending.items
