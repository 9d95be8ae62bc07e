use Rattle.std.proofs.Common.{◌≡◌, ◌≤◌, ◌-◌, ◌++◌, false, IsTrue, length, take}
use Rattle.gate_base.specs.Line.{OnlyReads}
use Rattle.http_wire.proofs.take.finish_request_body.Given as goal

-- what each round keeps of the clauses
abbrev pub invariant-pieces : goal.invariant-pieces
invariant-pieces g l = record {
  reads : OnlyReads false (g.N.Line.model l.initial.line) (g.N.Line.model l.line);
  within : l.came ≤ length l.body.items;
  short : length l.body.items ≤ l.size;
  kept : IsTrue (g.N.Line.model l.initial.line).observable
      → take l.came l.body.items ++ (g.N.Line.model l.line).transcript.rest ≡ l.initial.body.items ++ (g.N.Line.model l.initial.line).transcript.rest;
}

-- each round but the last reads some bytes
abbrev pub decreases-pieces : goal.decreases-pieces
decreases-pieces g l = l.size - l.came
