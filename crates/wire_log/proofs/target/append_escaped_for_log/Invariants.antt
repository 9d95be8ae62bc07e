use Rattle.wire_log.specs.Plain.{StaysPlain}
use Rattle.wire_log.proofs.target.append_escaped_for_log.Given as goal

abbrev pub invariant-loop-byte : goal.invariant-loop-byte
invariant-loop-byte l = StaysPlain l.initial.text l.text
