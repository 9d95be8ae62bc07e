use Rattle.wire_log.specs.Plain.{StaysPlain}
use Rattle.wire_log.proofs.target.append_query_for_log.Given as goal

abbrev pub invariant-loop-parameter : goal.invariant-loop-parameter
invariant-loop-parameter l = StaysPlain l.initial.text l.text
