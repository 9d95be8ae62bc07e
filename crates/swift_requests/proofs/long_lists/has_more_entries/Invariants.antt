use Rattle.swift_requests.specs.Counted.{Passed}
use Rattle.swift_requests.proofs.long_lists.has_more_entries.Given as goal

abbrev pub invariant-loop : goal.invariant-loop
invariant-loop l = Passed l.counter l.initial.reader l.reader
