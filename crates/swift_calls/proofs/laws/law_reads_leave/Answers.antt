use Rattle.swift_calls.proofs.Reading.{reads_leave}
use Rattle.swift_calls.proofs.laws.law_reads_leave.Goals as goal

pub returns : goal.returns
returns c = reads_leave
