use Rattle.swift_calls.proofs.Reading.{reads_keep}
use Rattle.swift_calls.proofs.laws.law_reads_keep.Goals as goal

pub returns : goal.returns
returns c = reads_keep
