use Rattle.std.proofs.Common.{rules}
use Rattle.swift_requests.proofs.CountLemmas.{passed_more}
use Rattle.swift_requests.proofs.long_lists.has_more_entries.Goals as goal

pub loop-preserved : goal.loop-preserved
loop-preserved c = passed_more c.loop.counter c.args.reader.now c.loop.reader c.pass_entry.new.reader c.loop.invariant (c.pass_entry.ensures (search rules))
