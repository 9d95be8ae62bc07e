use Rattle.std.proofs.Common.{◌≡◌, take}
use Rattle.planned_swift.specs.Replay.{replayed}
use Rattle.planned_swift.proofs.memory.MemSwift.account_at.Given as goal

abbrev pub invariant-loop-entry : goal.invariant-loop-entry
invariant-loop-entry l = l.account ≡ replayed l.self.first (take l.entry-index l.entry-items)
