use Rattle.std.proofs.Common.{take}
use Rattle.sweep.specs.Walk.{IsTableOf}
use Rattle.sweep.proofs.walk.table_of.Given as goal

abbrev pub invariant-loop-name : goal.invariant-loop-name
invariant-loop-name l = IsTableOf l.table (take l.name-index l.names)
