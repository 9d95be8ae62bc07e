use Rattle.std.proofs.Common.{arith}
use Rattle.sweep.proofs.NameTables.{tabled_all, tabled_more, tabled_none}
use Rattle.sweep.proofs.walk.table_of.Goals as goal

pub loop-name-init : goal.loop-name-init
loop-name-init c = rw (c.new-table.ensures) (tabled_none c.args.names.now)

pub loop-name-preserved : goal.loop-name-preserved
loop-name-preserved c = tabled_more _ _ c.args.names.now c.loop-name.name-index c.name-item.result _ c.as_slice.ensures c.loop-name-test.true c.name-item.is c.loop-name.invariant c.in_ok-put.ensures.ok

pub returns : goal.returns
returns c = tabled_all _ c.args.names.now c.loop-name.name-index (omega (arith, c.loop-name-test.false)) c.loop-name.invariant
