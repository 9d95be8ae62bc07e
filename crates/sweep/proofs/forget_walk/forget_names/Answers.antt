use Rattle.std.proofs.Common.{arith}
use Rattle.sweep.proofs.AgingNames.{calls_all, calls_fault, naming_all, naming_fault, naming_more, naming_none}
use Rattle.leftovers.proofs.lemmas.Faults.{plan_gives}
use Rattle.leftovers.specs.Faults.{as_plan}
use Rattle.sweep.proofs.forget_walk.forget_names.Goals as goal

pub loop-name-init : goal.loop-name-init
loop-name-init g c = naming_none _ c.args.before c.args.names.now

pub returns-in_err-told-clause-forgets : goal.returns-in_err-told-clause-forgets
returns-in_err-told-clause-forgets g c =
    naming_fault c.args.names.now c.loop-name.invariant c.name-item.result c.loop-name-test.true c.name-item.is c.in_err-told.ensures.forgets (as_plan c.from_residual.result) (plan_gives _ _ c.from_residual.ensures.1)

pub returns-in_err-told-clause-calls : goal.returns-in_err-told-clause-calls
returns-in_err-told-clause-calls g c = calls_fault c.args.names.now c.loop-name.invariant c.name-item.result c.loop-name-test.true c.name-item.is c.in_err-told.ensures.calls

pub loop-name-preserved : goal.loop-name-preserved
loop-name-preserved g c =
    naming_more c.args.names.now c.loop-name.invariant c.name-item.result c.loop-name-test.true c.name-item.is c.in_ok-told.told c.in_ok-told.ensures.forgets c.in_ok-told.ensures.counted.0 c.in_ok-told.ensures.counted.1 c.in_ok-told.ensures.calls

pub returns-clause-forgets : goal.returns-clause-forgets
returns-clause-forgets g c = naming_all c.args.names.now (omega (arith, c.loop-name-test.false)) c.loop-name.invariant

pub returns-clause-calls : goal.returns-clause-calls
returns-clause-calls g c = calls_all c.args.names.now (omega (arith, c.loop-name-test.false)) c.loop-name.invariant
