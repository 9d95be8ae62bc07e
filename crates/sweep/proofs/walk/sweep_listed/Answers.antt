use Rattle.sweep.proofs.SparedSides.{others_then}
use Rattle.std.proofs.Common.{refl, arith}
use Rattle.sweep.proofs.NamesSwept.{sweeping_all, sweeping_fault, sweeping_fits, sweeping_more, sweeping_none}
use Rattle.sweep.proofs.walk.sweep_listed.Goals as goal

pub loop-name-init : goal.loop-name-init
loop-name-init g c = sweeping_none _ c.args.names.now

pub returns-in_err-one-clause-asks : goal.returns-in_err-one-clause-asks
returns-in_err-one-clause-asks g c =
    sweeping_fault c.args.names.now c.loop-name.name-index c.loop-name.invariant c.name-item.result c.loop-name-test.true c.name-item.is c.args.listed.now c.requires _ c.in_err-one.ensures.asks _ c.from_residual.ensures.1

pub add-swept-requires : goal.add-swept-requires
add-swept-requires g c = sweeping_fits c.args.names.now c.loop-name.name-index c.loop-name.invariant c.in_ok-one.one refl c.in_ok-one.ensures.tallies

pub loop-name-preserved : goal.loop-name-preserved
loop-name-preserved g c =
    rw (c.add-swept.ensures) (sweeping_more c.args.names.now c.loop-name.name-index c.loop-name.invariant c.name-item.result c.loop-name-test.true c.name-item.is c.args.listed.now c.requires c.in_ok-one.one c.in_ok-one.ensures.asks c.in_ok-one.ensures.tallies c.in_ok-one.ensures.spares)

pub returns-clause-leaves : goal.returns-clause-leaves
returns-clause-leaves g c = c.loop-name.invariant.leaves

pub returns-clause-asks : goal.returns-clause-asks
returns-clause-asks g c = sweeping_all c.args.names.now c.loop-name.name-index c.loop-name.invariant (omega (arith, c.loop-name-test.false))

pub returns-in_err-one-clause-spares : goal.returns-in_err-one-clause-spares
returns-in_err-one-clause-spares g c = others_then c.loop-name.invariant.asks.grows.on c.loop-name.invariant.spared c.in_err-one.ensures.spares

pub returns-clause-spares : goal.returns-clause-spares
returns-clause-spares g c = c.loop-name.invariant.spared
