use Rattle.std.proofs.Common.{arith}
use Rattle.account_calls.proofs.lemmas.Left.{throughout_none, throughout_then}
use Rattle.sweep.proofs.NamedShares.{sharing_all, sharing_fault, sharing_more, sharing_none}
use Rattle.leftovers.specs.Faults.{as_plan}
use Rattle.leftovers.proofs.lemmas.Faults.{plan_gives}
use Rattle.sweep.proofs.counting.survey_names.Goals as goal

pub loop-name-init : goal.loop-name-init
loop-name-init g c = (sharing_none c.args.sealed.now c.args.names.now _, throughout_none (g.W.Swift.history c.args.store.now))

pub loop-name-preserved : goal.loop-name-preserved
loop-name-preserved g c = (
  sharing_more c.args.sealed.now c.args.names.now c.loop-name.invariant.0 c.name-item.result c.loop-name-test.true c.name-item.is c.in_ok-total.ensures.asks,
  throughout_then c.loop-name.invariant.0.grows.on c.in_ok-total.ensures.asks.grows.on c.loop-name.invariant.1 c.in_ok-total.ensures.leaves,
)

pub returns-in_err-total : goal.returns-in_err-total
returns-in_err-total g c = record {
  asks = sharing_fault c.args.sealed.now c.args.names.now c.loop-name.invariant.0 c.name-item.result c.loop-name-test.true c.name-item.is c.in_err-total.ensures.asks (as_plan c.from_residual.result) (plan_gives _ _ c.from_residual.ensures.1);
  leaves = throughout_then c.loop-name.invariant.0.grows.on c.in_err-total.ensures.asks.grows.on c.loop-name.invariant.1 c.in_err-total.ensures.leaves;
}

pub returns : goal.returns
returns g c = record { asks = sharing_all c.args.sealed.now c.args.names.now (omega (arith, c.loop-name-test.false)) c.loop-name.invariant.0; leaves = c.loop-name.invariant.1 }
