use Rattle.std.proofs.Common.{inr}
use Rattle.account_calls.proofs.lemmas.Quiet.{quiet_in_vain, quieted}
use Rattle.recovery.proofs.SettleCalls.{gateway_put_there, puts_gateway}
use Rattle.recovery.proofs.SettleStands.{gateway_holds}
use Rattle.recovery.proofs.settling.make_gateway.Goals as goal

pub returns-in_err-reply-clause-asks : goal.returns-in_err-reply-clause-asks
returns-in_err-reply-clause-asks g c = quiet_in_vain (puts_gateway c.in_ok-gateway_container.ensures) c.in_err-reply.ensures _ c.from_residual-in_err-reply.ensures.1

pub returns-clause-asks : goal.returns-clause-asks
returns-clause-asks g c = quieted (puts_gateway c.in_ok-gateway_container.ensures) c.in_ok-reply.ensures _ (inr c.interpret_container_put.ensures.due) c.interpret_container_put.ensures.own

pub returns-clause-there : goal.returns-clause-there
returns-clause-there g c = λ observable is. gateway_put_there c.in_ok-gateway_container.ensures c.in_ok-reply.ensures observable

pub returns-in_err-reply-clause-holds : goal.returns-in_err-reply-clause-holds
returns-in_err-reply-clause-holds g c = gateway_holds c.in_ok-gateway_container.ensures c.in_err-reply.ensures

pub returns-clause-holds : goal.returns-clause-holds
returns-clause-holds g c = gateway_holds c.in_ok-gateway_container.ensures c.in_ok-reply.ensures
