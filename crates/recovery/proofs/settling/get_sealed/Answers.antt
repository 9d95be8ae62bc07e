use Rattle.account_calls.proofs.lemmas.One.{not_asked}
use Rattle.account_calls.proofs.lemmas.Quiet.{quiet_in_vain, quieted}
use Rattle.recovery.proofs.RollCalls.{gets_sealed, got_none}
use Rattle.recovery.proofs.SettleStands.{get_holds, got_says}
use Rattle.recovery.proofs.settling.get_sealed.Goals as goal

pub returns-in_err-container-clause-asks : goal.returns-in_err-container-clause-asks
returns-in_err-container-clause-asks g c = not_asked _ _ _ c.from_residual.ensures.1

pub returns-in_err-name-clause-asks : goal.returns-in_err-name-clause-asks
returns-in_err-name-clause-asks g c = not_asked _ _ _ c.from_residual-in_err-name.ensures.1

pub returns-in_err-reply-clause-asks : goal.returns-in_err-reply-clause-asks
returns-in_err-reply-clause-asks g c = quiet_in_vain (gets_sealed c.in_ok-container.ensures c.in_ok-name.ensures) c.in_err-reply.ensures _ c.from_residual-in_err-reply.ensures.1

pub returns-clause-asks : goal.returns-clause-asks
returns-clause-asks g c = quieted (gets_sealed c.in_ok-container.ensures c.in_ok-name.ensures) c.in_ok-reply.ensures _ c.interpret_sealed_get.ensures.due c.interpret_sealed_get.ensures.own

pub returns-clause-none : goal.returns-clause-none
returns-clause-none g c = got_none c.in_ok-container.ensures c.in_ok-name.ensures c.in_ok-reply.ensures c.interpret_sealed_get.ensures.due

pub returns-in_err-reply-clause-holds : goal.returns-in_err-reply-clause-holds
returns-in_err-reply-clause-holds g c = get_holds c.in_err-reply.ensures

pub returns-clause-holds : goal.returns-clause-holds
returns-clause-holds g c = get_holds c.in_ok-reply.ensures

pub returns-clause-says : goal.returns-clause-says
returns-clause-says g c = got_says _ c.in_ok-container.ensures c.in_ok-name.ensures c.in_ok-reply.ensures c.interpret_sealed_get.ensures.due
