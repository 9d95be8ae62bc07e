use Rattle.std.proofs.Common.{lit≤}
use Rattle.account_calls.proofs.lemmas.Quiet.{asks_failed, asks_then}
use Rattle.recovery.proofs.SubCalls.{counted_few, counted_made}
use Rattle.recovery.proofs.SettleStands.{held_in_vain, made_then}
use Rattle.recovery.proofs.settling.settle_unsure_store.Goals as goal

pub returns-in_err-make_gateway-clause-asks : goal.returns-in_err-make_gateway-clause-asks
returns-in_err-make_gateway-clause-asks g c = asks_failed (lit≤ tt) c.in_err-make_gateway.ensures.asks _ c.from_residual.ensures.1

pub returns-in_err-make_gateway-clause-counted : goal.returns-in_err-make_gateway-clause-counted
returns-in_err-make_gateway-clause-counted g c = counted_few (lit≤ tt) c.in_err-make_gateway.ensures.asks

pub returns-clause-asks : goal.returns-clause-asks
returns-clause-asks g c = asks_then (lit≤ tt) c.in_ok-make_gateway.ensures.asks c.settle_made.ensures.asks (λ old new sound same given opens. opens.there) (λ old new last done sound given opens clear. clear)

pub returns-clause-counted : goal.returns-clause-counted
returns-clause-counted g c = counted_made c.in_ok-make_gateway.ensures.asks c.settle_made.ensures.counted

pub returns-in_err-make_gateway-clause-finishes : goal.returns-in_err-make_gateway-clause-finishes
returns-in_err-make_gateway-clause-finishes g c = held_in_vain _ _ c.from_residual.ensures.1 c.in_err-make_gateway.ensures.holds

pub returns-clause-finishes : goal.returns-clause-finishes
returns-clause-finishes g c = made_then c.in_ok-make_gateway.ensures.asks c.in_ok-make_gateway.ensures.holds _ c.settle_made.ensures.finishes
