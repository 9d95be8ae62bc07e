use Rattle.std.proofs.Common.{inr}
use Rattle.account_calls.proofs.lemmas.One.{not_asked}
use Rattle.account_calls.proofs.lemmas.Quiet.{quiet_in_vain, quieted}
use Rattle.account_calls.proofs.lemmas.Sides.{makes_side}
use Rattle.account_calls.proofs.beside.put_container_beside.Goals as goal

pub returns-in_err-copy-clause-asks : goal.returns-in_err-copy-clause-asks
returns-in_err-copy-clause-asks g c = not_asked _ _ _ c.from_residual.ensures.1

pub returns-in_err-reply-clause-asks : goal.returns-in_err-reply-clause-asks
returns-in_err-reply-clause-asks g c = quiet_in_vain (makes_side c.in_ok-copy.ensures c.requires.1) c.in_err-reply.ensures _ c.from_residual-in_err-reply.ensures.1

pub returns-clause-asks : goal.returns-clause-asks
returns-clause-asks g c = quieted (makes_side c.in_ok-copy.ensures c.requires.1) c.in_ok-reply.ensures _ (inr c.interpret_container_put.ensures.due) c.interpret_container_put.ensures.own
