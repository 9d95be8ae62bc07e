use Rattle.std.proofs.Common.{inr}
use Rattle.account_calls.proofs.lemmas.One.{not_asked, asked_of, asked_of_in_vain}
use Rattle.account_calls.proofs.lemmas.Left.{throughout_none, throughout_one}
use Rattle.leftovers.proofs.Strays.{head_reads, says_there}
use Rattle.leftovers.proofs.stray.head_side.Goals as goal

pub returns-in_err-container-clause-asks : goal.returns-in_err-container-clause-asks
returns-in_err-container-clause-asks g c = not_asked _ _ _ c.from_residual.ensures.1

pub returns-in_err-container-clause-leaves : goal.returns-in_err-container-clause-leaves
returns-in_err-container-clause-leaves g c = throughout_none (g.W.Swift.history c.args.store.now)

pub returns-in_err-reply-clause-asks : goal.returns-in_err-reply-clause-asks
returns-in_err-reply-clause-asks g c = asked_of_in_vain (head_reads c.in_ok-container.ensures) c.in_err-reply.ensures _ c.from_residual-in_err-reply.ensures.1

pub returns-in_err-reply-clause-leaves : goal.returns-in_err-reply-clause-leaves
returns-in_err-reply-clause-leaves g c = throughout_one (head_reads c.in_ok-container.ensures).leaves c.in_err-reply.ensures

pub returns-clause-asks : goal.returns-clause-asks
returns-clause-asks g c = asked_of (head_reads c.in_ok-container.ensures) c.in_ok-reply.ensures _ (inr c.there_in_reply.ensures.due) c.there_in_reply.ensures.own

pub returns-clause-leaves : goal.returns-clause-leaves
returns-clause-leaves g c = throughout_one (head_reads c.in_ok-container.ensures).leaves c.in_ok-reply.ensures

pub returns-clause-says : goal.returns-clause-says
returns-clause-says g c = says_there c.in_ok-container.ensures c.in_ok-reply.ensures _ c.there_in_reply.ensures.due
