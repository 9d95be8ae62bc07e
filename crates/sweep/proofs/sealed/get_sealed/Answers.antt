use Rattle.std.proofs.Common.{refl}
use Rattle.account_calls.proofs.lemmas.One.{asked_of, asked_of_in_vain, not_asked}
use Rattle.account_calls.proofs.lemmas.Left.{throughout_none, throughout_one}
use Rattle.sweep.proofs.SealedRead.{sealed_reads}
use Rattle.sweep.proofs.sealed.get_sealed.Goals as goal

pub returns-in_err-container-clause-asks : goal.returns-in_err-container-clause-asks
returns-in_err-container-clause-asks g c = not_asked _ _ _ c.from_residual.ensures.1

pub returns-in_err-name-clause-asks : goal.returns-in_err-name-clause-asks
returns-in_err-name-clause-asks g c = not_asked _ _ _ c.from_residual-in_err-name.ensures.1

pub returns-in_err-reply-clause-asks : goal.returns-in_err-reply-clause-asks
returns-in_err-reply-clause-asks g c = asked_of_in_vain (sealed_reads c.in_ok-container.ensures c.in_ok-name.ensures) c.in_err-reply.ensures _ c.from_residual-in_err-reply.ensures.1

pub returns-clause-asks : goal.returns-clause-asks
returns-clause-asks g c = asked_of (sealed_reads c.in_ok-container.ensures c.in_ok-name.ensures) c.in_ok-reply.ensures _ c.interpret_sealed_get.ensures.due c.interpret_sealed_get.ensures.own

pub returns-in_err-container-clause-leaves : goal.returns-in_err-container-clause-leaves
returns-in_err-container-clause-leaves g c = throughout_none (g.W.Swift.history c.args.store.now)

pub returns-in_err-name-clause-leaves : goal.returns-in_err-name-clause-leaves
returns-in_err-name-clause-leaves g c = throughout_none (g.W.Swift.history c.args.store.now)

pub returns-in_err-reply-clause-leaves : goal.returns-in_err-reply-clause-leaves
returns-in_err-reply-clause-leaves g c = throughout_one (λ tree. refl) c.in_err-reply.ensures

pub returns-clause-leaves : goal.returns-clause-leaves
returns-clause-leaves g c = throughout_one (λ tree. refl) c.in_ok-reply.ensures
