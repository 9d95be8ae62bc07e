use Rattle.std.proofs.Common.{refl, sym, subst}
use Rattle.account_calls.specs.Calls.{GoesOn}
use Rattle.account_calls.proofs.lemmas.Idle.{goes_none}
use Rattle.gateway_cmd.specs.Session.{out_of_memory, nothing_tried, was_served}
use Rattle.gateway_cmd.proofs.trial.try_store.Goals as goal

pub returns-in-Ok-clause-fits : goal.returns-in-Ok-clause-fits
returns-in-Ok-clause-fits g c = c.tried.ensures.fits c.args.number

pub returns-in-Ok-clause-on : goal.returns-in-Ok-clause-on
returns-in-Ok-clause-on g c = c.in-Ok.ensures.2.serves.on.store

pub returns-in-Ok-clause-tries : goal.returns-in-Ok-clause-tries
returns-in-Ok-clause-tries g c = λ keys. was_served c.in-Ok.trial c.in-Ok.ensures c.tried.ensures.value

pub returns-in-Err-clause-on : goal.returns-in-Err-clause-on
returns-in-Err-clause-on g c = subst (GoesOn (g.W.Swift.history c.args.store.now)) (sym c.in-Err.ensures) (goes_none (g.W.Swift.history c.args.store.now))

pub returns-in-Err-clause-tries : goal.returns-in-Err-clause-tries
returns-in-Err-clause-tries g c = λ keys. nothing_tried c.in-Err.ensures (out_of_memory refl)
