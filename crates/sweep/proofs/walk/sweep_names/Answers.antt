use Rattle.sweep.proofs.SparedSides.{others_same}
use Rattle.std.proofs.Common.{refl, Err}
use Rattle.account_calls.specs.declared.fault.PlanFault.TheVariants as fault
use Rattle.account_calls.proofs.lemmas.One.{not_asked}
use Rattle.sweep.proofs.walk.sweep_names.Goals as goal

pub returns-in-Err-clause-asks : goal.returns-in-Err-clause-asks
returns-in-Err-clause-asks g c = not_asked _ _ (Err fault.Memory) refl

pub returns-in-Err-clause-spares : goal.returns-in-Err-clause-spares
returns-in-Err-clause-spares g c = others_same (g.W.Swift.history c.args.store.now)
