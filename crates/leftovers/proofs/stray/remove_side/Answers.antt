use Rattle.leftovers.proofs.lemmas.Faults.{fault_at}
use Rattle.leftovers.proofs.stray.remove_side.Goals as goal

pub returns-in-Ok-clause-asks : goal.returns-in-Ok-clause-asks
returns-in-Ok-clause-asks g c = c.in-Ok.ensures.asks

pub returns-in-Err-clause-asks : goal.returns-in-Err-clause-asks
returns-in-Err-clause-asks g c = λ bucket beside. fault_at _ _ c.in-Err.fault c.file_fault.result c.file_fault.ensures (c.in-Err.ensures.asks bucket beside)

pub returns-in-Ok-clause-gone : goal.returns-in-Ok-clause-gone
returns-in-Ok-clause-gone g c = c.in-Ok.ensures.gone

pub returns-in-Ok-clause-spares : goal.returns-in-Ok-clause-spares
returns-in-Ok-clause-spares g c = c.in-Ok.ensures.spares

pub returns-in-Err-clause-spares : goal.returns-in-Err-clause-spares
returns-in-Err-clause-spares g c = c.in-Err.ensures.spares
