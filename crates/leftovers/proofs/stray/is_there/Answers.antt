use Rattle.leftovers.proofs.lemmas.Faults.{fault_at}
use Rattle.leftovers.proofs.stray.is_there.Goals as goal

pub returns-in-Ok-clause-asks : goal.returns-in-Ok-clause-asks
returns-in-Ok-clause-asks g c = c.in-Ok.ensures.asks

pub returns-in-Err-clause-asks : goal.returns-in-Err-clause-asks
returns-in-Err-clause-asks g c = fault_at _ _ c.in-Err.fault c.file_fault.result c.file_fault.ensures c.in-Err.ensures.asks

pub returns-in-Ok-clause-leaves : goal.returns-in-Ok-clause-leaves
returns-in-Ok-clause-leaves g c = c.in-Ok.ensures.leaves

pub returns-in-Err-clause-leaves : goal.returns-in-Err-clause-leaves
returns-in-Err-clause-leaves g c = c.in-Err.ensures.leaves

pub returns-in-Ok-clause-says : goal.returns-in-Ok-clause-says
returns-in-Ok-clause-says g c = c.in-Ok.ensures.says
