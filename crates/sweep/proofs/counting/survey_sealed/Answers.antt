use Rattle.leftovers.proofs.lemmas.Faults.{fault_at}
use Rattle.sweep.proofs.counting.survey_sealed.Goals as goal

pub returns-in-Ok-clause-asks : goal.returns-in-Ok-clause-asks
returns-in-Ok-clause-asks g c = c.in-Ok.ensures.asks

pub returns-in-Err-clause-asks : goal.returns-in-Err-clause-asks
returns-in-Err-clause-asks g c = fault_at _ _ c.in-Err.fault c.file_fault.result c.file_fault.ensures c.in-Err.ensures.asks
