use Rattle.leftovers.proofs.lemmas.Faults.{fault_at}
use Rattle.sweep.proofs.counting.survey_containers.Goals as goal

pub returns-in-Ok : goal.returns-in-Ok
returns-in-Ok g c = record { asks = c.in-Ok.ensures.asks; leaves = c.in-Ok.ensures.leaves }

pub returns-in-Err : goal.returns-in-Err
returns-in-Err g c = record { asks = fault_at _ _ c.in-Err.fault c.file_fault.result c.file_fault.ensures c.in-Err.ensures.asks; leaves = c.in-Err.ensures.leaves }
