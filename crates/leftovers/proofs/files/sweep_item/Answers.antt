use Rattle.leftovers.proofs.lemmas.Faults.{fault_at, names_as}
use Rattle.leftovers.proofs.files.sweep_item.Goals as goal

pub returns-in-Ok-clause-asks : goal.returns-in-Ok-clause-asks
returns-in-Ok-clause-asks g c = c.in-Ok.ensures.asks

pub returns-in-Err-clause-asks : goal.returns-in-Err-clause-asks
returns-in-Err-clause-asks g c = λ bucket test passes. fault_at _ _ c.in-Err.fault c.file_fault.result c.file_fault.ensures (c.in-Err.ensures.asks bucket test passes)

pub returns-in-Err-clause-names : goal.returns-in-Err-clause-names
returns-in-Err-clause-names g c = names_as c.as_slice.ensures c.as_slice-in-Err.ensures c.in-Err.fault c.file_fault.result c.file_fault.ensures

pub returns-in-Ok-clause-spares : goal.returns-in-Ok-clause-spares
returns-in-Ok-clause-spares g c = c.in-Ok.ensures.spares

pub returns-in-Err-clause-spares : goal.returns-in-Err-clause-spares
returns-in-Err-clause-spares g c = c.in-Err.ensures.spares
