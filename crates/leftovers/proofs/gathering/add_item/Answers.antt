use Rattle.leftovers.proofs.lemmas.Faults.{fault_at, names_as}
use Rattle.leftovers.proofs.gathering.add_item.Goals as goal

pub returns-in-Ok-clause-asks : goal.returns-in-Ok-clause-asks
returns-in-Ok-clause-asks g c = c.in-Ok.ensures.asks

pub returns-in-Err-clause-asks : goal.returns-in-Err-clause-asks
returns-in-Err-clause-asks g c = fault_at _ _ c.in-Err.fault c.file_fault.result c.file_fault.ensures c.in-Err.ensures.asks

pub returns-in-Ok-clause-leaves : goal.returns-in-Ok-clause-leaves
returns-in-Ok-clause-leaves g c = c.in-Ok.ensures.leaves

pub returns-in-Err-clause-leaves : goal.returns-in-Err-clause-leaves
returns-in-Err-clause-leaves g c = c.in-Err.ensures.leaves

pub returns-in-Err-clause-names : goal.returns-in-Err-clause-names
returns-in-Err-clause-names g c = names_as c.as_slice.ensures c.as_slice-in-Err.ensures c.in-Err.fault c.file_fault.result c.file_fault.ensures

pub returns-in-Ok-clause-holds : goal.returns-in-Ok-clause-holds
returns-in-Ok-clause-holds g c = c.in-Ok.ensures.holds

pub returns-in-Ok-clause-stays : goal.returns-in-Ok-clause-stays
returns-in-Ok-clause-stays g c = c.in-Ok.ensures.stays
