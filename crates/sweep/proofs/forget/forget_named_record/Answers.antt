use Rattle.leftovers.proofs.lemmas.Faults.{names_as}
use Rattle.sweep.proofs.PlanFaults.{comes_of, forgetting_at}
use Rattle.sweep.proofs.forget.forget_named_record.Goals as goal

pub returns-in-Err-clause-names : goal.returns-in-Err-clause-names
returns-in-Err-clause-names g c = names_as c.as_slice.ensures c.as_slice-in-Err.ensures c.in-Err.fault c.file_fault.result c.file_fault.ensures

pub returns-in-Err-clause-forgets : goal.returns-in-Err-clause-forgets
returns-in-Err-clause-forgets g c = λ bucket of. forgetting_at _ _ (comes_of _ _ c.in-Err.fault c.file_fault.result c.file_fault.ensures) (c.in-Err.ensures.forgets bucket of)
