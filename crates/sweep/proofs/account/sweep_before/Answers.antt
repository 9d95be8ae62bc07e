use Rattle.sweep.proofs.PlanFaults.{comes_of}
use Rattle.sweep.proofs.SweptBefore.{account_swept_before, account_untold, names_as}
use Rattle.sweep.proofs.account.sweep_before.Goals as goal

pub returns-in-Ok : goal.returns-in-Ok
returns-in-Ok g c = account_swept_before c.args.before (names_as c.as_slice.ensures c.in-Ok.ensures.asks) _ c.sweep_names_before.ensures.forgets c.sweep_names_before.ensures.calls

pub returns-in-Err : goal.returns-in-Err
returns-in-Err g c = account_untold c.args.before c.in-Err.fault c.file_fault.result (comes_of _ _ c.in-Err.fault c.file_fault.result c.file_fault.ensures) c.in-Err.ensures.asks
