use Rattle.std.proofs.Common.{inr}
use Rattle.sweep.proofs.AgesOne.{deletes_old}
use Rattle.sweep.proofs.ForgetCalls.{forgetting_no_memory}
use Rattle.sweep.proofs.ForgetOne.{forget_in_vain, forgot}
use Rattle.sweep.proofs.forget.delete_old_record.Goals as goal

pub returns-in_err-container-clause-forgets : goal.returns-in_err-container-clause-forgets
returns-in_err-container-clause-forgets g c = λ before bucket told of is old. forgetting_no_memory _ _ c.from_residual.ensures.1

pub returns-in_err-name-clause-forgets : goal.returns-in_err-name-clause-forgets
returns-in_err-name-clause-forgets g c = λ before bucket told of is old. forgetting_no_memory _ _ c.from_residual-in_err-name.ensures.1

pub returns-in_err-reply-clause-forgets : goal.returns-in_err-reply-clause-forgets
returns-in_err-reply-clause-forgets g c = λ before bucket told of is old.
    forget_in_vain (deletes_old c.in_ok-container.ensures c.in_ok-name.ensures before bucket told of is old) c.in_err-reply.ensures _ c.from_residual-in_err-reply.ensures.1

pub returns-clause-forgets : goal.returns-clause-forgets
returns-clause-forgets g c = λ before bucket told of is old.
    forgot (deletes_old c.in_ok-container.ensures c.in_ok-name.ensures before bucket told of is old) c.in_ok-reply.ensures _ (inr c.interpret_file_delete.ensures.due) c.interpret_file_delete.ensures.own
