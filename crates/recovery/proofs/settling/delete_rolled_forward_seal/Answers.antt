use Rattle.std.proofs.Common.{inr}
use Rattle.account_calls.proofs.lemmas.One.{not_asked}
use Rattle.account_calls.proofs.lemmas.Quiet.{quiet_in_vain, quieted}
use Rattle.recovery.proofs.RollCalls.{delete_keeps, deleted, deletes_sealed}
use Rattle.recovery.proofs.RollStands.{object_through_delete, record_through_delete}
use Rattle.recovery.proofs.settling.delete_rolled_forward_seal.Goals as goal

pub returns-in_err-container-clause-asks : goal.returns-in_err-container-clause-asks
returns-in_err-container-clause-asks g c = λ sealed. not_asked _ _ _ c.from_residual.ensures.1

pub returns-in_err-name-clause-asks : goal.returns-in_err-name-clause-asks
returns-in_err-name-clause-asks g c = λ sealed. not_asked _ _ _ c.from_residual-in_err-name.ensures.1

pub returns-in_err-reply-clause-asks : goal.returns-in_err-reply-clause-asks
returns-in_err-reply-clause-asks g c = λ sealed.
    quiet_in_vain (deletes_sealed sealed c.in_ok-container.ensures c.in_ok-name.ensures) c.in_err-reply.ensures _ c.from_residual-in_err-reply.ensures.1

pub returns-clause-asks : goal.returns-clause-asks
returns-clause-asks g c = λ sealed. quieted (deletes_sealed sealed c.in_ok-container.ensures c.in_ok-name.ensures) c.in_ok-reply.ensures _ (inr c.interpret_file_delete.ensures.due) c.interpret_file_delete.ensures.own

pub returns-in_err-reply-clause-keeps : goal.returns-in_err-reply-clause-keeps
returns-in_err-reply-clause-keeps g c = delete_keeps c.in_ok-container.ensures c.in_ok-name.ensures c.in_err-reply.ensures

pub returns-clause-keeps : goal.returns-clause-keeps
returns-clause-keeps g c = delete_keeps c.in_ok-container.ensures c.in_ok-name.ensures c.in_ok-reply.ensures

pub returns-clause-done : goal.returns-clause-done
returns-clause-done g c = λ observable has is. deleted c.in_ok-container.ensures c.in_ok-name.ensures c.in_ok-reply.ensures observable has

pub returns-in_err-reply-clause-object : goal.returns-in_err-reply-clause-object
returns-in_err-reply-clause-object g c = λ sealed has. object_through_delete sealed c.in_ok-container.ensures c.in_ok-name.ensures has c.in_err-reply.ensures

pub returns-clause-object : goal.returns-clause-object
returns-clause-object g c = λ sealed has. object_through_delete sealed c.in_ok-container.ensures c.in_ok-name.ensures has c.in_ok-reply.ensures

pub returns-in_err-reply-clause-kept : goal.returns-in_err-reply-clause-kept
returns-in_err-reply-clause-kept g c = λ sealed has. record_through_delete sealed c.in_ok-container.ensures c.in_ok-name.ensures has c.in_err-reply.ensures

pub returns-clause-kept : goal.returns-clause-kept
returns-clause-kept g c = λ sealed has. record_through_delete sealed c.in_ok-container.ensures c.in_ok-name.ensures has c.in_ok-reply.ensures
