use Rattle.std.proofs.Common.{inr}
use Rattle.account_calls.proofs.Deletes.{deletes_name}
use Rattle.account_calls.proofs.lemmas.One.{not_asked}
use Rattle.account_calls.proofs.lemmas.Quiet.{quiet_in_vain, quieted}
use Rattle.account_calls.proofs.beside.delete_name.Goals as goal

pub returns-in_err-container-clause-asks : goal.returns-in_err-container-clause-asks
returns-in_err-container-clause-asks g c = λ bucket prefix under. not_asked _ _ _ c.from_residual.ensures.1

pub returns-in_err-name-clause-asks : goal.returns-in_err-name-clause-asks
returns-in_err-name-clause-asks g c = λ bucket prefix under. not_asked _ _ _ c.from_residual-in_err-name.ensures.1

pub returns-in_err-reply-clause-asks : goal.returns-in_err-reply-clause-asks
returns-in_err-reply-clause-asks g c = λ bucket prefix under.
    quiet_in_vain (deletes_name c.in_ok-container.ensures c.in_ok-name.ensures bucket prefix under) c.in_err-reply.ensures _ c.from_residual-in_err-reply.ensures.1

pub returns-clause-asks : goal.returns-clause-asks
returns-clause-asks g c = λ bucket prefix under.
    quieted (deletes_name c.in_ok-container.ensures c.in_ok-name.ensures bucket prefix under) c.in_ok-reply.ensures _ (inr c.interpret_file_delete.ensures.due) c.interpret_file_delete.ensures.own
