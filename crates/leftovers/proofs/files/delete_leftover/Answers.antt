use Rattle.std.proofs.Common.{inr}
use Rattle.account_calls.proofs.lemmas.One.{not_asked}
use Rattle.account_calls.proofs.lemmas.Quiet.{quiet_in_vain, quieted}
use Rattle.leftovers.proofs.DeletesOne.{deletes_file}
use Rattle.leftovers.proofs.Sparing.{spare_no, spares_file}
use Rattle.leftovers.proofs.files.delete_leftover.Goals as goal

pub returns-in_err-container-clause-asks : goal.returns-in_err-container-clause-asks
returns-in_err-container-clause-asks g c = λ bucket test passes. not_asked _ _ _ c.from_residual.ensures.1

pub returns-in_err-name-clause-asks : goal.returns-in_err-name-clause-asks
returns-in_err-name-clause-asks g c = λ bucket test passes. not_asked _ _ _ c.from_residual-in_err-name.ensures.1

pub returns-in_err-reply-clause-asks : goal.returns-in_err-reply-clause-asks
returns-in_err-reply-clause-asks g c = λ bucket test passes.
    quiet_in_vain (deletes_file c.in_ok-container.ensures c.in_ok-name.ensures bucket test passes) c.in_err-reply.ensures _ c.from_residual-in_err-reply.ensures.1

pub returns-clause-asks : goal.returns-clause-asks
returns-clause-asks g c = λ bucket test passes.
    quieted (deletes_file c.in_ok-container.ensures c.in_ok-name.ensures bucket test passes) c.in_ok-reply.ensures _ (inr c.interpret_file_delete.ensures.due) c.interpret_file_delete.ensures.own

pub returns-in_err-container-clause-spares : goal.returns-in_err-container-clause-spares
returns-in_err-container-clause-spares g c = λ test passes. spare_no c.args.folder.now test (g.W.Swift.history c.args.store.now)

pub returns-in_err-name-clause-spares : goal.returns-in_err-name-clause-spares
returns-in_err-name-clause-spares g c = λ test passes. spare_no c.args.folder.now test (g.W.Swift.history c.args.store.now)

pub returns-in_err-reply-clause-spares : goal.returns-in_err-reply-clause-spares
returns-in_err-reply-clause-spares g c = spares_file c.in_ok-container.ensures c.in_ok-name.ensures c.in_err-reply.ensures

pub returns-clause-spares : goal.returns-clause-spares
returns-clause-spares g c = spares_file c.in_ok-container.ensures c.in_ok-name.ensures c.in_ok-reply.ensures
