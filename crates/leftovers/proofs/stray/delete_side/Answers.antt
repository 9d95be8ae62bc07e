use Rattle.std.proofs.Common.{inr}
use Rattle.account_calls.proofs.lemmas.One.{not_asked}
use Rattle.account_calls.proofs.lemmas.Quiet.{quiet_in_vain, quieted}
use Rattle.leftovers.proofs.Sparing.{spare_no, spares_container}
use Rattle.leftovers.proofs.Strays.{gone_after, removes_side}
use Rattle.leftovers.proofs.stray.delete_side.Goals as goal

pub returns-in_err-container-clause-asks : goal.returns-in_err-container-clause-asks
returns-in_err-container-clause-asks g c = λ bucket beside. not_asked _ _ _ c.from_residual.ensures.1

pub returns-in_err-reply-clause-asks : goal.returns-in_err-reply-clause-asks
returns-in_err-reply-clause-asks g c =
    λ bucket beside. quiet_in_vain (removes_side c.in_ok-container.ensures bucket beside) c.in_err-reply.ensures _ c.from_residual-in_err-reply.ensures.1

pub returns-clause-asks : goal.returns-clause-asks
returns-clause-asks g c =
    λ bucket beside. quieted (removes_side c.in_ok-container.ensures bucket beside) c.in_ok-reply.ensures _ (inr c.removed_in_reply.ensures.due) c.removed_in_reply.ensures.own

pub returns-clause-gone : goal.returns-clause-gone
returns-clause-gone g c = gone_after c.in_ok-container.ensures c.in_ok-reply.ensures _ c.removed_in_reply.ensures.due

pub returns-in_err-container-clause-spares : goal.returns-in_err-container-clause-spares
returns-in_err-container-clause-spares g c = spare_no c.args.folder.now _ (g.W.Swift.history c.args.store.now)

pub returns-in_err-reply-clause-spares : goal.returns-in_err-reply-clause-spares
returns-in_err-reply-clause-spares g c = spares_container c.in_ok-container.ensures c.in_err-reply.ensures

pub returns-clause-spares : goal.returns-clause-spares
returns-clause-spares g c = spares_container c.in_ok-container.ensures c.in_ok-reply.ensures
