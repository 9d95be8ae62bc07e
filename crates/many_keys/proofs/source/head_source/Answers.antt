use Rattle.std.proofs.Common.{sym, subst}
use Rattle.account_calls.specs.Calls.{Asks}
use Rattle.account_calls.proofs.lemmas.Faults.{err_is}
use Rattle.many_keys.proofs.Sources.{asks_proper}
use Rattle.many_keys.proofs.source.head_source.Goals as goal

pub returns-in_err-told-clause-asks : goal.returns-in_err-told-clause-asks
returns-in_err-told-clause-asks g c = subst (Asks _ _ _ _ _) (sym (err_is _ _ c.from_residual.ensures.1)) c.in_err-told.ensures.asks

pub returns-clause-asks : goal.returns-clause-asks
returns-clause-asks g c = asks_proper c.law_object_proper.ensures _ _ c.fits.ensures c.in_ok-told.ensures.asks c.proper_head_to_copy.ensures.due

pub returns-in_err-told-clause-leaves : goal.returns-in_err-told-clause-leaves
returns-in_err-told-clause-leaves g c = c.in_err-told.ensures.leaves

pub returns-clause-leaves : goal.returns-clause-leaves
returns-clause-leaves g c = c.in_ok-told.ensures.leaves
