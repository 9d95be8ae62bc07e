use Rattle.many_keys.proofs.Sources.{asks_body, asks_no_body}
use Rattle.many_keys.proofs.CopiedFrom.{of_body}
use Rattle.many_keys.proofs.source.get_source_to_copy.Goals as goal

pub returns-in_err-told-clause-asks : goal.returns-in_err-told-clause-asks
returns-in_err-told-clause-asks g c =
    asks_no_body c.law_object_proper.ensures c.args.bucket c.args.key c.fits.ensures c.args.head.now c.requires.plain _ c.as_slice.ensures _ _ _ _ c.in_err-told.ensures.asks c.from_residual.ensures.1

pub returns-clause-asks : goal.returns-clause-asks
returns-clause-asks g c = asks_body c.law_object_proper.ensures c.args.bucket c.args.key c.fits.ensures c.args.head.now c.requires.plain _ c.as_slice.ensures _ _ _ _ c.in_ok-told.ensures.asks c.body_to_copy.ensures.due

pub returns-clause-unchanged : goal.returns-clause-unchanged
returns-clause-unchanged g c = of_body (g.W.Swift.history c.args.state.now.store.now) c.args.bucket c.args.key c.args.head.now c.in_ok-told.told c.as_slice.ensures c.in_ok-told.ensures.unchanged _ c.body_to_copy.ensures.due
