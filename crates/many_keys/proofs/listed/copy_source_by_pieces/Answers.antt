use Rattle.std.proofs.Common.{arith}
use Rattle.many_keys.proofs.CopyPlans.{cut_id_in_vain, id_goes_on}
use Rattle.many_keys.proofs.listed.copy_source_by_pieces.Goals as goal

pub returns-in_err-id-clause-plans : goal.returns-in_err-id-clause-plans
returns-in_err-id-clause-plans g c = λ acl list other onto. cut_id_in_vain c.fits.ensures (omega arith) c.in_err-id.ensures.asks _ c.from_residual.ensures.1

pub returns-clause-plans : goal.returns-clause-plans
returns-clause-plans g c = λ acl list other onto.
    id_goes_on c.law_unused_is_abandoned.ensures c.fits.ensures c.requires.cut c.free_id.ensures.stays.settings c.in_ok-id.ensures.asks (c.copy_under.ensures.plans acl list other onto)
