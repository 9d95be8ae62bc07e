use Rattle.many_keys.proofs.CopyPlans.{subs_go_on, subs_in_vain}
use Rattle.many_keys.proofs.OwnSegments.{listed_own, listed_own_failed}
use Rattle.many_keys.proofs.listed.put_copy_of_parts.Goals as goal

pub returns-in_err-put_copied_sub_manifests-clause-plans : goal.returns-in_err-put_copied_sub_manifests-clause-plans
returns-in_err-put_copied_sub_manifests-clause-plans g c = λ acl list from_bucket from_key replaced label same other dated.
    subs_in_vain c.args.sealed.now acl list from_bucket from_key replaced label c.in_err-put_copied_sub_manifests.ensures.asks _ c.from_residual.ensures.1

pub returns-clause-plans : goal.returns-clause-plans
returns-clause-plans g c = λ acl list from_bucket from_key replaced label same other dated.
    subs_go_on c.args.sealed.now acl list from_bucket from_key replaced label c.put_copied_sub_manifests.ensures.stays.settings c.in_ok-put_copied_sub_manifests.ensures.asks
    (c.put_listed_copy.ensures.plans acl list from_bucket from_key replaced label same other dated)

pub returns-in_err-put_copied_sub_manifests-clause-own : goal.returns-in_err-put_copied_sub_manifests-clause-own
returns-in_err-put_copied_sub_manifests-clause-own g c = listed_own_failed _ c.in_err-put_copied_sub_manifests.ensures.asks.grows.on.told c.in_err-put_copied_sub_manifests.ensures.own _ c.from_residual.ensures.1

pub returns-clause-own : goal.returns-clause-own
returns-clause-own g c =
    listed_own c.requires.copy.place.named c.in_ok-put_copied_sub_manifests.ensures.asks.grows.on.observable c.in_ok-put_copied_sub_manifests.ensures.asks.grows.on.told c.in_ok-put_copied_sub_manifests.ensures.own
    c.put_listed_copy.ensures.leaves _
