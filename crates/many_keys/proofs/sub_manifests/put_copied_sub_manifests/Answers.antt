use Rattle.account_calls.proofs.lemmas.One.{not_asked}
use Rattle.many_keys.proofs.OwnSegments.{subs_own_unmade}
use Rattle.many_keys.proofs.sub_manifests.put_copied_sub_manifests.Goals as goal

pub returns-in_err-segments-clause-asks : goal.returns-in_err-segments-clause-asks
returns-in_err-segments-clause-asks g c = not_asked _ _ _ c.from_residual.ensures.1

pub returns-in_err-segments-clause-own : goal.returns-in_err-segments-clause-own
returns-in_err-segments-clause-own g c = subs_own_unmade _ _ c.from_residual.ensures.1

pub returns-clause-own : goal.returns-clause-own
returns-clause-own g c = c.put_copied_sub_manifests_of.ensures.own
