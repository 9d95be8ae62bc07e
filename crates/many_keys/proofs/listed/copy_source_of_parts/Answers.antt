use Rattle.std.proofs.Common.{arith}
use Rattle.many_keys.proofs.CopyPlans.{cut_goes_on, cut_in_vain, plans_wider}
use Rattle.many_keys.proofs.listed.copy_source_of_parts.Goals as goal

pub returns-then-head-eq0-clause-plans : goal.returns-then-head-eq0-clause-plans
returns-then-head-eq0-clause-plans g c = plans_wider (omega arith) (c.copy_empty_source.ensures.plans c.args.copy.acl c.args.copy.list c.args.copy.from_bucket c.args.copy.from_key c.requires.acl c.requires.other)

pub returns-in_err-cut-clause-plans : goal.returns-in_err-cut-clause-plans
returns-in_err-cut-clause-plans g c = cut_in_vain c.in_err-cut.ensures.asks _ c.from_residual.ensures.1

pub returns-clause-plans : goal.returns-clause-plans
returns-clause-plans g c = cut_goes_on c.in_ok-cut.cut c.get_pieces_to_copy.ensures.stays.settings c.in_ok-cut.ensures.asks (c.copy_source_by_pieces.ensures.plans c.args.copy.acl c.args.copy.list c.requires.acl c.requires.other)
