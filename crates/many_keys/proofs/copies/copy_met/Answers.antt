use Rattle.std.proofs.Common.{arith, lit≤}
use Rattle.std.proofs.lemmas.Bool.Decides.{nat_tests}
use Rattle.many_keys.proofs.CopySteps.{as_few, plans_of_parts, plans_wider}
use Rattle.many_keys.proofs.CopiedFrom.{copied_of_parts, told_kind, told_unrefused}
use Rattle.many_keys.proofs.copies.copy_met.Goals as goal

pub returns-then-len-le32-clause-plans : goal.returns-then-len-le32-clause-plans
returns-then-len-le32-clause-plans g c = plans_wider 2 _ (as_few c.args.copy.to.bucket c.args.copy.from_bucket c.args.copy.from_key 2 2 _ (lit≤ tt)) (c.copy_plain_source.ensures.plans c.args.copy.acl c.args.copy.list c.requires.acl c.requires.other)

pub returns-else-len-le32-clause-plans : goal.returns-else-len-le32-clause-plans
returns-else-len-le32-clause-plans g c = plans_of_parts (grind (arith, nat_tests, c.if-len-le32.false, c.len.ensures)) c.copy_source_of_parts.ensures.plans

pub returns-then-len-le32-clause-unrefused : goal.returns-then-len-le32-clause-unrefused
returns-then-len-le32-clause-unrefused g c = told_unrefused _ _ _ c.copy_plain_source.ensures.told

pub returns-else-len-le32-clause-unrefused : goal.returns-else-len-le32-clause-unrefused
returns-else-len-le32-clause-unrefused g c = told_unrefused _ _ _ c.copy_source_of_parts.ensures.told

pub returns-then-len-le32-clause-kind : goal.returns-then-len-le32-clause-kind
returns-then-len-le32-clause-kind g c = told_kind _ _ _ c.copy_plain_source.ensures.told

pub returns-else-len-le32-clause-kind : goal.returns-else-len-le32-clause-kind
returns-else-len-le32-clause-kind g c = told_kind _ _ _ c.copy_source_of_parts.ensures.told

pub returns-else-len-le32-clause-source : goal.returns-else-len-le32-clause-source
returns-else-len-le32-clause-source g c = copied_of_parts _ _ (omega (arith, c.if-len-le32.false, c.len.ensures)) _ c.copy_source_of_parts.ensures.told
