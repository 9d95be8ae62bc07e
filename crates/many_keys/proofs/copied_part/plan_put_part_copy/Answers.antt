use Rattle.std.proofs.Common.{◌∙◌}
use Rattle.many_keys.proofs.copied_part.plan_put_part_copy.Goals as goal

pub returns-clause-plans : goal.returns-clause-plans
returns-clause-plans g c = λ key text from_bucket from_key range. rw (c.into_bytes.ensures ∙ c.new-body.ensures) at c.plan_part_copy_with_etag.ensures.plans key text from_bucket from_key range

pub returns-clause-stands : goal.returns-clause-stands
returns-clause-stands g c = rw (c.into_bytes.ensures ∙ c.new-body.ensures) at c.plan_part_copy_with_etag.ensures.stands
