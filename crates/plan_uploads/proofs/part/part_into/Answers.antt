use Rattle.std.proofs.Common.{◌∙◌, ◌≤◌, length, subst, sym}
use Rattle.s3_machine.specs.Limits.{most_body_bytes}
use Rattle.plan_uploads.proofs.part.part_into.Goals as goal

pub plan_upload_part_bytes-requires-clause-sized : goal.plan_upload_part_bytes-requires-clause-sized
plan_upload_part_bytes-requires-clause-sized g c = subst (λ b. length b ≤ most_body_bytes) (sym (c.into_bytes.ensures ∙ c.into_value-body.ensures.value)) c.into_value-body.ensures.fit

pub returns-clause-plans : goal.returns-clause-plans
returns-clause-plans g c = λ key text. rw (c.into_bytes.ensures ∙ c.into_value-body.ensures.value) at c.plan_upload_part_bytes.ensures.plans key text

pub returns-clause-stands : goal.returns-clause-stands
returns-clause-stands g c = rw (c.into_bytes.ensures ∙ c.into_value-body.ensures.value) at c.plan_upload_part_bytes.ensures.stands
