use Rattle.planner.proofs.settings.plan_setting.Goals as goal

-- of a bucket one call, of an object two
pub returns-in-None-clause-plans : goal.returns-in-None-clause-plans
returns-in-None-clause-plans g c = λ label. rw c.in-None.is (c.plan_bucket_setting.ensures.plans label)

pub returns-in-Some-clause-plans : goal.returns-in-Some-clause-plans
returns-in-Some-clause-plans g c = λ label. rw c.in-Some.is (c.plan_object_setting.ensures.plans label)
