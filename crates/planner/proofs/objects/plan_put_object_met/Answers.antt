use Rattle.planner.proofs.objects.plan_put_object_met.Goals as goal

pub returns-clause-plans : goal.returns-clause-plans
returns-clause-plans g c = λ list same. c.plan_put_object_bytes.ensures.plans list same
