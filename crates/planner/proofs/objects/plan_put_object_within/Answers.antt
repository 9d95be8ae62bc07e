use Rattle.std.proofs.Common.{sym, ◌∙◌, rules}
use Rattle.account_calls.proofs.lemmas.Ends.{needs_none}
use Rattle.planner.proofs.Steps.{put_other}
use Rattle.planner.proofs.objects.plan_put_object_within.Goals as goal

pub returns-then-is_other_acl-clause-plans : goal.returns-then-is_other_acl-clause-plans
returns-then-is_other_acl-clause-plans g c = needs_none _ (search rules) (λ tree there. put_other _ _ _ _ _ _ there _ _ _ _ _ _ (sym c.is_other_acl.ensures ∙ c.if-is_other_acl.true))

pub returns-clause-plans : goal.returns-clause-plans
returns-clause-plans g c = c.plan_put_object_if.ensures.plans c.args.list (sym c.is_other_acl.ensures ∙ c.if-is_other_acl.false)
