use Rattle.std.specs.Prelude.{None, Some}
use Rattle.std.proofs.Common.{sym, ◌∙◌, lit≤, rules}
use Rattle.account_calls.proofs.lemmas.Ends.{told_nothing, answers}
use Rattle.planner.proofs.BucketSteps.{set_object_acl_none, set_object_acl_refused, object_acl_set}
use Rattle.planner.proofs.acls.plan_put_object_acl_within.Goals as goal

pub returns-in_err-head_object-clause-plans : goal.returns-in_err-head_object-clause-plans
returns-in_err-head_object-clause-plans g c = λ label. told_nothing (lit≤ tt) c.in_err-head_object.ensures.asks _ c.from_residual.ensures.1

pub returns-in_default-clause-plans : goal.returns-in_default-clause-plans
returns-in_default-clause-plans g c = λ label.
    answers (lit≤ tt) None c.in_default.is _ c.in_ok-head_object.ensures.asks (search rules) (λ tree there none. set_object_acl_none _ _ _ _ _ there _ _ none)

pub returns-then-is_other_acl-clause-plans : goal.returns-then-is_other_acl-clause-plans
returns-then-is_other_acl-clause-plans g c = λ label.
    answers (lit≤ tt) (Some c.in-Some.field-0) c.in-Some.is _ c.in_ok-head_object.ensures.asks (search rules)
    (λ tree there object. set_object_acl_refused _ _ _ _ _ there _ _ (sym c.is_other_acl.ensures ∙ c.if-is_other_acl.true) _ object)

pub returns-clause-plans : goal.returns-clause-plans
returns-clause-plans g c = λ label.
    answers (lit≤ tt) (Some c.in-Some.field-0) c.in-Some.is _ c.in_ok-head_object.ensures.asks (search rules)
    (λ tree there object. object_acl_set _ _ _ _ _ there _ _ (sym c.is_other_acl.ensures ∙ c.if-is_other_acl.false) _ object)
