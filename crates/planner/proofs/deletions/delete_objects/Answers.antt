use Rattle.std.specs.Prelude.{None, Some}
use Rattle.std.proofs.Common.{arith, rules, sym, subst, ◌∙◌}
use Rattle.account_calls.specs.Plan.{Plans}
use Rattle.account_calls.proofs.lemmas.Ends.{told_nothing, answers, goes_on}
use Rattle.account_calls.proofs.lemmas.Faults.{err_is}
use Rattle.planner.proofs.Deleting.{delete_missing, deletes_rest}
use Rattle.planner.proofs.deletions.delete_objects.Goals as goal

pub returns-in_err-list-clause-plans : goal.returns-in_err-list-clause-plans
returns-in_err-list-clause-plans g c = λ label. told_nothing (omega arith) c.in_err-list.ensures.asks _ c.from_residual.ensures.1

pub returns-in_default-clause-plans : goal.returns-in_default-clause-plans
returns-in_default-clause-plans g c = λ label. answers (omega arith) None c.in_default.is _ c.in_ok-list.ensures.asks (search rules) (λ tree any told. delete_missing _ _ _ _ _ _ told)

pub returns-in_err-delete_keys-clause-plans : goal.returns-in_err-delete_keys-clause-plans
returns-in_err-delete_keys-clause-plans g c = λ label.
    subst (Plans _ _ _ _ _ _ _ _) (sym (err_is _ _ c.from_residual-in_err-delete_keys.ensures.1))
    (goes_on (omega arith) (Some c.in-Some.list) c.in-Some.is c.head_bucket.ensures.stays.settings c.in_ok-list.ensures.asks
    (deletes_rest c.in-Some.list c.args.many.keys c.args.many.quiet label (c.as_slice.ensures ∙ c.get.ensures.value) c.in_err-delete_keys.ensures.deletes) (λ tree any told. told))

pub returns-clause-plans : goal.returns-clause-plans
returns-clause-plans g c = λ label. rw c.into_value.ensures.value (goes_on (omega arith) (Some c.in-Some.list) c.in-Some.is c.head_bucket.ensures.stays.settings c.in_ok-list.ensures.asks
    (deletes_rest c.in-Some.list c.args.many.keys c.args.many.quiet label (c.as_slice.ensures ∙ c.get.ensures.value) c.in_ok-delete_keys.ensures.deletes) (λ tree any told. told))

pub returns-clause-bodiless : goal.returns-clause-bodiless
returns-clause-bodiless g c = tt
