use Rattle.std.proofs.Common.{refl, rules}
use Rattle.s3_machine.specs.Ops.{ListBuckets}
use Rattle.swift_calls.specs.History.{present}
use Rattle.account_calls.specs.Answers.{most_calls}
use Rattle.account_calls.proofs.lemmas.Ends.{as_wide, met_settled, calls_in_vain, calls_end}
use Rattle.planner.proofs.BucketSteps.{buckets_listed}
use Rattle.planner.proofs.Replies.{buckets_is_own}
use Rattle.planner.proofs.buckets.list_buckets.Goals as goal

pub returns-in_err-all-clause-plans : goal.returns-in_err-all-clause-plans
returns-in_err-all-clause-plans g c = λ label.
    let most = most_calls (ListBuckets c.args.asked) (present (g.W.Swift.history c.args.state.now.store.now)) in
    calls_in_vain most (as_wide most) met_settled c.in_err-all.ensures.asks _ c.from_residual.ensures.1

pub returns-clause-plans : goal.returns-clause-plans
returns-clause-plans g c = λ label.
    let most = most_calls (ListBuckets c.args.asked) (present (g.W.Swift.history c.args.state.now.store.now)) in
    rw (c.end_list_buckets_plan.ensures, c.into_value.ensures.value)
    (calls_end most (as_wide most) met_settled c.in_ok-all.all refl _ c.in_ok-all.ensures.asks
    (buckets_is_own c.args.asked c.in_ok-all.all c.in_ok-all.ensures.dated) (search rules) (λ tree any told. (_, refl, buckets_listed _ _ _ _ _ told)))
