use Rattle.std.specs.Prelude.{Ok}
use Rattle.std.proofs.Common.{refl, rules, sym, ap, subst, ◌∙◌}
use Rattle.swift_calls.specs.History.{present}
use Rattle.account_calls.specs.Answers.{pages_listed}
use Rattle.account_calls.specs.Calls.{by_account}
use Rattle.account_calls.specs.Plan.{IsOwnReply}
use Rattle.account_calls.proofs.lemmas.Ends.{as_wide, met_settled, needs_none, calls_in_vain, calls_end}
use Rattle.planner.proofs.Listings.{items_are_own, list_refused, list_told}
use Rattle.planner.specs.Reading.{GivesNoByte}
use Rattle.planner.proofs.listing.plan_list_objects_within.Goals as goal

pub returns-then-not-may_read-clause-plans : goal.returns-then-not-may_read-clause-plans
returns-then-not-may_read-clause-plans g c = needs_none _ (search rules) (λ tree there. list_refused _ _ _ _ _ _ there (sym c.may_read.ensures ∙ c.if-not-may_read.true))

pub returns-in_err-listed-clause-plans : goal.returns-in_err-listed-clause-plans
returns-in_err-listed-clause-plans g c =
    let most = by_account (pages_listed c.args.wanted.bucket c.args.wanted.asked (present (g.W.Swift.history c.args.state.now.store.now))) in
    calls_in_vain most (as_wide most) met_settled c.in_err-listed.ensures.asks _ c.from_residual.ensures.1

pub returns-clause-plans : goal.returns-clause-plans
returns-clause-plans g c =
    let most = by_account (pages_listed c.args.wanted.bucket c.args.wanted.asked (present (g.W.Swift.history c.args.state.now.store.now))) in
    calls_end most (as_wide most) met_settled c.in_ok-listed.listed refl _ c.in_ok-listed.ensures.asks
    (subst IsOwnReply (sym c.end_list_objects_plan.ensures) (items_are_own _ _ _ c.in_ok-listed.ensures.dated)) (search rules)
    (λ tree there told. (_, ap Ok c.end_list_objects_plan.ensures, list_told _ _ _ _ _ _ there (sym c.may_read.ensures ∙ c.if-not-may_read.false) _ told))

pub returns-clause-stops : goal.returns-clause-stops
returns-clause-stops g c = rw c.end_list_objects_plan.ensures (record { so = tt })

pub returns-clause-bodiless : goal.returns-clause-bodiless
returns-clause-bodiless g c = subst GivesNoByte (sym c.end_list_objects_plan.ensures) tt
