use Rattle.leftovers.specs.Faults.{as_plan}
use Rattle.leftovers.proofs.lemmas.Faults.{plan_gives}
use Rattle.sweep.proofs.SweptBefore.{forgets_fault, more_calls, swept_all, swept_calls, swept_fault}
use Rattle.sweep.proofs.forget_walk.sweep_names_before.Goals as goal

pub returns-in_err-told-clause-forgets : goal.returns-in_err-told-clause-forgets
returns-in_err-told-clause-forgets g c = forgets_fault c.args.before c.args.names.now c.in_err-told.ensures.forgets (as_plan c.from_residual.result) (plan_gives _ _ c.from_residual.ensures.1)

pub returns-in_err-told-clause-calls : goal.returns-in_err-told-clause-calls
returns-in_err-told-clause-calls g c = more_calls c.args.names.now c.in_err-told.ensures.calls

pub returns-in_err-swept-clause-forgets : goal.returns-in_err-swept-clause-forgets
returns-in_err-swept-clause-forgets g c =
    swept_fault c.args.before c.args.names.now c.in_ok-told.ensures.forgets c.in_err-swept.ensures.asks (as_plan c.from_residual-in_err-swept.result) (plan_gives _ _ c.from_residual-in_err-swept.ensures.1)

pub returns-in_err-swept-clause-calls : goal.returns-in_err-swept-clause-calls
returns-in_err-swept-clause-calls g c = swept_calls c.args.before c.args.names.now c.in_ok-told.ensures.forgets c.in_ok-told.ensures.calls c.in_err-swept.ensures.asks

pub returns-clause-forgets : goal.returns-clause-forgets
returns-clause-forgets g c = swept_all c.args.before c.args.names.now c.in_ok-told.ensures.forgets c.in_ok-swept.swept c.in_ok-swept.ensures.asks

pub returns-clause-calls : goal.returns-clause-calls
returns-clause-calls g c = swept_calls c.args.before c.args.names.now c.in_ok-told.ensures.forgets c.in_ok-told.ensures.calls c.in_ok-swept.ensures.asks
