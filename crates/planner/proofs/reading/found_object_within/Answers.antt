use Rattle.std.specs.Prelude.{None, Some}
use Rattle.std.proofs.Common.{refl, sym, subst, ◌∙◌, lit≤, rules}
use Rattle.s3_machine.specs.declared.operation.Op.TheVariants.{GetObject}
use Rattle.account_calls.specs.Calls.{TellsBucket}
use Rattle.account_calls.specs.Interpret.{IsShownHead}
use Rattle.account_calls.proofs.lemmas.Ends.{needs_none, answers}
use Rattle.planner.proofs.Finding.{found_ends, found_nothing, leaves_by}
use Rattle.planner.proofs.Readings.{get_refused, get_none}
use Rattle.planner.proofs.Stopping.{found_stops}
use Rattle.planner.proofs.reading.found_object_within.Goals as goal

pub returns-then-not-may_read-clause-finds : goal.returns-then-not-may_read-clause-finds
returns-then-not-may_read-clause-finds g c = needs_none _ (search rules) (λ tree there. get_refused _ _ _ _ _ _ _ _ c.requires.planned _ _ there (sym c.may_read.ensures ∙ c.if-not-may_read.true))

pub returns-in_err-head-clause-finds : goal.returns-in_err-head-clause-finds
returns-in_err-head-clause-finds g c = found_nothing _ 1 _ _ _ (λ s. TellsBucket c.args.read.bucket s (Some c.args.list)) (GetObject c.args.read) c.args.label.now (lit≤ tt) c.in_err-head.ensures.asks _ c.from_residual.ensures.1

pub returns-in_default-clause-finds : goal.returns-in_default-clause-finds
returns-in_default-clause-finds g c = answers (lit≤ tt) None c.in_default.is _ c.in_ok-head.ensures.asks (search rules) (λ tree there none. get_none _ _ _ _ _ _ _ _ c.requires.planned _ _ there (sym c.may_read.ensures ∙ c.if-not-may_read.false) none)

pub returns-clause-finds : goal.returns-clause-finds
returns-clause-finds g c = rw c.reading_of.ensures
    (found_ends c.args.state.now.settings.now _ _ c.args.read.range c.args.read.conditions c.args.read.part c.args.read.shown c.requires.planned c.args.label.now c.args.list c.in-Some.head _ c.in-Some.is
    (sym c.may_read.ensures ∙ c.if-not-may_read.false) (subst IsShownHead c.in-Some.is c.in_ok-head.ensures.shown) c.in_ok-head.ensures.asks _ refl)

pub returns-then-not-may_read-clause-account : goal.returns-then-not-may_read-clause-account
returns-then-not-may_read-clause-account g c = λ observable. refl

pub returns-in_err-head-clause-account : goal.returns-in_err-head-clause-account
returns-in_err-head-clause-account g c = c.in_err-head.ensures.leaves

pub returns-in_default-clause-account : goal.returns-in_default-clause-account
returns-in_default-clause-account g c = c.in_ok-head.ensures.leaves

pub returns-clause-account : goal.returns-clause-account
returns-clause-account g c = c.in_ok-head.ensures.leaves

pub returns-clause-leaves : goal.returns-clause-leaves
returns-clause-leaves g c = rw c.reading_of.ensures (leaves_by c.args.read.bucket c.args.read.key c.args.read.shown c.in-Some.head _)

pub returns-clause-stops : goal.returns-clause-stops
returns-clause-stops g c = rw c.reading_of.ensures (found_stops c.in_ok-head.ensures.asks _ _ c.args.read.shown c.in-Some.head _)
