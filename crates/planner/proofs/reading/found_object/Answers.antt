use Rattle.std.specs.Prelude.{None, Some}
use Rattle.std.proofs.Common.{◌∙◌, arith, rules}
use Rattle.s3_machine.specs.declared.operation.Op.TheVariants.{GetObject}
use Rattle.account_calls.specs.Calls.{Any, TellsBucket}
use Rattle.account_calls.proofs.lemmas.Ends.{answers}
use Rattle.planner.proofs.Finding.{found_nothing, finds_on}
use Rattle.planner.proofs.Readings.{get_missing}
use Rattle.planner.proofs.Stopping.{finds_behind}
use Rattle.planner.proofs.reading.found_object.Goals as goal

pub returns-in_err-list-clause-finds : goal.returns-in_err-list-clause-finds
returns-in_err-list-clause-finds g c = found_nothing _ 2 _ _ _ Any (GetObject c.args.read) c.args.label.now (omega arith) c.in_err-list.ensures.asks _ c.from_residual.ensures.1

pub returns-in_default-clause-finds : goal.returns-in_default-clause-finds
returns-in_default-clause-finds g c = answers (omega arith) None c.in_default.is _ c.in_ok-list.ensures.asks (search rules) (λ tree any told. get_missing _ _ _ _ _ _ _ _ c.requires.planned _ told)

pub returns-clause-finds : goal.returns-clause-finds
returns-clause-finds g c = finds_on _ _ 1 _ _ _ _ _ Any (λ s. TellsBucket c.args.read.bucket s (Some c.in-Some.list)) (GetObject c.args.read) c.args.label.now (omega arith) (Some c.in-Some.list) c.in-Some.is c.head_bucket.ensures.stays.settings c.in_ok-list.ensures.asks (λ tree any told. told) _ c.found_object_within.ensures.finds

pub returns-in_err-list-clause-account : goal.returns-in_err-list-clause-account
returns-in_err-list-clause-account g c = c.in_err-list.ensures.leaves

pub returns-in_default-clause-account : goal.returns-in_default-clause-account
returns-in_default-clause-account g c = c.in_ok-list.ensures.leaves

pub returns-clause-account : goal.returns-clause-account
returns-clause-account g c = λ observable. c.found_object_within.ensures.account (c.in_ok-list.ensures.asks.grows.on.observable observable) ∙ c.in_ok-list.ensures.leaves observable

pub returns-clause-stops : goal.returns-clause-stops
returns-clause-stops g c = finds_behind (g.W.Swift.history c.found_object_within.new.state.store.now) c.in_ok-list.ensures.asks _ c.found_object_within.ensures.stops
