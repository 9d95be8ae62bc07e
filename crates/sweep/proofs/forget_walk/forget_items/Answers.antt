use Rattle.std.proofs.Common.{arith}
use Rattle.s3_names.specs.Key.{is_key}
use Rattle.leftovers.proofs.lemmas.Touched.{at_place}
use Rattle.sweep.proofs.AgingItems.{aging_all, aging_fault, aging_more, aging_none, fault_near}
use Rattle.leftovers.specs.Faults.{as_plan}
use Rattle.leftovers.proofs.lemmas.Faults.{plan_gives}
use Rattle.sweep.proofs.forget_walk.forget_items.Goals as goal

pub loop-item-init : goal.loop-item-init
loop-item-init g c = λ bucket of. aging_none _ c.args.before bucket c.args.items.now

pub forget_named_record-requires-clause-name : goal.forget_named_record-requires-clause-name
forget_named_record-requires-clause-name g c = at_place is_key c.args.items.now c.loop-item.item-index c.item-item.result c.loop-item-test.true c.item-item.is c.requires.names

pub returns-in_err-told-clause-forgets : goal.returns-in_err-told-clause-forgets
returns-in_err-told-clause-forgets g c = λ bucket of.
    λ d. aging_fault of.0 c.args.items.now (c.loop-item.invariant bucket of) c.item-item.result c.loop-item-test.true c.item-item.is (c.in_err-told.ensures.forgets bucket of) (as_plan c.from_residual.result) (plan_gives _ _ c.from_residual.ensures.1) d

pub returns-in_err-told-clause-near : goal.returns-in_err-told-clause-near
returns-in_err-told-clause-near g c = fault_near c.requires.folder.1.0 c.args.items.now (c.loop-item.invariant c.requires.folder.0 c.requires.folder.1) c.item-item.result c.loop-item-test.true c.item-item.is (c.in_err-told.ensures.forgets c.requires.folder.0 c.requires.folder.1) c.in_err-told.ensures.near

pub overflow_add-forgotten : goal.overflow_add-forgotten
overflow_add-forgotten g c =
    let before = (c.loop-item.invariant c.requires.folder.0 c.requires.folder.1).counted in
    let more = c.in_ok-told.ensures.counted.0 in
    let within = c.in_ok-told.ensures.counted.1 in
    omega (arith, before, more, within)

pub overflow_add-migrated : goal.overflow_add-migrated
overflow_add-migrated g c =
    let before = (c.loop-item.invariant c.requires.folder.0 c.requires.folder.1).counted in
    let more = c.in_ok-told.ensures.counted.0 in
    let within = c.in_ok-told.ensures.counted.1 in
    omega (arith, before, more, within)

pub loop-item-preserved : goal.loop-item-preserved
loop-item-preserved g c = λ bucket of.
    aging_more of.0 c.args.items.now (c.loop-item.invariant bucket of) c.item-item.result c.loop-item-test.true c.item-item.is c.in_ok-told.told (c.in_ok-told.ensures.forgets bucket of)
    c.in_ok-told.ensures.counted.0 c.in_ok-told.ensures.counted.1 c.in_ok-told.ensures.near

pub returns-clause-forgets : goal.returns-clause-forgets
returns-clause-forgets g c = λ bucket of. aging_all c.args.items.now (omega (arith, c.loop-item-test.false)) (c.loop-item.invariant bucket of)

pub returns-clause-counted : goal.returns-clause-counted
returns-clause-counted g c = ((c.loop-item.invariant c.requires.folder.0 c.requires.folder.1).counted, (c.loop-item.invariant c.requires.folder.0 c.requires.folder.1).within)

pub returns-clause-near : goal.returns-clause-near
returns-clause-near g c = let near = (c.loop-item.invariant c.requires.folder.0 c.requires.folder.1).near in omega (arith, near, c.loop-item.auto.item-index-end)
