use Rattle.std.specs.Prelude.{[]}
use Rattle.leftovers.proofs.Sparing.{spare_others, spare_then}
use Rattle.leftovers.proofs.Strays.{all_go, stray_kept, stray_left, stray_swept}
use Rattle.std.proofs.Common.{arith}
use Rattle.leftovers.specs.Faults.{as_plan}
use Rattle.leftovers.proofs.lemmas.Faults.{plan_gives}
use Rattle.leftovers.proofs.stray.sweep_stray.Goals as goal

pub returns-in_err-count-clause-asks : goal.returns-in_err-count-clause-asks
returns-in_err-count-clause-asks g c = λ bucket beside.
    stray_kept c.args.folder.now bucket beside c.nothing-kept.result (all_go c.nothing-kept.result c.nothing-kept.ensures.listed c.nothing-kept.ensures.opened) (c.in_err-count.ensures.asks bucket) (as_plan c.from_residual.result) (plan_gives _ _ c.from_residual.ensures.1)

pub returns-in_err-remove_side-clause-asks : goal.returns-in_err-remove_side-clause-asks
returns-in_err-remove_side-clause-asks g c = λ bucket beside.
    stray_left c.args.folder.now bucket beside c.nothing-kept.result (all_go c.nothing-kept.result c.nothing-kept.ensures.listed c.nothing-kept.ensures.opened) (c.in_ok-count.ensures.asks bucket)
    (c.in_err-remove_side.ensures.asks bucket beside) (as_plan c.from_residual-in_err-remove_side.result) (plan_gives _ _ c.from_residual-in_err-remove_side.ensures.1)

pub returns-clause-asks : goal.returns-clause-asks
returns-clause-asks g c = λ bucket beside.
    stray_swept c.args.folder.now bucket beside c.nothing-kept.result (all_go c.nothing-kept.result c.nothing-kept.ensures.listed c.nothing-kept.ensures.opened) c.in_ok-count.count (c.in_ok-count.ensures.asks bucket)
    (c.in_ok-remove_side.ensures.asks bucket beside)

pub returns-clause-counted : goal.returns-clause-counted
returns-clause-counted g c =
    let count = c.in_ok-count.ensures.counted in
    let one = c.in_ok-remove_side.ensures.counted.1 in
    omega (arith, count, one)

pub returns-clause-fits : goal.returns-clause-fits
returns-clause-fits g c =
    let count = c.in_ok-count.ensures.counted in
    let near = c.in_ok-remove_side.ensures.counted.0 in
    omega (arith, count, near)

pub returns-in_err-count-clause-spares : goal.returns-in_err-count-clause-spares
returns-in_err-count-clause-spares g c = spare_others c.in_err-count.ensures.spares

pub returns-in_err-remove_side-clause-spares : goal.returns-in_err-remove_side-clause-spares
returns-in_err-remove_side-clause-spares g c = spare_then (c.in_ok-count.ensures.asks []).grows.on (spare_others c.in_ok-count.ensures.spares) c.in_err-remove_side.ensures.spares

pub returns-clause-spares : goal.returns-clause-spares
returns-clause-spares g c = spare_then (c.in_ok-count.ensures.asks []).grows.on (spare_others c.in_ok-count.ensures.spares) c.in_ok-remove_side.ensures.spares
