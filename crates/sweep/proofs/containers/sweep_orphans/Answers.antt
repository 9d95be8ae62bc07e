use Rattle.sweep.proofs.SparedSides.{others_stay}
use Rattle.std.proofs.Common.{arith}
use Rattle.sweep.proofs.Beside.{asks_err, asks_made, segments_side}
use Rattle.sweep.proofs.Tally.{tallies_of}
use Rattle.leftovers.specs.Faults.{as_plan}
use Rattle.leftovers.proofs.lemmas.Faults.{plan_gives}
use Rattle.sweep.proofs.containers.sweep_orphans.Goals as goal

pub returns-in_err-segments-clause-asks : goal.returns-in_err-segments-clause-asks
returns-in_err-segments-clause-asks g c = asks_err c.in_err-segments.ensures.asks (as_plan c.from_residual.result) (plan_gives _ _ c.from_residual.ensures.1)

pub returns-clause-asks : goal.returns-clause-asks
returns-clause-asks g c = asks_made _ (λ old new sound has told. segments_side c.args.bucket.now c.requires old new c.in_ok-segments.segments sound has told) c.in_ok-segments.ensures.asks

pub returns-clause-tallies : goal.returns-clause-tallies
returns-clause-tallies g c =
    let paid = c.in_ok-segments.ensures.counted in
    let fits = c.in_ok-segments.ensures.fits in
    tallies_of c.in_ok-segments.segments 0 0 (omega (arith, paid)) (omega (arith, fits))

pub returns-in_err-segments-clause-spares : goal.returns-in_err-segments-clause-spares
returns-in_err-segments-clause-spares g c = others_stay c.args.bucket.now c.in_err-segments.ensures.heeds

pub returns-clause-spares : goal.returns-clause-spares
returns-clause-spares g c = others_stay c.args.bucket.now c.in_ok-segments.ensures.heeds
