use Rattle.std.proofs.Common.{refl, sym, subst}
use Rattle.planner.proofs.Bodiless.{reading_bodiless}
use Rattle.planner.proofs.Finding.{answered_or_found, leaves_end}
use Rattle.planner.proofs.reading.find_object.Goals as goal
use Rattle.planner.specs.Reading.{HasNoByte}

pub returns-clause-answered : goal.returns-clause-answered
returns-clause-answered g c = rw c.reading_end.ensures
    (answered_or_found _ _ _ _ _ _ refl refl _ c.found_object.ensures.stops c.found_object.ensures.finds)

pub returns-clause-account : goal.returns-clause-account
returns-clause-account g c = c.found_object.ensures.account

pub returns-clause-leaves : goal.returns-clause-leaves
returns-clause-leaves g c = rw c.reading_end.ensures (leaves_end _ c.found_object.ensures.leaves)

pub returns-clause-bodiless : goal.returns-clause-bodiless
returns-clause-bodiless g c = subst HasNoByte (sym c.reading_end.ensures) (reading_bodiless _ c.found_object.ensures.leaves)
