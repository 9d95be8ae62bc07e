use Rattle.std.proofs.Common.{◌-◌}
use Rattle.std.specs.Prelude.{Ok}
use Rattle.swift_calls.specs.History.{budget}
use Rattle.account_calls.specs.Listing.{NamesContainers}
use Rattle.account_calls.specs.Told.{LeavesThroughout}
use Rattle.account_calls.proofs.lemmas.Walk.{Walked}
use Rattle.account_calls.proofs.listing.container_names.Given as goal

abbrev pub decreases-pages : goal.decreases-pages
decreases-pages g l = budget - (g.W.Swift.history l.store).called

abbrev pub invariant-pages : goal.invariant-pages
invariant-pages g l = Walked (g.W.Swift.history l.initial.store) (g.W.Swift.history l.store) l.marker l.names
    × LeavesThroughout (g.W.Swift.history l.initial.store) (g.W.Swift.history l.store)
    × NamesContainers (g.W.Swift.history l.initial.store) (Ok l.names)
