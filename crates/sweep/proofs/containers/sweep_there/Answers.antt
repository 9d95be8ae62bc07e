use Rattle.account_calls.proofs.lemmas.Left.{throughout_none}
use Rattle.account_calls.proofs.lemmas.Idle.{goes_none}
use Rattle.sweep.proofs.SparedSides.{nothing_changed}
use Rattle.leftovers.specs.Sides.{folder_beside}
use Rattle.account_calls.specs.Calls.{by_account}
use Rattle.sweep.proofs.Beside.{asks_none, records_spared}
use Rattle.sweep.proofs.Tally.{tallies_none}
use Rattle.sweep.proofs.containers.sweep_there.Goals as goal

pub returns-in-Records-clause-asks : goal.returns-in-Records-clause-asks
returns-in-Records-clause-asks g c = rw (c.in-Records.is) (asks_none (by_account 0) _ _ (λ tree sound has. records_spared c.args.bucket.now c.requires tree sound has))

pub returns-in-Records-clause-tallies : goal.returns-in-Records-clause-tallies
returns-in-Records-clause-tallies g c = tallies_none _

pub returns-in-Segments-clause-asks : goal.returns-in-Segments-clause-asks
returns-in-Segments-clause-asks g c = rw (c.in-Segments.is) c.sweep_orphans.ensures.asks

pub returns-in-Segments-clause-tallies : goal.returns-in-Segments-clause-tallies
returns-in-Segments-clause-tallies g c = c.sweep_orphans.ensures.tallies

pub returns-in-Records-clause-spares : goal.returns-in-Records-clause-spares
returns-in-Records-clause-spares g c = nothing_changed (folder_beside c.args.kind c.args.bucket.now) (goes_none (g.W.Swift.history c.args.store.now)) (throughout_none (g.W.Swift.history c.args.store.now))

pub returns-in-Segments-clause-spares : goal.returns-in-Segments-clause-spares
returns-in-Segments-clause-spares g c = rw (c.in-Segments.is) c.sweep_orphans.ensures.spares
