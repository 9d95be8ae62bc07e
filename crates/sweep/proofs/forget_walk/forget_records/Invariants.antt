use Rattle.std.proofs.Common.{◌-◌, ℕ, List}
use Rattle.swift_calls.specs.History.{budget}
use Rattle.swift_calls.specs.Limits.{IsMarker}
use Rattle.sweep.specs.Aging.{IsRecordsOf}
use Rattle.sweep.proofs.AgingWalk.{Walked}
use Rattle.sweep.proofs.forget_walk.forget_records.Given as goal

abbrev pub decreases-pages : goal.decreases-pages
decreases-pages g l = budget - (g.W.Swift.history l.store).called

abbrev pub invariant-pages : goal.invariant-pages
invariant-pages g l = record {
  is_marker : IsMarker l.marker;
  walked : (bucket : List ℕ) → IsRecordsOf l.folder bucket → Walked (g.W.Swift.history l.initial.store) (g.W.Swift.history l.store) l.before bucket l.marker l.forgotten l.migrated;
}
