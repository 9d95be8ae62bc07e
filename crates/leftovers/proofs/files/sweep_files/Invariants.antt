use Rattle.std.proofs.Common.{◌-◌, ℕ, List}
use Rattle.swift_calls.specs.History.{budget}
use Rattle.swift_calls.specs.Limits.{IsMarker}
use Rattle.leftovers.specs.Kept.{goes}
use Rattle.leftovers.specs.Sweeping.{SparesThen}
use Rattle.leftovers.proofs.SweepWalk.{Walked}
use Rattle.leftovers.proofs.files.sweep_files.Given as goal

abbrev pub decreases-pages : goal.decreases-pages
decreases-pages g l = budget - (g.W.Swift.history l.store).called

abbrev pub invariant-pages : goal.invariant-pages
invariant-pages g l = record {
  is_marker : IsMarker l.marker;
  walked : (bucket : List ℕ) → Walked (g.W.Swift.history l.initial.store) (g.W.Swift.history l.store) l.folder bucket (goes l.kept) l.marker l.count;
  spares : SparesThen l.folder (goes l.kept) (g.W.Swift.history l.initial.store) (g.W.Swift.history l.store);
}
