use Rattle.std.proofs.Common.{ℕ, List}
use Rattle.sweep.specs.Aging.{IsRecordsOf}
use Rattle.sweep.proofs.AgingItems.{Aging}
use Rattle.sweep.proofs.forget_walk.forget_items.Given as goal

abbrev pub invariant-loop-item : goal.invariant-loop-item
invariant-loop-item g l = (bucket : List ℕ) → IsRecordsOf l.folder bucket → Aging (g.W.Swift.history l.initial.store) (g.W.Swift.history l.store) l.before bucket l.items l.item-index l.forgotten l.migrated
