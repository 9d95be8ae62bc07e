use Rattle.std.specs.Prelude.{[], IfSome}
use Rattle.std.proofs.Common.{refl, sym, subst, arith}
use Rattle.swift_calls.specs.Limits.{IsMarker}
use Rattle.account_calls.proofs.lemmas.Markers.{text_is_marker}
use Rattle.account_calls.proofs.lemmas.Left.{throughout_none, throughout_then}
use Rattle.sweep.proofs.Tallied.{walk_end, walk_fault, walk_more, walk_none}
use Rattle.leftovers.specs.Faults.{as_plan}
use Rattle.leftovers.proofs.lemmas.Faults.{plan_gives}
use Rattle.sweep.proofs.file_counts.tally_files.Goals as goal

pub pages-init : goal.pages-init
pages-init g c = record {
  is_marker = subst IsMarker (sym c.new-marker.ensures) (text_is_marker [] refl (omega arith));
  walk = rw (c.new-marker.ensures) (walk_none (g.W.Swift.history c.args.store.now) _ _);
  leaves = throughout_none (g.W.Swift.history c.args.store.now);
}

pub returns-in_err-sum : goal.returns-in_err-sum
returns-in_err-sum g c = record { asks = walk_fault c.pages.invariant.walk c.in_err-sum.ensures.asks (as_plan c.from_residual.result) (plan_gives _ _ c.from_residual.ensures.1); leaves = throughout_then c.pages.invariant.walk.on c.in_err-sum.ensures.asks.grows.on c.pages.invariant.leaves c.in_err-sum.ensures.leaves }

pub pages-preserved : goal.pages-preserved
pages-preserved g c = record {
  is_marker = subst (λ n. IfSome n IsMarker) c.in-Some.is c.in_ok-sum.ensures.is_marker;
  walk = walk_more c.pages.invariant.walk c.in_ok-sum.ensures.asks c.in-Some.next c.in-Some.is;
  leaves = throughout_then c.pages.invariant.walk.on c.in_ok-sum.ensures.asks.grows.on c.pages.invariant.leaves c.in_ok-sum.ensures.leaves;
}

pub returns-in-None : goal.returns-in-None
returns-in-None g c = record { asks = walk_end c.pages.invariant.walk c.in_ok-sum.ensures.asks c.in-None.is; leaves = throughout_then c.pages.invariant.walk.on c.in_ok-sum.ensures.asks.grows.on c.pages.invariant.leaves c.in_ok-sum.ensures.leaves }
