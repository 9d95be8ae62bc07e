use Rattle.std.specs.Prelude.{[], IfSome}
use Rattle.std.proofs.Common.{refl, sym, subst, arith}
use Rattle.swift_calls.specs.Limits.{IsMarker}
use Rattle.account_calls.proofs.lemmas.Markers.{text_is_marker}
use Rattle.account_calls.proofs.lemmas.Left.{throughout_none, throughout_then}
use Rattle.leftovers.proofs.Gathers.{gathering_end, gathering_fault, gathering_more, gathering_none}
use Rattle.leftovers.proofs.Held.{held_none, pages_end, pages_more}
use Rattle.leftovers.specs.Faults.{as_plan}
use Rattle.leftovers.proofs.lemmas.Faults.{plan_gives}
use Rattle.leftovers.proofs.gathering.gather.Goals as goal

pub pages-init : goal.pages-init
pages-init g c = record {
  is_marker = subst IsMarker (sym c.new-marker.ensures) (text_is_marker [] refl (omega arith));
  gathering = rw (c.new-marker.ensures, c.new-table.ensures) (gathering_none (g.W.Swift.history c.args.store.now) _ _ _);
  holds = rw (c.new-marker.ensures) (held_none (g.W.Swift.history c.args.store.now) c.args.source c.args.folder.now c.args.bucket.now _);
  leaves = throughout_none (g.W.Swift.history c.args.store.now);
}

pub returns-in_err-next-clause-asks : goal.returns-in_err-next-clause-asks
returns-in_err-next-clause-asks g c =
    gathering_fault c.pages.invariant.gathering c.in_err-next.ensures.asks c.in_err-next.ensures.pays (as_plan c.from_residual.result) (plan_gives _ _ c.from_residual.ensures.1)

pub returns-in_err-next-clause-leaves : goal.returns-in_err-next-clause-leaves
returns-in_err-next-clause-leaves g c =
    throughout_then c.pages.invariant.gathering.on c.in_err-next.ensures.asks.grows.on c.pages.invariant.leaves c.in_err-next.ensures.leaves

pub pages-preserved : goal.pages-preserved
pages-preserved g c = record {
  is_marker = subst (λ n. IfSome n IsMarker) c.in-Some.is c.in_ok-next.ensures.is_marker;
  gathering = gathering_more c.pages.invariant.gathering c.in_ok-next.ensures.asks c.in_ok-next.ensures.pays c.in-Some.next c.in-Some.is;
  holds = pages_more c.pages.invariant.gathering.on c.pages.invariant.leaves c.pages.invariant.holds c.in_ok-next.ensures.stays _ c.in_ok-next.ensures.holds c.in-Some.next c.in-Some.is;
  leaves = throughout_then c.pages.invariant.gathering.on c.in_ok-next.ensures.asks.grows.on c.pages.invariant.leaves c.in_ok-next.ensures.leaves;
}

pub returns-in-None : goal.returns-in-None
returns-in-None g c = record { asks = gathering_end c.pages.invariant.gathering c.in_ok-next.ensures.asks c.in_ok-next.ensures.pays c.in-None.is; holds = pages_end c.pages.invariant.gathering.on c.pages.invariant.leaves c.pages.invariant.holds c.in_ok-next.ensures.stays _ c.in_ok-next.ensures.holds c.in-None.is; leaves = throughout_then c.pages.invariant.gathering.on c.in_ok-next.ensures.asks.grows.on c.pages.invariant.leaves c.in_ok-next.ensures.leaves }
