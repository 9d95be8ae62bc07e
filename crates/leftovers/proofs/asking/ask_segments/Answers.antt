use Rattle.std.specs.Prelude.{[], IfSome}
use Rattle.std.proofs.Common.{refl, sym, subst, arith}
use Rattle.swift_calls.specs.History.{present}
use Rattle.swift_calls.specs.Limits.{IsMarker}
use Rattle.upload_records.specs.Layout.{uploads_name}
use Rattle.account_calls.proofs.lemmas.Markers.{text_is_marker}
use Rattle.account_calls.proofs.lemmas.Left.{throughout_none, throughout_then}
use Rattle.leftovers.specs.Kept.{goes}
use Rattle.leftovers.proofs.AskWalk.{asked_none, asked_on, clear_empty, cleared_all, clears_on, walking_end, walking_fault, walking_more, walking_none}
use Rattle.leftovers.specs.Faults.{as_plan}
use Rattle.leftovers.proofs.lemmas.Faults.{plan_gives}
use Rattle.leftovers.proofs.asking.ask_segments.Goals as goal

pub pages-init : goal.pages-init
pages-init g c = record {
  is_marker = subst IsMarker (sym c.new-marker.ensures) (text_is_marker [] refl (omega arith));
  walking = rw (c.new-marker.ensures) (walking_none (g.W.Swift.history c.args.store.now) c.args.folder.now c.args.bucket.now (goes c.args.kept.now));
  clear = λ observable. clear_empty (uploads_name c.args.bucket.now) c.args.bucket.now (goes c.args.kept.now) (present (g.W.Swift.history c.args.store.now)) _ c.new-asked.ensures;
  asked = λ observable. rw (c.new-marker.ensures) (asked_none c.args.folder.now (goes c.args.kept.now) (present (g.W.Swift.history c.args.store.now)) _);
  leaves = throughout_none (g.W.Swift.history c.args.store.now);
}

pub returns-in_err-next-clause-asks : goal.returns-in_err-next-clause-asks
returns-in_err-next-clause-asks g c =
    walking_fault c.pages.invariant.walking c.in_err-next.ensures.asks c.in_err-next.ensures.pays (as_plan c.from_residual.result) (plan_gives _ _ c.from_residual.ensures.1)

pub returns-in_err-next-clause-leaves : goal.returns-in_err-next-clause-leaves
returns-in_err-next-clause-leaves g c =
    throughout_then c.pages.invariant.walking.on c.in_err-next.ensures.asks.grows.on c.pages.invariant.leaves c.in_err-next.ensures.leaves

pub pages-preserved : goal.pages-preserved
pages-preserved g c = record {
  is_marker = subst (λ n. IfSome n IsMarker) c.in-Some.is c.in_ok-next.ensures.is_marker;
  walking = walking_more c.pages.invariant.walking c.in_ok-next.ensures.asks c.in_ok-next.ensures.pays c.in-Some.next c.in-Some.is;
  clear = clears_on c.args.bucket.now (goes c.args.kept.now) _ _ c.pages.invariant.walking.on c.pages.invariant.leaves c.pages.invariant.clear c.in_ok-next.ensures.clear;
  asked = asked_on c.pages.invariant.walking.on c.pages.invariant.leaves c.pages.invariant.asked c.in_ok-next.ensures.stays _ c.in_ok-next.ensures.asked c.in-Some.next c.in-Some.is;
  leaves = throughout_then c.pages.invariant.walking.on c.in_ok-next.ensures.asks.grows.on c.pages.invariant.leaves c.in_ok-next.ensures.leaves;
}

pub returns-in-None : goal.returns-in-None
returns-in-None g c = record {
  asks = walking_end c.pages.invariant.walking c.in_ok-next.ensures.asks c.in_ok-next.ensures.pays c.in-None.is;
  clear = cleared_all c.pages.invariant.walking.on c.pages.invariant.leaves c.pages.invariant.asked c.in_ok-next.ensures.stays _ c.in_ok-next.ensures.asked c.args.bucket.now c.in-None.is
      (clears_on c.args.bucket.now (goes c.args.kept.now) _ _ c.pages.invariant.walking.on c.pages.invariant.leaves c.pages.invariant.clear c.in_ok-next.ensures.clear);
  leaves = throughout_then c.pages.invariant.walking.on c.in_ok-next.ensures.asks.grows.on c.pages.invariant.leaves c.in_ok-next.ensures.leaves;
}
