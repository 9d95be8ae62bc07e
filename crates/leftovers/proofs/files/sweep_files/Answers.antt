use Rattle.std.specs.Prelude.{[], IfSome}
use Rattle.std.proofs.Common.{refl, sym, subst, arith}
use Rattle.swift_calls.specs.Limits.{IsMarker}
use Rattle.account_calls.proofs.lemmas.Markers.{text_is_marker}
use Rattle.leftovers.specs.Kept.{goes}
use Rattle.leftovers.proofs.Sparing.{spare_no, spare_then}
use Rattle.leftovers.proofs.SweepWalk.{counted_then, walked_end, walked_fault, walked_more, walked_none}
use Rattle.leftovers.specs.Faults.{as_plan}
use Rattle.leftovers.proofs.lemmas.Faults.{plan_gives}
use Rattle.leftovers.proofs.files.sweep_files.Goals as goal

pub pages-init : goal.pages-init
pages-init g c = record {
  is_marker = subst IsMarker (sym c.new-marker.ensures) (text_is_marker [] refl (omega arith));
  walked = λ bucket. rw (c.new-marker.ensures) (walked_none (g.W.Swift.history c.args.store.now) _ _ _);
  spares = spare_no c.args.folder.now (goes c.args.kept.now) (g.W.Swift.history c.args.store.now);
}

pub returns-in_err-swept-clause-asks : goal.returns-in_err-swept-clause-asks
returns-in_err-swept-clause-asks g c = λ bucket. walked_fault (c.pages.invariant.walked bucket) (c.in_err-swept.ensures.asks bucket) (c.in_err-swept.ensures.pays bucket) (as_plan c.from_residual.result) (plan_gives _ _ c.from_residual.ensures.1)

pub overflow_add-count : goal.overflow_add-count
overflow_add-count g c =
    let before = (c.pages.invariant.walked []).counted in
    let near = c.in_ok-swept.ensures.counted.0 in
    let few = c.in_ok-swept.ensures.few in
    omega (arith, before, near, few)

pub pages-preserved : goal.pages-preserved
pages-preserved g c = record {
  is_marker = subst (λ n. IfSome n IsMarker) c.in-Some.is c.in_ok-swept.ensures.is_marker;
  walked = λ bucket. walked_more (c.pages.invariant.walked bucket) (c.in_ok-swept.ensures.asks bucket) (c.in_ok-swept.ensures.pays bucket) c.in_ok-swept.ensures.counted.1 c.in-Some.next c.in-Some.is;
  spares = spare_then (c.pages.invariant.walked []).on c.pages.invariant.spares c.in_ok-swept.ensures.spares;
}

pub returns-in-None-clause-asks : goal.returns-in-None-clause-asks
returns-in-None-clause-asks g c = λ bucket. walked_end (c.pages.invariant.walked bucket) (c.in_ok-swept.ensures.asks bucket) (c.in_ok-swept.ensures.pays bucket) c.in_ok-swept.ensures.counted.1 c.in-None.is

pub returns-in-None-clause-counted : goal.returns-in-None-clause-counted
returns-in-None-clause-counted g c = counted_then (c.pages.invariant.walked []) (c.in_ok-swept.ensures.asks []) (c.in_ok-swept.ensures.pays []) c.in_ok-swept.ensures.counted.1

pub returns-in-None-clause-fits : goal.returns-in-None-clause-fits
returns-in-None-clause-fits g c =
    let before = (c.pages.invariant.walked []).counted in
    let near = c.in_ok-swept.ensures.counted.0 in
    let few = c.in_ok-swept.ensures.few in
    omega (arith, before, near, few)

pub returns-in_err-swept-clause-spares : goal.returns-in_err-swept-clause-spares
returns-in_err-swept-clause-spares g c = spare_then (c.pages.invariant.walked []).on c.pages.invariant.spares c.in_err-swept.ensures.spares

pub returns-in-None-clause-spares : goal.returns-in-None-clause-spares
returns-in-None-clause-spares g c = spare_then (c.pages.invariant.walked []).on c.pages.invariant.spares c.in_ok-swept.ensures.spares
