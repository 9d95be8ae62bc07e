use Rattle.std.specs.Prelude.{[], IfSome}
use Rattle.std.proofs.Common.{refl, sym, subst, arith}
use Rattle.swift_calls.specs.Limits.{IsMarker}
use Rattle.account_calls.proofs.lemmas.Markers.{text_is_marker}
use Rattle.sweep.proofs.AgingWalk.{calls_end, calls_fault, counted_end, walked_end, walked_fault, walked_more, walked_none}
use Rattle.leftovers.proofs.lemmas.Faults.{plan_gives}
use Rattle.leftovers.specs.Faults.{as_plan}
use Rattle.sweep.proofs.forget_walk.forget_records.Goals as goal

pub pages-init : goal.pages-init
pages-init g c = record {
  is_marker = subst IsMarker (sym c.new-marker.ensures) (text_is_marker [] refl (omega arith));
  walked = λ bucket of. rw (c.new-marker.ensures) (walked_none (g.W.Swift.history c.args.store.now) _ _);
}

pub returns-in_err-told-clause-forgets : goal.returns-in_err-told-clause-forgets
returns-in_err-told-clause-forgets g c = λ bucket of. walked_fault of.0 (c.pages.invariant.walked bucket of) (c.in_err-told.ensures.forgets bucket of) (as_plan c.from_residual.result) (plan_gives _ _ c.from_residual.ensures.1)

pub returns-in_err-told-clause-calls : goal.returns-in_err-told-clause-calls
returns-in_err-told-clause-calls g c = λ bucket of. calls_fault of.0 (c.pages.invariant.walked bucket of) (c.in_err-told.ensures.forgets bucket of) (c.in_err-told.ensures.pays bucket of)

pub overflow_add-forgotten : goal.overflow_add-forgotten
overflow_add-forgotten g c =
    let before = (c.pages.invariant.walked c.requires.folder.0 c.requires.folder.1).counted in
    let more = c.in_ok-told.ensures.counted.0 in
    let within = c.in_ok-told.ensures.counted.1 in
    omega (arith, before, more, within)

pub overflow_add-migrated : goal.overflow_add-migrated
overflow_add-migrated g c =
    let before = (c.pages.invariant.walked c.requires.folder.0 c.requires.folder.1).counted in
    let more = c.in_ok-told.ensures.counted.0 in
    let within = c.in_ok-told.ensures.counted.1 in
    omega (arith, before, more, within)

pub pages-preserved : goal.pages-preserved
pages-preserved g c = record {
  is_marker = subst (λ n. IfSome n IsMarker) c.in-Some.is c.in_ok-told.ensures.is_marker;
  walked = λ bucket of. walked_more of.0 (c.pages.invariant.walked bucket of) (c.in_ok-told.ensures.forgets bucket of) (c.in_ok-told.ensures.pays bucket of) c.in_ok-told.ensures.counted.0 c.in-Some.next c.in-Some.is;
}

pub returns-in-None-clause-forgets : goal.returns-in-None-clause-forgets
returns-in-None-clause-forgets g c = λ bucket of. walked_end of.0 (c.pages.invariant.walked bucket of) (c.in_ok-told.ensures.forgets bucket of) (c.in_ok-told.ensures.pays bucket of) c.in_ok-told.ensures.counted.0 c.in-None.is

pub returns-in-None-clause-calls : goal.returns-in-None-clause-calls
returns-in-None-clause-calls g c = λ bucket of. calls_end of.0 (c.pages.invariant.walked bucket of) (c.in_ok-told.ensures.forgets bucket of) (c.in_ok-told.ensures.pays bucket of) c.in_ok-told.ensures.counted.0 c.in-None.is

pub returns-in-None-clause-counted : goal.returns-in-None-clause-counted
returns-in-None-clause-counted g c = (
  counted_end c.requires.folder.1.0 (c.pages.invariant.walked c.requires.folder.0 c.requires.folder.1) (c.in_ok-told.ensures.forgets c.requires.folder.0 c.requires.folder.1) (c.in_ok-told.ensures.pays c.requires.folder.0 c.requires.folder.1) c.in_ok-told.ensures.counted.0,
  c.in_ok-told.ensures.counted.1,
)
