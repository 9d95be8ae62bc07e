use Rattle.std.proofs.Common.{arith, sym, ap, subst, ◌∙◌}
use Rattle.std.specs.Prelude.{is_some}
use Rattle.std.specs.FinMap.{get}
use Rattle.std.specs.List.{AllByRecursion}
use Rattle.leftovers.specs.Lists.{HasName}
use Rattle.leftovers.proofs.Gathers.{added_all, added_more, added_none}
use Rattle.leftovers.proofs.Held.{all_ended, all_more, held_names, put_there, stays_none, stays_put, stays_then}
use Rattle.leftovers.proofs.lemmas.Lists.{take_zero}
use Rattle.leftovers.proofs.gathering.add_names.Goals as goal

pub loop-segment-init : goal.loop-segment-init
loop-segment-init c = record {
  added = added_none c.args.table.now c.args.segments.now;
  held = subst (AllByRecursion (HasName c.args.table.now)) (sym (take_zero c.args.segments.now)) tt;
  stays = stays_none c.args.table.now;
}

pub loop-segment-preserved : goal.loop-segment-preserved
loop-segment-preserved c =
    let grown = stays_put _ c.as_slice.result.now c.in_ok-put.ensures.ok in
    record {
      added = added_more _ _ _ c.args.segments.now c.loop-segment.segment-index c.segment-item.result _ c.as_slice.ensures c.loop-segment-test.true c.segment-item.is c.loop-segment.invariant.added c.in_ok-put.ensures.ok;
      held = all_more (HasName c.put.new.self) c.args.segments.now c.loop-segment.segment-index c.segment-item.result c.loop-segment-test.true c.segment-item.is
          (held_names grown _ c.loop-segment.invariant.held) (ap (λ n. is_some (get c.put.new.self n)) (sym c.as_slice.ensures) ∙ put_there _ c.as_slice.result.now c.in_ok-put.ensures.ok);
      stays = stays_then c.loop-segment.invariant.stays grown;
    }

pub returns : goal.returns
returns c = record {
  added = added_all _ _ c.args.segments.now c.loop-segment.segment-index (omega (arith, c.loop-segment-test.false)) c.loop-segment.invariant.added;
  held = all_ended (HasName c.loop-segment.table) c.args.segments.now c.loop-segment.segment-index (omega (arith, c.loop-segment-test.false)) c.loop-segment.invariant.held;
  stays = c.loop-segment.invariant.stays;
}
