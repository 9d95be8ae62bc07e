use Rattle.std.proofs.Common.{arith, sym, subst}
use Rattle.swift_calls.specs.History.{present}
use Rattle.account_calls.proofs.lemmas.Left.{throughout_none, throughout_then}
use Rattle.leftovers.specs.Lists.{AreHeld, IsHeld}
use Rattle.leftovers.proofs.Held.{all_ended, segment_more, stays_none, stays_then}
use Rattle.leftovers.proofs.Namings.{naming_all, naming_fault, naming_more, naming_none}
use Rattle.leftovers.proofs.lemmas.Lists.{take_zero}
use Rattle.leftovers.proofs.gathering.add_listing.Goals as goal

pub loop-segment-init : goal.loop-segment-init
loop-segment-init g c = record {
  naming = naming_none c.args.bucket.now c.args.segments.now c.args.table.now _;
  holds = λ observable. subst (AreHeld c.args.bucket.now (present (g.W.Swift.history c.args.store.now)) c.args.table.now) (sym (take_zero c.args.segments.now)) tt;
  stays = stays_none c.args.table.now;
  leaves = throughout_none (g.W.Swift.history c.args.store.now);
}

pub returns-in_err-add_segment-clause-asks : goal.returns-in_err-add_segment-clause-asks
returns-in_err-add_segment-clause-asks g c =
    naming_fault c.args.bucket.now c.args.segments.now c.args.table.now c.loop-segment.table c.loop-segment.invariant.naming c.segment-item.result c.loop-segment-test.true c.segment-item.is c.add_segment.new.table
    c.in_err-add_segment.ensures.asks _ c.from_residual.ensures.1

pub returns-in_err-add_segment-clause-leaves : goal.returns-in_err-add_segment-clause-leaves
returns-in_err-add_segment-clause-leaves g c =
    throughout_then c.loop-segment.invariant.naming.grows.on c.in_err-add_segment.ensures.asks.grows.on c.loop-segment.invariant.leaves c.in_err-add_segment.ensures.leaves

pub loop-segment-preserved : goal.loop-segment-preserved
loop-segment-preserved g c = record {
  naming = naming_more c.args.bucket.now c.args.segments.now c.args.table.now c.loop-segment.table c.loop-segment.invariant.naming c.segment-item.result c.loop-segment-test.true c.segment-item.is c.add_segment.new.table c.in_ok-add_segment.ensures.asks;
  holds = segment_more c.args.bucket.now c.args.segments.now c.segment-item.result c.loop-segment-test.true c.segment-item.is c.loop-segment.invariant.naming.grows.on c.loop-segment.invariant.leaves c.in_ok-add_segment.ensures.stays c.loop-segment.invariant.holds c.in_ok-add_segment.ensures.holds;
  stays = stays_then c.loop-segment.invariant.stays c.in_ok-add_segment.ensures.stays;
  leaves = throughout_then c.loop-segment.invariant.naming.grows.on c.in_ok-add_segment.ensures.asks.grows.on c.loop-segment.invariant.leaves c.in_ok-add_segment.ensures.leaves;
}

pub returns : goal.returns
returns g c = record {
  asks = naming_all c.args.bucket.now c.args.segments.now c.args.table.now c.loop-segment.table (omega (arith, c.loop-segment-test.false)) c.loop-segment.invariant.naming;
  holds = λ observable. all_ended (IsHeld c.args.bucket.now (present (g.W.Swift.history c.args.store.now)) c.loop-segment.table) c.args.segments.now c.loop-segment.segment-index (omega (arith, c.loop-segment-test.false)) (c.loop-segment.invariant.holds observable);
  stays = c.loop-segment.invariant.stays;
  leaves = c.loop-segment.invariant.leaves;
}
