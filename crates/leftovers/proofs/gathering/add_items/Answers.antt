use Rattle.std.proofs.Common.{arith, sym, subst}
use Rattle.swift_calls.specs.History.{present}
use Rattle.s3_names.specs.Key.{is_key}
use Rattle.account_calls.proofs.lemmas.Left.{throughout_none, throughout_then}
use Rattle.leftovers.proofs.lemmas.Touched.{at_place}
use Rattle.leftovers.specs.Lists.{AreItemsHeld, IsItemHeld}
use Rattle.leftovers.proofs.Held.{all_ended, item_more, stays_none, stays_then}
use Rattle.leftovers.proofs.lemmas.Lists.{take_zero}
use Rattle.leftovers.proofs.Gathers.{adding_all, adding_fault, adding_more, adding_none}
use Rattle.leftovers.specs.Faults.{as_plan}
use Rattle.leftovers.proofs.lemmas.Faults.{plan_gives}
use Rattle.leftovers.proofs.gathering.add_items.Goals as goal

pub loop-item-init : goal.loop-item-init
loop-item-init g c = record {
  adding = adding_none c.args.files.now.source c.args.files.now.folder.now c.args.files.now.bucket.now c.args.items.now c.args.table.now _;
  holds = λ observable. subst (AreItemsHeld c.args.files.now.source c.args.files.now.folder.now c.args.files.now.bucket.now (present (g.W.Swift.history c.args.store.now)) c.args.table.now) (sym (take_zero c.args.items.now)) tt;
  stays = stays_none c.args.table.now;
  leaves = throughout_none (g.W.Swift.history c.args.store.now);
}

pub add_item-requires-clause-name : goal.add_item-requires-clause-name
add_item-requires-clause-name g c = at_place is_key c.args.items.now c.loop-item.item-index c.item-item.result c.loop-item-test.true c.item-item.is c.requires.names

pub returns-in_err-add_item-clause-asks : goal.returns-in_err-add_item-clause-asks
returns-in_err-add_item-clause-asks g c =
    adding_fault c.args.files.now.source c.args.files.now.folder.now c.args.files.now.bucket.now c.args.items.now c.args.table.now c.loop-item.table c.loop-item.invariant.adding c.item-item.result c.loop-item-test.true c.item-item.is c.add_item.new.table
    c.in_err-add_item.ensures.asks (as_plan c.from_residual.result) (plan_gives _ _ c.from_residual.ensures.1)

pub returns-in_err-add_item-clause-leaves : goal.returns-in_err-add_item-clause-leaves
returns-in_err-add_item-clause-leaves g c =
    throughout_then c.loop-item.invariant.adding.grows.on c.in_err-add_item.ensures.asks.grows.on c.loop-item.invariant.leaves c.in_err-add_item.ensures.leaves

pub loop-item-preserved : goal.loop-item-preserved
loop-item-preserved g c = record {
  adding = adding_more c.args.files.now.source c.args.files.now.folder.now c.args.files.now.bucket.now c.args.items.now c.args.table.now c.loop-item.table c.loop-item.invariant.adding c.item-item.result c.loop-item-test.true c.item-item.is c.add_item.new.table c.in_ok-add_item.ensures.asks;
  holds = item_more c.args.files.now.source c.args.files.now.folder.now c.args.files.now.bucket.now c.args.items.now c.item-item.result c.loop-item-test.true c.item-item.is c.loop-item.invariant.adding.grows.on c.loop-item.invariant.leaves c.in_ok-add_item.ensures.stays c.loop-item.invariant.holds c.in_ok-add_item.ensures.holds;
  stays = stays_then c.loop-item.invariant.stays c.in_ok-add_item.ensures.stays;
  leaves = throughout_then c.loop-item.invariant.adding.grows.on c.in_ok-add_item.ensures.asks.grows.on c.loop-item.invariant.leaves c.in_ok-add_item.ensures.leaves;
}

pub returns : goal.returns
returns g c = record {
  asks = adding_all c.args.files.now.source c.args.files.now.folder.now c.args.files.now.bucket.now c.args.items.now c.args.table.now c.loop-item.table c.loop-item.auto.item-index-end (omega (arith, c.loop-item-test.false)) c.loop-item.invariant.adding;
  holds = λ observable. all_ended (IsItemHeld c.args.files.now.source c.args.files.now.folder.now c.args.files.now.bucket.now (present (g.W.Swift.history c.args.store.now)) c.loop-item.table) c.args.items.now c.loop-item.item-index (omega (arith, c.loop-item-test.false)) (c.loop-item.invariant.holds observable);
  stays = c.loop-item.invariant.stays;
  leaves = c.loop-item.invariant.leaves;
}
