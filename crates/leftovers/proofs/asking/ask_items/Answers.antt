use Rattle.std.proofs.Common.{arith, sym, subst}
use Rattle.account_calls.proofs.lemmas.Left.{throughout_none, throughout_then}
use Rattle.leftovers.specs.Asking.{AreAsked, IsAsked}
use Rattle.leftovers.specs.Kept.{goes}
use Rattle.leftovers.proofs.AskWalk.{asked_more, asking_all, asking_fault, asking_more, asking_none, clears_then}
use Rattle.leftovers.proofs.Held.{all_ended, stays_none, stays_then}
use Rattle.leftovers.proofs.lemmas.Lists.{take_zero}
use Rattle.leftovers.specs.Faults.{as_plan}
use Rattle.leftovers.proofs.lemmas.Faults.{plan_gives}
use Rattle.leftovers.proofs.asking.ask_items.Goals as goal

pub loop-item-init : goal.loop-item-init
loop-item-init g c = record {
  asks = asking_none c.args.bucket.now (goes c.args.kept.now) c.args.items.now _;
  clear = λ observable clear. clear;
  asked = subst (AreAsked (goes c.args.kept.now) c.args.asked.now) (sym (take_zero c.args.items.now)) tt;
  stays = stays_none c.args.asked.now;
  leaves = throughout_none (g.W.Swift.history c.args.store.now);
}

pub returns-in_err-ask_item-clause-asks : goal.returns-in_err-ask_item-clause-asks
returns-in_err-ask_item-clause-asks g c =
    asking_fault c.args.bucket.now (goes c.args.kept.now) c.args.items.now c.loop-item.invariant.asks c.item-item.result c.loop-item-test.true c.item-item.is c.in_err-ask_item.ensures.asks (as_plan c.from_residual.result) (plan_gives _ _ c.from_residual.ensures.1)

pub returns-in_err-ask_item-clause-leaves : goal.returns-in_err-ask_item-clause-leaves
returns-in_err-ask_item-clause-leaves g c =
    throughout_then c.loop-item.invariant.asks.grows.on c.in_err-ask_item.ensures.asks.grows.on c.loop-item.invariant.leaves c.in_err-ask_item.ensures.leaves

pub loop-item-preserved : goal.loop-item-preserved
loop-item-preserved g c = record {
  asks = asking_more c.args.bucket.now (goes c.args.kept.now) c.args.items.now c.loop-item.invariant.asks c.item-item.result c.loop-item-test.true c.item-item.is c.in_ok-ask_item.ensures.asks;
  clear = clears_then c.args.bucket.now (goes c.args.kept.now) _ _ _ c.loop-item.invariant.asks.grows.on c.loop-item.invariant.leaves c.loop-item.invariant.clear c.in_ok-ask_item.ensures.clear;
  asked = asked_more c.args.bucket.now (goes c.args.kept.now) c.args.items.now c.item-item.result c.loop-item-test.true c.item-item.is c.in_ok-ask_item.ensures.stays c.loop-item.invariant.asked c.in_ok-ask_item.ensures.asked;
  stays = stays_then c.loop-item.invariant.stays c.in_ok-ask_item.ensures.stays;
  leaves = throughout_then c.loop-item.invariant.asks.grows.on c.in_ok-ask_item.ensures.asks.grows.on c.loop-item.invariant.leaves c.in_ok-ask_item.ensures.leaves;
}

pub returns : goal.returns
returns g c = record {
  asks = asking_all c.args.bucket.now (goes c.args.kept.now) c.args.items.now c.loop-item.auto.item-index-end c.loop-item.invariant.asks;
  clear = c.loop-item.invariant.clear;
  asked = all_ended (IsAsked (goes c.args.kept.now) c.loop-item.asked) c.args.items.now c.loop-item.item-index (omega (arith, c.loop-item-test.false)) c.loop-item.invariant.asked;
  stays = c.loop-item.invariant.stays;
  leaves = c.loop-item.invariant.leaves;
}
