use Rattle.std.specs.Prelude.{[]}
use Rattle.std.proofs.Common.{ap, sym, ◌∙◌, arith}
use Rattle.s3_names.specs.Key.{is_key}
use Rattle.leftovers.proofs.lemmas.Touched.{at_place}
use Rattle.leftovers.specs.Kept.{goes}
use Rattle.leftovers.proofs.Items.{sweeping_all, sweeping_fault, sweeping_more, sweeping_none, sweeping_past}
use Rattle.leftovers.proofs.Sparing.{spare_no, spare_then}
use Rattle.leftovers.proofs.files.sweep_items.Goals.{then-goes+in_ok-sweep_item, else-goes}
use Rattle.leftovers.specs.Faults.{as_plan}
use Rattle.leftovers.proofs.lemmas.Faults.{plan_gives}
use Rattle.leftovers.proofs.files.sweep_items.Goals as goal

pub loop-item-init : goal.loop-item-init
loop-item-init g c = record { sweeping = sweeping_none _ _ _ c.args.items.now; spares = spare_no c.args.folder.now (goes c.args.kept.now) (g.W.Swift.history c.args.store.now) }

pub sweep_item-requires-clause-name : goal.sweep_item-requires-clause-name
sweep_item-requires-clause-name g c = at_place is_key c.args.items.now c.loop-item.item-index c.item-item.result c.loop-item-test.true c.item-item.is c.requires.names

pub returns-in_err-sweep_item-clause-asks : goal.returns-in_err-sweep_item-clause-asks
returns-in_err-sweep_item-clause-asks g c =
    let passes = ap (goes c.args.kept.now) (sym c.as_slice.ensures) ∙ sym c.goes.ensures ∙ c.if-goes.true in
    sweeping_fault c.args.items.now c.loop-item.item-index c.loop-item.invariant.sweeping c.item-item.result c.loop-item-test.true c.item-item.is passes
    (λ bucket. c.in_err-sweep_item.ensures.asks bucket (goes c.args.kept.now) passes) (as_plan c.from_residual.result) (plan_gives _ _ c.from_residual.ensures.1)

pub returns-in_err-sweep_item-clause-spares : goal.returns-in_err-sweep_item-clause-spares
returns-in_err-sweep_item-clause-spares g c =
    let passes = ap (goes c.args.kept.now) (sym c.as_slice.ensures) ∙ sym c.goes.ensures ∙ c.if-goes.true in
    spare_then (c.loop-item.invariant.sweeping.asks []).grows.on c.loop-item.invariant.spares (c.in_err-sweep_item.ensures.spares (goes c.args.kept.now) passes)

pub loop-item-preserved : goal.loop-item-preserved
loop-item-preserved g c = elim (c.if-goes.branch) [
  | then-goes+in_ok-sweep_item w ↦
      let passes = ap (goes c.args.kept.now) (sym c.as_slice.ensures) ∙ sym c.goes.ensures ∙ w.if-goes.true in
      rw (w.store-is, w.count-is)
      (record {
        sweeping = sweeping_more c.args.items.now c.loop-item.item-index c.loop-item.invariant.sweeping c.item-item.result c.loop-item-test.true c.item-item.is passes
            (let one = w.in_ok-sweep_item.ensures.counted.1 in omega (arith, one)) (λ bucket. w.in_ok-sweep_item.ensures.asks bucket (goes c.args.kept.now) passes);
        spares = spare_then (c.loop-item.invariant.sweeping.asks []).grows.on c.loop-item.invariant.spares (w.in_ok-sweep_item.ensures.spares (goes c.args.kept.now) passes);
      })
  | else-goes w ↦
      let stays = ap (goes c.args.kept.now) (sym c.as_slice.ensures) ∙ sym c.goes.ensures ∙ w.if-goes.false in
      rw (w.store-is, w.count-is) (record {
        sweeping = sweeping_past c.args.items.now c.loop-item.item-index c.loop-item.invariant.sweeping c.item-item.result c.loop-item-test.true c.item-item.is stays;
        spares = c.loop-item.invariant.spares;
      })
]

pub returns-clause-asks : goal.returns-clause-asks
returns-clause-asks g c = sweeping_all c.args.items.now c.loop-item.item-index c.loop-item.invariant.sweeping (omega (arith, c.loop-item-test.false))

pub returns-clause-spares : goal.returns-clause-spares
returns-clause-spares g c = c.loop-item.invariant.spares
