use Rattle.std.proofs.Common.{sym, ap, ◌∙◌, arith}
use Rattle.leftovers.specs.Used.{is_taken}
use Rattle.sweep.proofs.Tallied.{tallying_all, tallying_more, tallying_none}
use Rattle.sweep.proofs.file_counts.add_files.Goals as goal

pub loop-item-init : goal.loop-item-init
loop-item-init c = tallying_none (is_taken c.args.used.now) c.args.items.now c.args.total

pub loop-item-preserved : goal.loop-item-preserved
loop-item-preserved c =
    tallying_more (is_taken c.args.used.now) c.args.items.now c.args.total c.loop-item.invariant c.item-item.result c.loop-item-test.true c.item-item.is _ _
    (ap (is_taken c.args.used.now) (sym c.as_slice.ensures) ∙ sym c.takes.ensures) c.in_ok-sum.ensures

pub returns : goal.returns
returns c = tallying_all (is_taken c.args.used.now) c.args.items.now c.args.total (omega (arith, c.loop-item-test.false)) c.loop-item.invariant
