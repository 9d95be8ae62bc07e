use Rattle.std.proofs.Common.{ap, drop, sym, ◌+◌, ◌∙◌}
use Rattle.std.specs.Ordering.{is_lt}
use Rattle.gate_base.specs.Maps.{name_cmp}
use Rattle.leftovers.specs.Lists.{names_rise}
use Rattle.leftovers.proofs.lemmas.Walked.{rise_end, rise_on, rise_start, rise_stop}
use Rattle.leftovers.proofs.lists.names_rise.Goals as goal

pub loop-segment-init : goal.loop-segment-init
loop-segment-init c = rise_start c.args.list.now

pub returns-then-not-is_lt : goal.returns-then-not-is_lt
returns-then-not-is_lt c = sym (rise_stop c.args.list.now c.loop-segment.last.now c.loop-segment.segment-index c.segment-item.result c.loop-segment-test.true c.segment-item.is c.loop-segment.invariant
    (ap is_lt (ap (name_cmp c.loop-segment.last.now) (sym c.as_slice.ensures) ∙ sym c.cmp.ensures) ∙ sym c.is_lt.ensures ∙ c.if-not-is_lt.true))

pub loop-segment-preserved : goal.loop-segment-preserved
loop-segment-preserved c = rise_on c.args.list.now c.loop-segment.last.now c.loop-segment.segment-index c.segment-item.result c.loop-segment-test.true c.segment-item.is c.loop-segment.invariant
    (ap is_lt (ap (name_cmp c.loop-segment.last.now) (sym c.as_slice.ensures) ∙ sym c.cmp.ensures) ∙ sym c.is_lt.ensures ∙ c.if-not-is_lt.false)
    ∙ ap (λ l. names_rise l (drop (c.loop-segment.segment-index + 1) c.args.list.now)) (sym c.as_slice-last.ensures)

pub returns : goal.returns
returns c = sym (rise_end c.args.list.now c.loop-segment.last.now c.loop-segment.segment-index c.loop-segment-test.false c.loop-segment.invariant)
