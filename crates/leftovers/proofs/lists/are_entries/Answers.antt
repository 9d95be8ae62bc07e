use Rattle.std.proofs.Common.{sym, ◌∙◌}
use Rattle.leftovers.specs.Lists.{is_entry}
use Rattle.leftovers.proofs.lemmas.Walked.{all_end, all_on, all_start, all_stop}
use Rattle.leftovers.proofs.lists.are_entries.Goals as goal

pub loop-segment-init : goal.loop-segment-init
loop-segment-init c = all_start (is_entry c.args.subs c.args.folder.now c.args.id.now) c.args.list.now

pub returns-then-not-is_entry : goal.returns-then-not-is_entry
returns-then-not-is_entry c = sym (all_stop (is_entry c.args.subs c.args.folder.now c.args.id.now) c.args.list.now c.loop-segment.segment-index c.segment-item.result c.loop-segment-test.true c.segment-item.is c.loop-segment.invariant
    (sym c.is_entry.ensures ∙ c.if-not-is_entry.true))

pub loop-segment-preserved : goal.loop-segment-preserved
loop-segment-preserved c = all_on (is_entry c.args.subs c.args.folder.now c.args.id.now) c.args.list.now c.loop-segment.segment-index c.segment-item.result c.loop-segment-test.true c.segment-item.is c.loop-segment.invariant
    (sym c.is_entry.ensures ∙ c.if-not-is_entry.false)

pub returns : goal.returns
returns c = sym (all_end (is_entry c.args.subs c.args.folder.now c.args.id.now) c.args.list.now c.loop-segment.segment-index c.loop-segment-test.false c.loop-segment.invariant)
