use Rattle.std.proofs.Common.{arith}
use Rattle.leftovers.proofs.lemmas.Walked.{size_on, size_start}
use Rattle.leftovers.proofs.lists.is_size_of_list.Goals as goal

pub loop-segment-init : goal.loop-segment-init
loop-segment-init c = size_start c.args.list.now c.args.size

pub loop-segment-preserved : goal.loop-segment-preserved
loop-segment-preserved c = size_on c.args.list.now c.args.size c.loop-segment.segment-index c.loop-segment.left c.segment-item.result c.loop-segment-test.true c.segment-item.is c.loop-segment.invariant (omega arith)
