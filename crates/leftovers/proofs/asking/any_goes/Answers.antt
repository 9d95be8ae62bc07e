use Rattle.std.proofs.Common.{ap, sym, ◌∙◌}
use Rattle.slo_manifest.specs.declared.Segment.{Segment}
use Rattle.leftovers.specs.Kept.{goes}
use Rattle.leftovers.proofs.lemmas.Walked.{any_end, any_on, any_start, any_stop}
use Rattle.leftovers.proofs.asking.any_goes.Goals as goal

pub loop-segment-init : goal.loop-segment-init
loop-segment-init c = any_start (λ (s : Segment). goes c.args.kept.now s.name) c.args.list.now

pub returns-then-goes : goal.returns-then-goes
returns-then-goes c = sym (any_stop (λ (s : Segment). goes c.args.kept.now s.name) c.args.list.now c.loop-segment.segment-index c.segment-item.result c.loop-segment-test.true c.segment-item.is c.loop-segment.invariant
    (ap (goes c.args.kept.now) (sym c.as_slice.ensures) ∙ sym c.goes.ensures ∙ c.if-goes.true))

pub loop-segment-preserved : goal.loop-segment-preserved
loop-segment-preserved c = any_on (λ (s : Segment). goes c.args.kept.now s.name) c.args.list.now c.loop-segment.segment-index c.segment-item.result c.loop-segment-test.true c.segment-item.is c.loop-segment.invariant
    (ap (goes c.args.kept.now) (sym c.as_slice.ensures) ∙ sym c.goes.ensures ∙ c.if-goes.false)

pub returns : goal.returns
returns c = sym (any_end (λ (s : Segment). goes c.args.kept.now s.name) c.args.list.now c.loop-segment.segment-index c.loop-segment-test.false c.loop-segment.invariant)
