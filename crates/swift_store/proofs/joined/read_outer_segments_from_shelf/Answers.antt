use Rattle.std.proofs.Common.{◌-◌, ap, ◌∙◌}
use Rattle.swift_calls.specs.Bodies.{outer_bytes}
use Rattle.swift_store.proofs.Joining.{outer_sized, reading_end, reading_next}
use Rattle.swift_store.proofs.joined.read_outer_segments_from_shelf.Goals as goal

pub loop-segment-preserved : goal.loop-segment-preserved
loop-segment-preserved g c =
    reading_next outer_bytes outer_sized c.args.segments.now c.args.skip c.args.count c.args.out.now c.loop-segment.segment-index c.loop-segment.skip c.loop-segment.count c.saturating_sub-skip.result c.saturating_sub-count.result c.segment-item.result c.loop-segment.out c.read_outer_segment_from_shelf.new.out
    (g.S.Shelf.model c.args.shelf.now) (g.S.Shelf.model c.loop-segment.shelf) (g.S.Shelf.model c.read_outer_segment_from_shelf.new.shelf) c.loop-segment-test.true c.segment-item.is c.saturating_sub-skip.ensures
    (c.saturating_sub-count.ensures ∙ ap (λ n. c.loop-segment.count - n) c.saturating_sub.ensures) c.loop-segment.invariant c.in_ok-read_outer_segment_from_shelf.ensures.reads

pub returns : goal.returns
returns g c = record {
  reads = reading_end outer_bytes outer_sized c.args.segments.now c.args.skip c.args.count c.args.out.now c.loop-segment.segment-index c.loop-segment.skip c.loop-segment.count c.loop-segment.out
      (g.S.Shelf.model c.args.shelf.now) (g.S.Shelf.model c.loop-segment.shelf) c.loop-segment-test.false c.loop-segment.invariant;
}
