use Rattle.swift_calls.specs.Account.{find_object}
use Rattle.swift_store.specs.Listed.{is_inner}
use Rattle.swift_store.proofs.Passing.{passing_end, passing_lost, passing_next}
use Rattle.swift_store.proofs.segments.are_inner_segments_on_shelf.Goals as goal

pub loop-segment-preserved : goal.loop-segment-preserved
loop-segment-preserved g c =
    passing_next (λ account. is_inner (find_object account)) c.args.segments.now c.loop-segment.segment-index c.segment-item.result
    (g.S.Shelf.model c.args.shelf.now) (g.S.Shelf.model c.loop-segment.shelf) (g.S.Shelf.model c.is_inner.new.shelf) c.loop-segment-test.true c.segment-item.is c.loop-segment.invariant (rw c.if-not-branch.false at c.in_ok-is_inner.ensures.reads)

pub returns-then-not-branch : goal.returns-then-not-branch
returns-then-not-branch g c = record {
  reads = passing_lost (λ account. is_inner (find_object account)) c.args.segments.now c.loop-segment.segment-index c.segment-item.result
      (g.S.Shelf.model c.args.shelf.now) (g.S.Shelf.model c.loop-segment.shelf) (g.S.Shelf.model c.is_inner.new.shelf) c.loop-segment-test.true c.segment-item.is c.loop-segment.invariant (rw c.if-not-branch.true at c.in_ok-is_inner.ensures.reads);
}

pub returns : goal.returns
returns g c = record {
  reads = passing_end (λ account. is_inner (find_object account)) c.args.segments.now c.loop-segment.segment-index (g.S.Shelf.model c.args.shelf.now) (g.S.Shelf.model c.loop-segment.shelf) c.loop-segment-test.false c.loop-segment.invariant;
}
