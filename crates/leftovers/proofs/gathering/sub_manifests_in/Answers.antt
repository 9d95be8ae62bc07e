use Rattle.std.proofs.Common.{sym, ap, ◌∙◌, arith}
use Rattle.leftovers.specs.Leftovers.{is_sub_manifest_name}
use Rattle.leftovers.proofs.lemmas.Counted.{all_counted, one_more, one_past}
use Rattle.leftovers.proofs.gathering.sub_manifests_in.Goals.{then-is_sub_manifest, else-is_sub_manifest}
use Rattle.leftovers.proofs.gathering.sub_manifests_in.Goals as goal

pub loop-segment-preserved : goal.loop-segment-preserved
loop-segment-preserved c = elim (c.if-is_sub_manifest.branch) [
  | then-is_sub_manifest w ↦ rw (w.count-is) (record {
    tally = one_more c.args.segments.now c.loop-segment.segment-index c.segment-item.result c.loop-segment-test.true c.segment-item.is c.loop-segment.invariant.tally (ap is_sub_manifest_name (sym c.as_slice.ensures) ∙ sym c.is_sub_manifest.ensures ∙ w.if-is_sub_manifest.true);
    few = let few = c.loop-segment.invariant.few in omega (arith, few);
  })
  | else-is_sub_manifest w ↦ rw (w.count-is) (record {
    tally = one_past c.args.segments.now c.loop-segment.segment-index c.segment-item.result c.loop-segment-test.true c.segment-item.is c.loop-segment.invariant.tally (ap is_sub_manifest_name (sym c.as_slice.ensures) ∙ sym c.is_sub_manifest.ensures ∙ w.if-is_sub_manifest.false);
    few = let few = c.loop-segment.invariant.few in omega (arith, few);
  })
]

pub returns : goal.returns
returns c = all_counted c.args.segments.now c.loop-segment.segment-index (omega (arith, c.loop-segment-test.false)) c.loop-segment.invariant.tally
