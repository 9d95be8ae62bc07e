use Rattle.std.specs.Prelude.{◌≡◌, ◌≤◌, take}
use Rattle.leftovers.specs.Gathering.{sub_manifests_in}
use Rattle.leftovers.proofs.gathering.sub_manifests_in.Given as goal

abbrev pub invariant-loop-segment : goal.invariant-loop-segment
invariant-loop-segment l = record {
  tally : l.count ≡ sub_manifests_in (take l.segment-index l.segments);
  few : l.count ≤ l.segment-index;
}
