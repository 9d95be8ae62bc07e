use Rattle.std.proofs.Common.{◌≡◌, take}
use Rattle.account_calls.proofs.sub_manifests.copied_list.Given as goal

abbrev pub invariant-loop-segment : goal.invariant-loop-segment
invariant-loop-segment l = l.copy ≡ take l.segment-index l.segments
