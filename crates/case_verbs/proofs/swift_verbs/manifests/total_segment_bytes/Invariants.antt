use Rattle.std.proofs.Common.{◌≤◌, sum, take}
use Rattle.case_verbs.proofs.swift_verbs.manifests.total_segment_bytes.Given as goal

-- no more than the bytes of the segments passed over
abbrev pub invariant-loop-size : goal.invariant-loop-size
invariant-loop-size l = l.bytes ≤ sum (take l.size-index l.sizes)
