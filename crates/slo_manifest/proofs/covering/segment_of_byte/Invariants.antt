use Rattle.std.proofs.Common.{◌≡◌, ◌+◌, sum, take}
use Rattle.slo_manifest.proofs.covering.segment_of_byte.Given as goal

-- the bytes of the segments passed over, and those that are left
abbrev pub invariant-loop-index : goal.invariant-loop-index
invariant-loop-index l = sum (take l.index l.sizes) + l.left ≡ l.at
