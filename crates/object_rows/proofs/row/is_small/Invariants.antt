use Rattle.std.proofs.Common.{◌≡◌, ◌-◌, ◌^◌, min, sum_by, take}
use Rattle.object_rows.proofs.row.is_small.Given as goal

abbrev pub invariant-loop-segment : goal.invariant-loop-segment
invariant-loop-segment l = l.sum ≡ min (sum_by (λ s. s.size) (take l.segment-index l.segments)) (2 ^ 64 - 1)
