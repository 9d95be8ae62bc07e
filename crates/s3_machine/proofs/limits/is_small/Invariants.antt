use Rattle.std.proofs.Common.{◌≡◌, nat_le, drop, sum_by}
use Rattle.s3_machine.specs.Limits.{pair_bytes}
use Rattle.s3_machine.specs.declared.limits.TheConstants.{MOST_META_BYTES}
use Rattle.s3_machine.proofs.limits.is_small.Given as goal

abbrev pub invariant-loop-pair : goal.invariant-loop-pair
invariant-loop-pair l = nat_le (sum_by pair_bytes l.pairs) MOST_META_BYTES ≡ nat_le (sum_by pair_bytes (drop l.pair-index l.pairs)) l.left
