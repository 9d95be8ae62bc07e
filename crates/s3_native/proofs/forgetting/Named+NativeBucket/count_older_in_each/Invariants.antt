use Rattle.std.proofs.Common.{◌≡◌, ◌+◌, ◌-◌, ◌^◌, ◌<◌, min}
use Rattle.s3_native.proofs.Forgotten.{old_among}
use Rattle.s3_native.proofs.forgetting.Named+NativeBucket.count_older_in_each.Given as goal

abbrev pub invariant-loop-bucket : goal.invariant-loop-bucket
invariant-loop-bucket l = record {
  fits : l.count < 2 ^ 64;
  sums : min (l.count + old_among l.before l.bucket-iterator) (2 ^ 64 - 1) ≡ min (old_among l.before l.initial.bucket-iterator) (2 ^ 64 - 1);
}
