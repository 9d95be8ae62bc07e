use Rattle.std.proofs.Common.{◌≡◌, drop}
use Rattle.s3_native.specs.Native.{is_small_list}
use Rattle.s3_native.proofs.upload.Numbered+NativePart.is_small_list.Given as goal

abbrev pub invariant-loop-i : goal.invariant-loop-i
invariant-loop-i l = is_small_list l.self l.least l.list ≡ is_small_list l.self l.least (drop l.i l.list)
