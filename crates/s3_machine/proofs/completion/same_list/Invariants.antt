use Rattle.std.proofs.Common.{◌≡◌, drop}
use Rattle.std.specs.Cmp.Lexicographic.{pointwise}
use Rattle.s3_machine.specs.Uploads.{same_listed}
use Rattle.s3_machine.proofs.completion.same_list.Given as goal

abbrev pub invariant-loop-i : goal.invariant-loop-i
invariant-loop-i l = pointwise same_listed l.one l.other ≡ pointwise same_listed (drop l.i l.one) (drop l.i l.other)
