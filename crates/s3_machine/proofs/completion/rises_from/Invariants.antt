use Rattle.std.proofs.Common.{◌≡◌, drop}
use Rattle.s3_machine.specs.Uploads.{rises_from}
use Rattle.s3_machine.proofs.completion.rises_from.Given as goal

abbrev pub invariant-loop-listed : goal.invariant-loop-listed
invariant-loop-listed l = rises_from l.above l.list ≡ rises_from l.last (drop l.listed-index l.list)
