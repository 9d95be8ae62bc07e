use Rattle.std.proofs.Common.{take}
use Rattle.md5.specs.Md5.{Holds}
use Rattle.s3_machine.specs.Uploads.{digests_of}
use Rattle.s3_machine.proofs.completion.digest_of.Given as goal

-- the hasher holds the digests so far
abbrev pub invariant-loop-listed : goal.invariant-loop-listed
invariant-loop-listed l = Holds l.hasher (digests_of (take l.listed-index l.list))
