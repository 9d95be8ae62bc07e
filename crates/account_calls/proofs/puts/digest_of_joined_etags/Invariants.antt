use Rattle.std.proofs.Common.{take}
use Rattle.md5.specs.Md5.{Holds}
use Rattle.slo_manifest.specs.Etag.{joined_etags}
use Rattle.account_calls.proofs.puts.digest_of_joined_etags.Given as goal

-- the hasher holds the ETags so far
abbrev pub invariant-loop-segment : goal.invariant-loop-segment
invariant-loop-segment l = Holds l.hasher (joined_etags (take l.segment-index l.segments))
