use Rattle.std.proofs.Common.{◌≡◌, drop}
use Rattle.extended.specs.Checked.{first_code}
use Rattle.extended.proofs.compared.first_checksum_code.Given as goal

abbrev pub invariant-loop-checksum : goal.invariant-loop-checksum
invariant-loop-checksum l = first_code l.bytes l.checksums ≡ first_code l.bytes (drop l.checksum-index l.checksums)
