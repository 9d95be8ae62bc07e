use Rattle.std.proofs.Common.{◌≡◌}
use Rattle.checksums.specs.Rows.{behind_zeros}
use Rattle.checksums.proofs.crc.crc_zero_byte.Given as goal

abbrev pub invariant-loop : goal.invariant-loop
invariant-loop l = l.shifted ≡ behind_zeros l.polynomial l.counter l.register
