use Rattle.std.proofs.Common.{◌≡◌, ℕ, drop}
use Rattle.checksums.specs.Crc.{message_bits, crc_bits}
use Rattle.checksums.specs.Rows.{AreRows}
use Rattle.checksums.proofs.crc.crc_bytes.Given as goal

abbrev pub invariant-loop-byte : goal.invariant-loop-byte
invariant-loop-byte l =
    (p : ℕ) → AreRows p l.table
    → crc_bits p l.shifted (message_bits (drop l.byte-index l.message)) ≡ crc_bits p l.register (message_bits l.message)
