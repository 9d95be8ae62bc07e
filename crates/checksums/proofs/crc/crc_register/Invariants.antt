use Rattle.std.proofs.Common.{◌≡◌, ◌*◌, ℕ, drop}
use Rattle.checksums.specs.Crc.{message_bits, crc_bits}
use Rattle.checksums.specs.Rows.{AreRows}
use Rattle.checksums.proofs.crc.crc_register.Given as goal

abbrev pub invariant-loop-index : goal.invariant-loop-index
invariant-loop-index l =
    (p : ℕ) → AreRows p l.table
    → crc_bits p l.shifted (message_bits (drop (8 * l.index) l.message)) ≡ crc_bits p l.register (message_bits l.message)
