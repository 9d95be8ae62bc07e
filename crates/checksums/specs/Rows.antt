-- What the rows of a table hold, by which a CRC takes several bytes at once: registers that have shifted without a message.
-- Source: D. V. Sarwate, "Computation of cyclic redundancy checks via table look-up", 1988.
use Rattle.std.specs.Prelude.{◌≡◌, ℕ, zero, suc, ◌+◌, ◌*◌, ◌/◌, ◌%◌, ◌<◌, List, slice_index}
use Rattle.checksums.specs.Crc.{crc_bit}

-- the register behind so many bits that are zero
unfoldable pub behind_zeros : ℕ → ℕ → ℕ → ℕ
behind_zeros polynomial zero register = register
behind_zeros polynomial (suc count) register = behind_zeros polynomial count (crc_bit polynomial register 0)

-- the register behind so many bytes that are zero
abbrev pub behind_zero_bytes : ℕ → ℕ → ℕ → ℕ
behind_zero_bytes polynomial count register = behind_zeros polynomial (8 * count) register

-- up to a place of the table, each row has an entry for each byte: what is left of it behind as many bytes as the row's
-- number, counted from 1
unfoldable pub IsFilledTo : ℕ → ℕ → List ℕ → Type 0
IsFilledTo polynomial end table =
    (place : ℕ) → place < end → slice_index table place ≡ behind_zero_bytes polynomial (place / 256 + 1) (place % 256)

-- eight rows
abbrev pub AreRows : ℕ → List ℕ → Type 0
AreRows polynomial table = IsFilledTo polynomial 2048 table
