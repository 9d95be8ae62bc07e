-- Cyclic redundancy checks: what a register holds behind a message that it takes in bit by bit. Sources: RFC 1952, section 8
-- (CRC-32), RFC 3720, section 12.1 (CRC-32C), NVM Express NVM Command Set, section 5.2.1.3.4 (CRC-64/NVME). All three are
-- reflected: of each byte the lowest bit comes first, and a polynomial has the coefficient of its lowest power in its highest
-- bit and leaves out its highest power. The register begins as ones, and ones are added to it at the end.
use Rattle.std.specs.Prelude.{ℕ, zero, suc, ◌-◌, ◌/◌, ◌%◌, ◌^◌, ◌==◌, if◌then◌else◌, List, [], ◌∷◌, ◌++◌, bit_xor}

-- so many bits of a number, the lowest first
unfoldable pub low_bits : ℕ → ℕ → List ℕ
low_bits zero number = []
low_bits (suc count) number = number % 2 ∷ low_bits count (number / 2)

-- the bits of a message in their order
unfoldable pub message_bits : List ℕ → List ℕ
message_bits [] = []
message_bits (byte ∷ rest) = low_bits 8 byte ++ message_bits rest

-- the register behind one more bit: it shifts, and where the bit that leaves it isn't the message's, the polynomial is added
abbrev pub crc_bit : ℕ → ℕ → ℕ → ℕ
crc_bit polynomial register bit =
    if register % 2 == bit then register / 2 else bit_xor (register / 2) polynomial

-- the register behind these bits
unfoldable pub crc_bits : ℕ → ℕ → List ℕ → ℕ
crc_bits polynomial register [] = register
crc_bits polynomial register (bit ∷ rest) = crc_bits polynomial (crc_bit polynomial register bit) rest

-- the checksum of a message, by a polynomial and the ones of the whole register
unfoldable pub crc : ℕ → ℕ → List ℕ → ℕ
crc polynomial ones message = bit_xor (crc_bits polynomial ones (message_bits message)) ones

-- CRC-32, whose polynomial is 0x04c11db7 the other way round
abbrev pub crc32 : List ℕ → ℕ
crc32 = crc 0xedb88320 (2 ^ 32 - 1)

-- CRC-32C, 0x1edc6f41 the other way round
abbrev pub crc32c : List ℕ → ℕ
crc32c = crc 0x82f63b78 (2 ^ 32 - 1)

-- CRC-64/NVME, 0xad93d23594c93659 the other way round
abbrev pub crc64_nvme : List ℕ → ℕ
crc64_nvme = crc 0x9a6c9329ac4bc9b5 (2 ^ 64 - 1)
