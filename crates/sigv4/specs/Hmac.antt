-- The keyed-hash message authentication code. Source: RFC 2104, section 2, over SHA-256, whose block has 64 bytes.
use Rattle.std.specs.Prelude.{ℕ, ◌-◌, List, ◌++◌, length, map, replicate, bit_xor, nat_lt, if◌then◌else◌}
use Rattle.sha2.specs.Sha256.{sha256}

-- a key that is longer than a block stands for its hash
abbrev pub short_key : List ℕ → List ℕ
short_key key = if nat_lt 64 (length key) then sha256 key else key

-- the key with zeros behind it, a block in all
abbrev pub key_block : List ℕ → List ℕ
key_block key = short_key key ++ replicate (64 - length (short_key key)) 0

-- each byte of the key's block with the pad
abbrev pub padded_key : ℕ → List ℕ → List ℕ
padded_key pad key = map (λ byte. bit_xor byte pad) (key_block key)

-- H (K XOR opad, H (K XOR ipad, text))
unfoldable pub hmac : List ℕ → List ℕ → List ℕ
hmac key text = sha256 (padded_key 0x5c key ++ sha256 (padded_key 0x36 key ++ text))
