-- Published values of the three CRCs, which the prover computes from the definitions, so that a wrong polynomial or step there
-- isn't proved.
use Rattle.std.proofs.Common.{◌≡◌, ℕ, zero, suc, List, [], ◌∷◌, codes, replicate, refl}
use Rattle.checksums.specs.Crc.{low_bits, message_bits, crc_bits, crc, crc32, crc32c, crc64_nvme}

-- ---- the check value of each, of `123456789`

crc32_check : crc32 (codes "123456789") ≡ 0xcbf43926
unfolding low_bits message_bits crc_bits crc
crc32_check = refl

crc32c_check : crc32c (codes "123456789") ≡ 0xe3069283
unfolding low_bits message_bits crc_bits crc
crc32c_check = refl

crc64_nvme_check : crc64_nvme (codes "123456789") ≡ 0xae8b14860a799888
unfolding low_bits message_bits crc_bits crc
crc64_nvme_check = refl

-- ---- CRC-32 by zlib

crc32_of_a : crc32 (codes "a") ≡ 0xe8b7be43
unfolding low_bits message_bits crc_bits crc
crc32_of_a = refl

crc32_of_fox : crc32 (codes "The quick brown fox jumps over the lazy dog") ≡ 0x414fa339
unfolding low_bits message_bits crc_bits crc
crc32_of_fox = refl

-- ---- RFC 3720, appendix B.4: 32 bytes that are zero, that are ones, and that count up and down

up : ℕ → ℕ → List ℕ
up first zero = []
up first (suc count) = first ∷ up (suc first) count

down : ℕ → List ℕ
down zero = []
down (suc count) = count ∷ down count

crc32c_of_zeros : crc32c (replicate 32 0) ≡ 0x8a9136aa
unfolding low_bits message_bits crc_bits crc
crc32c_of_zeros = refl

crc32c_of_ones : crc32c (replicate 32 255) ≡ 0x62a8ab43
unfolding low_bits message_bits crc_bits crc
crc32c_of_ones = refl

crc32c_of_up : crc32c (up 0 32) ≡ 0x46dd794e
unfolding low_bits message_bits crc_bits crc up
crc32c_of_up = refl

crc32c_of_down : crc32c (down 32) ≡ 0x113fdb5c
unfolding low_bits message_bits crc_bits crc down
crc32c_of_down = refl

-- ---- CRC-64/NVME by long division of polynomials

crc64_nvme_of_a : crc64_nvme (codes "a") ≡ 0x8c2f8445b4cbfc3c
unfolding low_bits message_bits crc_bits crc
crc64_nvme_of_a = refl

crc64_nvme_of_fox : crc64_nvme (codes "The quick brown fox jumps over the lazy dog") ≡ 0xd76c54054954c143
unfolding low_bits message_bits crc_bits crc
crc64_nvme_of_fox = refl
