-- How many bytes a checksum has.
use Rattle.std.proofs.Common.{◌≡◌, ℕ, zero, suc, ◌*◌, ◌/◌, List, [], ◌∷◌, ◌++◌, length, get_or, refl, arith, length-append}
use Rattle.std.specs.Int.{w32, w64, to_be_bytes}
use Rattle.base64.specs.GeneralPurpose.{IsBytes}
use Rattle.sha1.specs.Sha1.{digest_bytes as digest_of_words, sha1, hash_after as hash_behind, padded_message as padded}
use Rattle.sha2.specs.Sha256.{digest_bytes, sha256, final_hash, initial_hash_256}
use Rattle.checksums.specs.declared.kinds.Kind.{Kind}
use Rattle.checksums.specs.declared.kinds.Kind.TheVariants.{Sha256, Sha1, Crc32, Crc32c, Crc64Nvme}
use Rattle.checksums.specs.Crc.{crc32, crc32c, crc64_nvme}
use Rattle.checksums.specs.Kinds.{checksum_size, checksum_of}
use Rattle.checksums.proofs.ShiftLemmas.{Bytes}

pub Bytes_from : (xs : List ℕ) → IsBytes xs → Bytes xs
Bytes_from [] h = tt
Bytes_from (x ∷ xs) h = (h 0, Bytes_from xs (λ i. h (suc i)))

pub are_bytes : (xs : List ℕ) → Bytes xs → IsBytes xs
are_bytes [] h i = omega arith
are_bytes (x ∷ xs) h zero = h.0
are_bytes (x ∷ xs) h (suc i) = are_bytes xs h.1 i

Bytes_append : (xs ys : List ℕ) → Bytes xs → Bytes ys → Bytes (xs ++ ys)
Bytes_append [] ys f g = g
Bytes_append (x ∷ xs) ys f g = (f.0, Bytes_append xs ys f.1 g)

word_bytes : (n : ℕ) → Bytes (to_be_bytes w32 n)
word_bytes n = (omega arith, (omega arith, (omega arith, (omega arith, tt))))

long_bytes : (n : ℕ) → Bytes (to_be_bytes w64 n)
long_bytes n = (omega arith, (omega arith, (omega arith, (omega arith, (omega arith, (omega arith, (omega arith, (omega arith, tt))))))))

sha256_size : (h : List ℕ) (n : ℕ) → length (digest_bytes h n) ≡ 4 * n
unfolding digest_bytes
sha256_size h zero = refl
sha256_size h (suc n) = omega (arith, length-append (digest_bytes h n) (to_be_bytes w32 (get_or h n 0)), sha256_size h n)

sha256_bytes : (h : List ℕ) (n : ℕ) → Bytes (digest_bytes h n)
unfolding digest_bytes
sha256_bytes h zero = tt
sha256_bytes h (suc n) = Bytes_append (digest_bytes h n) (to_be_bytes w32 (get_or h n 0)) (sha256_bytes h n) (word_bytes (get_or h n 0))

sha1_size : (h : List ℕ) (n : ℕ) → length (digest_of_words h n) ≡ 4 * n
unfolding digest_of_words
sha1_size h zero = refl
sha1_size h (suc n) = omega (arith, length-append (digest_of_words h n) (to_be_bytes w32 (get_or h n 0)), sha1_size h n)

sha1_bytes : (h : List ℕ) (n : ℕ) → Bytes (digest_of_words h n)
unfolding digest_of_words
sha1_bytes h zero = tt
sha1_bytes h (suc n) = Bytes_append (digest_of_words h n) (to_be_bytes w32 (get_or h n 0)) (sha1_bytes h n) (word_bytes (get_or h n 0))

pub checksum_sized : (kind : Kind) (message : List ℕ) → (length (checksum_of kind message) ≡ checksum_size kind) × IsBytes (checksum_of kind message)
unfolding checksum_of sha1 sha256
checksum_sized Sha256 message =
    let h = final_hash initial_hash_256 message in (sha256_size h 8, are_bytes (digest_bytes h 8) (sha256_bytes h 8))
checksum_sized Sha1 message =
    let h = hash_behind (padded message) (length (padded message) / 64) in (sha1_size h 5, are_bytes (digest_of_words h 5) (sha1_bytes h 5))
checksum_sized Crc32 message = (refl, are_bytes (to_be_bytes w32 (crc32 message)) (word_bytes (crc32 message)))
checksum_sized Crc32c message = (refl, are_bytes (to_be_bytes w32 (crc32c message)) (word_bytes (crc32c message)))
checksum_sized Crc64Nvme message = (refl, are_bytes (to_be_bytes w64 (crc64_nvme message)) (long_bytes (crc64_nvme message)))
