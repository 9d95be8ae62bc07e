-- The forms of a signature and of the names that are signed.
use Rattle.std.proofs.Common.{◌≡◌, ℕ, zero, suc, ◌*◌, ◌/◌, ◌%◌, ◌<◌, Bool, true, nat_lt, nat_eq, List, [], ◌∷◌, length, get_or, codes, refl, ap, ◌∙◌, arith, slice_index}
use Rattle.std.specs.Int.{w32, to_be_bytes, byte_at}
use Rattle.std.specs.List.{list_all}
use Rattle.std.proofs.lemmas.Bool.{and_from, and_parts, ltb-true}
use Rattle.std.proofs.lemmas.Bool.Decides.{nat_tests}
use Rattle.std.proofs.lemmas.List.Sums.{AllPass-from_list_all}
use Rattle.hex.specs.Hex.{lower_digits, encode_with, encode_lower}
use Rattle.hex.proofs.HexLemmas.{length-encode_with}
use Rattle.sha2.specs.Sha256.{digest_bytes, final_hash, initial_hash_256, sha256}
use Rattle.sha2.proofs.Facts256.{length-sha256}
use Rattle.httparse.specs.Grammar.{is_token_byte}
use Rattle.gate_base.specs.Ascii.{is_lower_hex}
use Rattle.sigv4.specs.Authorization.{are_ascending, are_names, is_hex}
use Rattle.sigv4.specs.Hmac.{hmac}
use Rattle.sigv4.specs.Sign.{signed_of}
use Rattle.sigv4.proofs.CutLemmas.{all_joined}

abbrev is_byte : ℕ → Bool
is_byte b = nat_lt b 256

digit_of : (d : ℕ) → d < 16 → is_lower_hex (get_or lower_digits d 0) ≡ true
digit_of d small = AllPass-from_list_all is_lower_hex lower_digits refl d 0 small

digits_of : (bytes : List ℕ) → list_all is_byte bytes ≡ true → list_all is_lower_hex (encode_lower bytes) ≡ true
unfolding encode_with
digits_of [] h = refl
digits_of (byte ∷ bytes) h =
    let parts = and_parts (is_byte byte) (list_all is_byte bytes) h in
    let fits = ltb-true byte 256 parts.0 in
    and_from _ _ (digit_of (byte / 16) (omega arith)) (and_from _ _ (digit_of (byte % 16) (omega arith)) (digits_of bytes parts.1))

byte_is_small : (i n : ℕ) → is_byte (byte_at i n) ≡ true
byte_is_small zero n = grind (arith, nat_tests)
byte_is_small (suc i) n = grind (arith, nat_tests)

word_is_bytes : (n : ℕ) → list_all is_byte (to_be_bytes w32 n) ≡ true
word_is_bytes n = and_from _ _ (byte_is_small 3 n) (and_from _ _ (byte_is_small 2 n) (and_from _ _ (byte_is_small 1 n) (and_from _ _ (byte_is_small 0 n) refl)))

digest_is_bytes : (h : List ℕ) (n : ℕ) → list_all is_byte (digest_bytes h n) ≡ true
unfolding digest_bytes
digest_is_bytes h zero = refl
digest_is_bytes h (suc n) = all_joined is_byte (digest_bytes h n) (to_be_bytes w32 (slice_index h n)) (digest_is_bytes h n) (word_is_bytes (slice_index h n))

hash_is_bytes : (text : List ℕ) → list_all is_byte (sha256 text) ≡ true
unfolding sha256
hash_is_bytes text = digest_is_bytes (final_hash initial_hash_256 text) 8

hash_is_hex : (text : List ℕ) → is_hex (encode_lower (sha256 text)) ≡ true
hash_is_hex text =
    let long : length (encode_lower (sha256 text)) ≡ 64 = length-encode_with lower_digits (sha256 text) ∙ ap (λ n. 2 * n) (length-sha256 text) in
    and_from (nat_eq (length (encode_lower (sha256 text))) 64) _ (ap (λ n. nat_eq n 64) long) (digits_of (sha256 text) (hash_is_bytes text))

-- a signature is written in 64 digits
pub signature_is_hex : (secret time region text : List ℕ) → is_hex (encode_lower (signed_of secret time region text).signature) ≡ true
unfolding signed_of hmac
signature_is_hex secret time region text = hash_is_hex _

-- `host` alone is one or more names
pub host_is_names : are_names (codes "host" ∷ []) ≡ true
unfolding are_ascending is_token_byte
host_is_names = refl
