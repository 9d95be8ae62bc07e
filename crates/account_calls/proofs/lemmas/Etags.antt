-- The ETag of a body is one that a tag and a list of segments can have, and the one that a store gives of the body.
use Rattle.std.proofs.Common.{◌≡◌, ℕ, zero, suc, ◌<◌, ◌*◌, ◌/◌, ◌%◌, ◌==◌, Bool, true, List, [], ◌∷◌, length, get_or, nat_lt, refl, ap, ◌∙◌, arith}
use Rattle.std.specs.Int.{w32, to_le_bytes, bytes_low_first, byte_at}
use Rattle.std.specs.List.{list_all}
use Rattle.std.proofs.lemmas.Bool.{and_from, and_parts, ltb-true}
use Rattle.std.proofs.lemmas.Bool.Decides.{nat_tests}
use Rattle.std.specs.Prelude.{slice_index, bytes_eq}
use Rattle.std.proofs.lemmas.Slice.Eq.{bytes_eq-Decides}
use Rattle.std.proofs.lemmas.List.{length-append}
use Rattle.std.proofs.lemmas.List.Folds.{list_all-append}
use Rattle.std.proofs.lemmas.List.Sums.{AllPass-from_list_all}
use Rattle.md5.proofs.StandardFacts.{length-md5}
use Rattle.md5.specs.Md5.{md5, digest_bytes, hash_after, padded_message}
use Rattle.hex.specs.Hex.{lower_digits, encode_with, encode_lower}
use Rattle.hex.proofs.HexLemmas.{length-encode_with}
use Rattle.s3_machine.specs.ETag.{body_etag}
use Rattle.slo_manifest.specs.Segments as slo
use Rattle.swift_calls.specs.Bodies.{etag_text}
use Rattle.gate_base.specs.Ascii.{is_lower_hex}
use Rattle.swift_marks.specs.Tag.{is_etag}
use Rattle.swift_marks.proofs.lemmas.FieldLaws.{etag_of_one}

abbrev is_byte : ℕ → Bool
is_byte b = nat_lt b 256

digit_of : (d : ℕ) → d < 16 → is_lower_hex (get_or lower_digits d 0) ≡ true
digit_of d small = AllPass-from_list_all is_lower_hex lower_digits refl d 0 small

digits_of : (bytes : List ℕ) → list_all is_byte bytes ≡ true → list_all is_lower_hex (encode_lower bytes) ≡ true
unfolding encode_with
digits_of [] h = refl
digits_of (byte ∷ bytes) h =
    let parts = and_parts (is_byte byte) (list_all is_byte bytes) h in
    let fits = ltb-true byte 256 parts.0 in
    and_from _ _ (digit_of (byte / 16) (omega arith)) (and_from _ _ (digit_of (byte % 16) (omega arith)) (digits_of bytes parts.1))

byte_is_small : (i n : ℕ) → is_byte (byte_at i n) ≡ true
byte_is_small zero n = grind (arith, nat_tests)
byte_is_small (suc i) n = grind (arith, nat_tests)

low_first : (i k n : ℕ) → list_all is_byte (bytes_low_first i k n) ≡ true
low_first i zero n = refl
low_first i (suc k) n = and_from _ _ (byte_is_small i n) (low_first (suc i) k n)

low_length : (i k n : ℕ) → length (bytes_low_first i k n) ≡ k
low_length i zero n = refl
low_length i (suc k) n = ap suc (low_length (suc i) k n)

digest_is_bytes : (h : List ℕ) (n : ℕ) → list_all is_byte (digest_bytes h n) ≡ true
unfolding digest_bytes
digest_is_bytes h zero = refl
digest_is_bytes h (suc n) = list_all-append is_byte (digest_bytes h n) (to_le_bytes w32 (slice_index h n)) ∙ and_from _ _ (digest_is_bytes h n) (low_first 0 4 (slice_index h n))

digest_length : (h : List ℕ) (n : ℕ) → length (digest_bytes h n) ≡ n * 4
unfolding digest_bytes
digest_length h zero = refl
digest_length h (suc n) = length-append (digest_bytes h n) (to_le_bytes w32 (slice_index h n)) ∙ (let a = digest_length h n in let b = low_length 0 4 (slice_index h n) in omega (arith, a, b))

pub etag_is_etag : (body : List ℕ) → is_etag (body_etag body) ≡ true
unfolding body_etag md5
etag_is_etag body =
    let h = hash_after (padded_message body) (length (padded_message body) / 64) in
    etag_of_one (encode_lower (digest_bytes h 4)) (length-encode_with lower_digits (digest_bytes h 4) ∙ ap (λ n. 2 * n) (digest_length h 4)) (digits_of (digest_bytes h 4) (digest_is_bytes h 4))

same_etag : (body : List ℕ) → etag_text body ≡ body_etag body
unfolding etag_text body_etag
same_etag body = refl

pub etag_agrees : (body : List ℕ) → bytes_eq (etag_text body) (body_etag body) ≡ true
etag_agrees body = (bytes_eq-Decides (etag_text body) (body_etag body)).1 (same_etag body)

-- ---- the same for the list of a file's segments

pub etag_length : (body : List ℕ) → length (body_etag body) ≡ 32
unfolding body_etag
etag_length body = length-encode_with lower_digits (md5 body) ∙ ap (λ n. 2 * n) (length-md5 body)

pub etag_digits : (body : List ℕ) → list_all is_lower_hex (body_etag body) ≡ true
unfolding body_etag md5
etag_digits body =
    let h = hash_after (padded_message body) (length (padded_message body) / 64) in
    digits_of (digest_bytes h 4) (digest_is_bytes h 4)

pub part_etag : (body : List ℕ) → slo.is_etag (body_etag body) ≡ true
unfolding slo.is_etag
part_etag body = and_from _ _ (ap (λ n. n == 32) (etag_length body)) (etag_digits body)
