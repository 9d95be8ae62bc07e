-- An ETag is 32 hexadecimal digits.
use Rattle.std.proofs.Common.{◌≡◌, ℕ, zero, suc, ◌<◌, ◌*◌, ◌/◌, ◌%◌, Bool, true, ◌&&◌, List, [], ◌∷◌, length, get_or, nat_lt, refl, ap, ◌∙◌, arith}
use Rattle.std.specs.Int.{w32, to_le_bytes, bytes_low_first, byte_at}
use Rattle.std.specs.List.{list_all}
use Rattle.std.specs.Prelude.{slice_index}
use Rattle.std.specs.Str.{is_utf8}
use Rattle.std.proofs.lemmas.Bool.{and_from, and_parts, ltb-true}
use Rattle.std.proofs.lemmas.Bool.Decides.{nat_tests}
use Rattle.std.proofs.lemmas.List.Elements.{All-weaker}
use Rattle.std.proofs.lemmas.List.Folds.{list_all-append}
use Rattle.std.proofs.lemmas.List.Sums.{AllPass-from_list_all, list_all-from_AllPass}
use Rattle.std.proofs.lemmas.Str.{IsUtf8-from_ascii, is_utf8-from_IsUtf8}
use Rattle.std.proofs.lemmas.Str.Ascii.{IsAscii-from_all}
use Rattle.md5.specs.Md5.{md5, digest_bytes}
use Rattle.md5.proofs.StandardFacts.{length-md5}
use Rattle.hex.specs.Hex.{lower_digits, encode_with, encode_lower}
use Rattle.hex.proofs.HexLemmas.{length-encode_with}
use Rattle.swift_calls.specs.Bodies.{etag_text}
use Rattle.swift_replies.specs.Fields.{is_reply_etag_byte}
use Rattle.swift_replies.specs.AnswerText.{is_tag}

-- ---- the bytes of a hash

abbrev is_byte : ℕ → Bool
is_byte b = nat_lt b 256

byte_is_small : (i n : ℕ) → is_byte (byte_at i n) ≡ true
byte_is_small zero n = grind (arith, nat_tests)
byte_is_small (suc i) n = grind (arith, nat_tests)

low_first : (i k n : ℕ) → list_all is_byte (bytes_low_first i k n) ≡ true
low_first i zero n = refl
low_first i (suc k) n = and_from _ _ (byte_is_small i n) (low_first (suc i) k n)

digest_is_bytes : (h : List ℕ) (n : ℕ) → list_all is_byte (digest_bytes h n) ≡ true
unfolding digest_bytes
digest_is_bytes h zero = refl
digest_is_bytes h (suc n) = list_all-append is_byte (digest_bytes h n) (to_le_bytes w32 (slice_index h n)) ∙ and_from _ _ (digest_is_bytes h n) (low_first 0 4 (slice_index h n))

hash_is_bytes : (text : List ℕ) → list_all is_byte (md5 text) ≡ true
unfolding md5
hash_is_bytes text = digest_is_bytes _ 4

-- ---- their digits

abbrev is_ascii_tag : ℕ → Bool
is_ascii_tag b = is_reply_etag_byte b && nat_lt b 128

digit_of : (d : ℕ) → d < 16 → is_ascii_tag (get_or lower_digits d 0) ≡ true
digit_of d small = AllPass-from_list_all is_ascii_tag lower_digits refl d 0 small

digits_of : (bytes : List ℕ) → list_all is_byte bytes ≡ true → list_all is_ascii_tag (encode_lower bytes) ≡ true
unfolding encode_with
digits_of [] h = refl
digits_of (byte ∷ bytes) h =
    let parts = and_parts (is_byte byte) (list_all is_byte bytes) h in
    let fits = ltb-true byte 256 parts.0 in
    and_from _ _ (digit_of (byte / 16) (omega arith)) (and_from _ _ (digit_of (byte % 16) (omega arith)) (digits_of bytes parts.1))

etag_digits : (text : List ℕ) → list_all is_ascii_tag (etag_text text) ≡ true
unfolding etag_text
etag_digits text = digits_of (md5 text) (hash_is_bytes text)

pub etag_length : (text : List ℕ) → length (etag_text text) ≡ 32
unfolding etag_text
etag_length text = length-encode_with lower_digits (md5 text) ∙ ap (λ n. 2 * n) (length-md5 text)

pub etag_tag : (text : List ℕ) → is_tag (etag_text text) ≡ true
etag_tag text =
    list_all-from_AllPass is_reply_etag_byte (etag_text text)
    (All-weaker (λ b. is_ascii_tag b ≡ true) (λ b. is_reply_etag_byte b ≡ true) (λ b both. (and_parts (is_reply_etag_byte b) (nat_lt b 128) both).0) (etag_text text)
    (AllPass-from_list_all is_ascii_tag (etag_text text) (etag_digits text)))

pub etag_utf8 : (text : List ℕ) → is_utf8 (etag_text text) ≡ true
etag_utf8 text =
    is_utf8-from_IsUtf8 (etag_text text)
    (IsUtf8-from_ascii (etag_text text)
    (IsAscii-from_all (etag_text text)
    (All-weaker (λ b. is_ascii_tag b ≡ true) (λ b. b < 128) (λ b both. ltb-true b 128 (and_parts (is_reply_etag_byte b) (nat_lt b 128) both).1) (etag_text text)
    (AllPass-from_list_all is_ascii_tag (etag_text text) (etag_digits text)))))
