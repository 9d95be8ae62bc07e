-- A body that is printed with its signatures says what was printed.
use Rattle.std.proofs.Common.{◌≡◌, ℕ, ◌+◌, ◌-◌, ◌*◌, ◌/◌, ◌%◌, ◌≤◌, ◌<◌, zero, suc, Bool, true, false, cond, nat_lt, ◌==◌, List, [], ◌∷◌, ◌++◌, length, map, take, drop, get_or, slice_index, codes, bytes_eq, Some, refl, sym, ◌∙◌, ap, arith, length-append}
use Rattle.std.specs.Prelude.{slice_get, reverse}
use Rattle.std.specs.Int.{w32, to_be_bytes, byte_at}
use Rattle.std.specs.List.{AllByRecursion, list_all, prefix_len, suffix_len}
use Rattle.std.specs.Option.{option_map_or}
use Rattle.std.proofs.lemmas.Bool.{and_from, and_parts, ltb-true, eq-eqb}
use Rattle.std.proofs.lemmas.Bool.Decides.{nat_tests}
use Rattle.std.proofs.lemmas.List.{take_at, take_all, map-append, reverse-append}
use Rattle.std.proofs.lemmas.List.Sums.{AllPass-from_list_all}
use Rattle.hex.specs.Hex.{lower_digits, encode_with, encode_lower}
use Rattle.hex.proofs.HexLemmas.{length-encode_with}
use Rattle.sha2.specs.Sha256.{digest_bytes, final_hash, initial_hash_256, sha256}
use Rattle.sha2.proofs.Facts256.{length-sha256}
use Rattle.gate_base.specs.Ascii.{is_blank, is_lower_hex}
use Rattle.gate_base.specs.declared.page.Pair.{Pair}
use Rattle.sigv4.specs.Hmac.{hmac}
use Rattle.chunked.specs.declared.form.ChunkedForm.{ChunkedForm}
use Rattle.chunked.specs.declared.form.ChunkedForm.TheVariants.{UnsignedTrailer, Signed, SignedTrailer}
use Rattle.sigv4.specs.declared.pieces.Seal.{Seal}
use Rattle.chunked.specs.Chunked.{Chunked}
use Rattle.chunked.specs.Forms.{is_signed, most_lines}
use Rattle.chunked.specs.Print.{signature_for, signed_chunk, signed_chunks, signature_behind, signed_lines, signed_last, signed_sent, most_trailers, IsCounted, IsPiece, IsPrintable}
use Rattle.chunked.specs.Sent.{Chunk, Line, Sent, IsSignature, IsChunk, IsFull, IsLine, is_text_byte, bytes_of, pair_of, sent_text}
use Rattle.text_forms.specs.Blanks.{behind_blanks, before_blanks, without_blanks}
use Rattle.chunked.specs.Signatures.{chunk_signature, trailer_signature, has_signature_due, have_signatures_due, has_signature_line, has_trailer_signature_due, is_signature_line, trailers_in}

-- ---- a signature is 64 digits

abbrev is_byte : ℕ → Bool
is_byte b = nat_lt b 256

digit_of : (d : ℕ) → d < 16 → is_lower_hex (get_or lower_digits d 0) ≡ true
digit_of d small = AllPass-from_list_all is_lower_hex lower_digits refl d 0 small

digits_of : (bytes : List ℕ) → list_all is_byte bytes ≡ true → list_all is_lower_hex (encode_lower bytes) ≡ true
unfolding encode_with
digits_of [] h = refl
digits_of (byte ∷ bytes) h =
    let parts = and_parts (is_byte byte) (list_all is_byte bytes) h in
    let fits = ltb-true byte 256 parts.0 in
    and_from _ _ (digit_of (byte / 16) (omega arith)) (and_from _ _ (digit_of (byte % 16) (omega arith)) (digits_of bytes parts.1))

byte_is_small : (i n : ℕ) → is_byte (byte_at i n) ≡ true
byte_is_small zero n = grind (arith, nat_tests)
byte_is_small (suc i) n = grind (arith, nat_tests)

word_is_bytes : (n : ℕ) → list_all is_byte (to_be_bytes w32 n) ≡ true
word_is_bytes n = and_from _ _ (byte_is_small 3 n) (and_from _ _ (byte_is_small 2 n) (and_from _ _ (byte_is_small 1 n) (and_from _ _ (byte_is_small 0 n) refl)))

all_joined : (test : ℕ → Bool) (xs ys : List ℕ) → list_all test xs ≡ true → list_all test ys ≡ true → list_all test (xs ++ ys) ≡ true
all_joined test [] ys p q = q
all_joined test (x ∷ xs) ys p q = let parts = and_parts (test x) (list_all test xs) p in and_from (test x) (list_all test (xs ++ ys)) parts.0 (all_joined test xs ys parts.1 q)

digest_is_bytes : (h : List ℕ) (n : ℕ) → list_all is_byte (digest_bytes h n) ≡ true
unfolding digest_bytes
digest_is_bytes h zero = refl
digest_is_bytes h (suc n) = all_joined is_byte (digest_bytes h n) (to_be_bytes w32 (slice_index h n)) (digest_is_bytes h n) (word_is_bytes (slice_index h n))

hash_is_bytes : (text : List ℕ) → list_all is_byte (sha256 text) ≡ true
unfolding sha256
hash_is_bytes text = digest_is_bytes (final_hash initial_hash_256 text) 8

-- 64 digits in lower case
abbrev IsHex : List ℕ → Type 0
IsHex text = (length text ≡ 64) × (list_all is_lower_hex text ≡ true)

hash_is_hex : (text : List ℕ) → IsHex (encode_lower (sha256 text))
hash_is_hex text = (length-encode_with lower_digits (sha256 text) ∙ ap (λ n. 2 * n) (length-sha256 text), digits_of (sha256 text) (hash_is_bytes text))

chunk_signature_is : (seal : Seal) (previous bytes : List ℕ) → IsHex (chunk_signature seal previous bytes)
unfolding chunk_signature hmac
chunk_signature_is seal previous bytes = hash_is_hex _

trailer_signature_is : (seal : Seal) (previous : List ℕ) (trailers : List Pair) → IsHex (trailer_signature seal previous trailers)
unfolding trailer_signature hmac
trailer_signature_is seal previous trailers = hash_is_hex _

signature_is : (signed : Bool) (seal : Seal) (previous bytes : List ℕ) → IsSignature signed (signature_for signed seal previous bytes)
signature_is false seal previous bytes = refl
signature_is true seal previous bytes = chunk_signature_is seal previous bytes

-- ---- chunks

chunk_formed : (signed : Bool) (seal : Seal) (previous : List ℕ) (chunk : Chunk) → IsCounted chunk → IsChunk signed (signed_chunk signed seal previous chunk)
chunk_formed signed seal previous chunk c = record { filled = c.filled; short = c.short; hex = c.hex; counts = c.counts; signature = signature_is signed seal previous chunk.bytes }

chunks_formed : (signed : Bool) (seal : Seal) (previous : List ℕ) (chunks : List Chunk) → AllByRecursion IsPiece chunks → AllByRecursion (IsFull signed) (signed_chunks signed seal previous chunks)
unfolding signed_chunks
chunks_formed signed seal previous [] h = tt
chunks_formed signed seal previous (chunk ∷ chunks) h =
    (record { formed = chunk_formed signed seal previous chunk h.0.counted; filled = h.0.filled }, chunks_formed signed seal (signature_for signed seal previous chunk.bytes) chunks h.1)

same_text : (text : List ℕ) → bytes_eq text text ≡ true
same_text [] = refl
same_text (b ∷ text) = and_from (b == b) (bytes_eq text text) (eq-eqb b b refl) (same_text text)

is_due : (signed : Bool) (seal : Seal) (previous : List ℕ) (chunk : Chunk) → has_signature_due signed seal previous (signed_chunk signed seal previous chunk) ≡ true
is_due false seal previous chunk = refl
is_due true seal previous chunk = same_text (chunk_signature seal previous chunk.bytes)

are_due : (signed : Bool) (seal : Seal) (previous : List ℕ) (chunks : List Chunk) (last : Chunk)
    → have_signatures_due signed seal previous (signed_chunks signed seal previous chunks ++ signed_chunk signed seal (signature_behind signed seal previous chunks) last ∷ []) ≡ true
unfolding signed_chunks signature_behind have_signatures_due
are_due signed seal previous [] last = and_from (has_signature_due signed seal previous (signed_chunk signed seal previous last)) true (is_due signed seal previous last) refl
are_due signed seal previous (chunk ∷ chunks) last =
    let signature = signature_for signed seal previous chunk.bytes in
    and_from (has_signature_due signed seal previous (signed_chunk signed seal previous chunk))
    (have_signatures_due signed seal signature (signed_chunks signed seal signature chunks ++ signed_chunk signed seal (signature_behind signed seal signature chunks) last ∷ []))
    (is_due signed seal previous chunk) (are_due signed seal signature chunks last)

same_bytes : (signed : Bool) (seal : Seal) (previous : List ℕ) (chunks : List Chunk) → bytes_of (signed_chunks signed seal previous chunks) ≡ bytes_of chunks
unfolding signed_chunks
same_bytes signed seal previous [] = refl
same_bytes signed seal previous (chunk ∷ chunks) = ap (λ b. chunk.bytes ++ b) (same_bytes signed seal (signature_for signed seal previous chunk.bytes) chunks)

-- ---- lines

text_of_hex : (text : List ℕ) → list_all is_lower_hex text ≡ true → list_all is_text_byte text ≡ true
text_of_hex [] h = refl
text_of_hex (b ∷ text) h =
    let parts = and_parts (is_lower_hex b) (list_all is_lower_hex text) h in
    and_from (is_text_byte b) (list_all is_text_byte text) (let p = parts.0 in grind (arith, nat_tests)) (text_of_hex text parts.1)

not_blank : (b : ℕ) → is_lower_hex b ≡ true → is_blank b ≡ false
not_blank b h = grind (arith, nat_tests)

none_at_front : (text : List ℕ) → list_all is_lower_hex text ≡ true → prefix_len is_blank text ≡ 0
none_at_front [] h = refl
none_at_front (b ∷ text) h =
    ap (λ t. cond t (1 + prefix_len is_blank text) 0) (not_blank b (and_parts (is_lower_hex b) (list_all is_lower_hex text) h).0)

all_reversed : (text : List ℕ) → list_all is_lower_hex text ≡ true → list_all is_lower_hex (reverse text) ≡ true
all_reversed [] h = refl
all_reversed (b ∷ text) h =
    let parts = and_parts (is_lower_hex b) (list_all is_lower_hex text) h in
    ap (list_all is_lower_hex) (reverse-append (b ∷ []) text)
    ∙ all_joined is_lower_hex (reverse text) (b ∷ []) (all_reversed text parts.1) (and_from (is_lower_hex b) true parts.0 refl)

hex_is_bare : (text : List ℕ) → list_all is_lower_hex text ≡ true → without_blanks text ≡ text
hex_is_bare text h =
    let front : behind_blanks text ≡ text = ap (λ n. drop n text) (none_at_front text h) in
    let back : suffix_len is_blank text ≡ 0 = none_at_front (reverse text) (all_reversed text h) in
    ap before_blanks front ∙ ap (λ n. take (length text - n) text) back ∙ take_all (length text - 0) text (omega arith)

abbrev sealing : List ℕ → Line
sealing signature = record { name = codes "x-amz-trailer-signature"; text = signature; feed = [] }

sealing_line : (signature : List ℕ) → IsHex signature → IsLine (sealing signature)
sealing_line signature h = record {
  named = omega arith;
  name_short = omega arith;
  name = refl;
  text_short = omega (arith, h.0);
  text = text_of_hex signature h.1;
  feed_short = omega arith;
  feed = refl;
}

sealing_pair : (signature : List ℕ) → IsHex signature → pair_of (sealing signature) ≡ record { name = codes "x-amz-trailer-signature"; value = signature }
sealing_pair signature h = ap (λ (v : List ℕ). let p : Pair = record { name = codes "x-amz-trailer-signature"; value = v } in p) (hex_is_bare signature h.1)

all_lines : (lines : List Line) (line : Line) → AllByRecursion IsLine lines → IsLine line → AllByRecursion IsLine (lines ++ line ∷ [])
all_lines [] line each one = (one, tt)
all_lines (l ∷ lines) line each one = (each.0, all_lines lines line each.1 one)

got_at : (pairs : List Pair) (pair : Pair) → slice_get (pairs ++ pair ∷ []) (length pairs) ≡ Some pair
got_at [] pair = refl
got_at (p ∷ pairs) pair = got_at pairs pair

last_place : (pairs : List Pair) (pair : Pair) → length (pairs ++ pair ∷ []) - 1 ≡ length pairs
last_place pairs pair = omega (arith, length-append pairs (pair ∷ []))

last_got : (pairs : List Pair) (pair : Pair) → slice_get (pairs ++ pair ∷ []) (length (pairs ++ pair ∷ []) - 1) ≡ Some pair
last_got pairs pair = ap (slice_get (pairs ++ pair ∷ [])) (last_place pairs pair) ∙ got_at pairs pair

front_taken : (pairs : List Pair) (pair : Pair) → take (length (pairs ++ pair ∷ []) - 1) (pairs ++ pair ∷ []) ≡ pairs
front_taken pairs pair = take_at pairs (pair ∷ []) (length (pairs ++ pair ∷ []) - 1) (omega (arith, length-append pairs (pair ∷ [])))

-- the lines of each form
record Told (form : ChunkedForm) (seal : Seal) (previous : List ℕ) (lines : List Line) : Type 0 where
  each : AllByRecursion IsLine (signed_lines form seal previous lines)
  few : length (signed_lines form seal previous lines) ≤ most_lines form
  sealed : has_signature_line form (map pair_of (signed_lines form seal previous lines)) ≡ true
  due : has_trailer_signature_due form seal previous (map pair_of (signed_lines form seal previous lines)) ≡ true
  trails : map pair_of lines ≡ trailers_in form (map pair_of (signed_lines form seal previous lines))

told : (form : ChunkedForm) (seal : Seal) (previous : List ℕ) (lines : List Line) → AllByRecursion IsLine lines → length lines ≤ most_trailers form → Told form seal previous lines
told UnsignedTrailer seal previous lines each few = record { each = each; few = few; sealed = refl; due = refl; trails = refl }
told Signed seal previous lines each few = record { each = each; few = few; sealed = refl; due = refl; trails = refl }
told SignedTrailer seal previous lines each few =
    let pairs = map pair_of lines in
    let signature = trailer_signature seal previous pairs in
    let hex = trailer_signature_is seal previous pairs in
    let pair : Pair = record { name = codes "x-amz-trailer-signature"; value = signature } in
    let at : map pair_of (lines ++ sealing signature ∷ []) ≡ pairs ++ pair ∷ [] =
    map-append pair_of lines (sealing signature ∷ []) ∙ ap (λ (q : Pair). pairs ++ q ∷ []) (sealing_pair signature hex) in
    let all = pairs ++ pair ∷ [] in
    record {
      each = all_lines lines (sealing signature) each (sealing_line signature hex);
      few = omega (arith, length-append lines (sealing signature ∷ []), few);
      sealed = ap (has_signature_line SignedTrailer) at ∙ ap (λ o. option_map_or is_signature_line o false) (last_got pairs pair);
      due = ap (has_trailer_signature_due SignedTrailer seal previous) at
          ∙ ap (λ o. option_map_or (λ (line : Pair). bytes_eq line.value (trailer_signature seal previous (take (length all - 1) all))) o false) (last_got pairs pair)
          ∙ ap (λ ts. bytes_eq signature (trailer_signature seal previous ts)) (front_taken pairs pair) ∙ same_text signature;
      trails = sym (front_taken pairs pair) ∙ ap (λ (q : List Pair). take (length q - 1) q) (sym at);
    }

-- ---- a body

pub printed_says : (form : ChunkedForm) (seal : Seal) (sent : Sent) → IsPrintable form sent
    → Chunked form seal (sent_text form (signed_sent form seal sent)) (bytes_of sent.chunks) (map pair_of sent.lines)
printed_says form seal sent h =
    let signed = is_signed form in
    let last = signed_last form seal sent in
    let t = told form seal last.signature sent.lines h.lines h.few in
    record {
      sent = signed_sent form seal sent;
      formed = record {
        chunks = chunks_formed signed seal seal.signature sent.chunks h.chunks;
        last = record { formed = chunk_formed signed seal (signature_behind signed seal seal.signature sent.chunks) sent.last h.last; empty = h.empty };
        lines = t.each;
        few = t.few;
      };
      at = refl;
      signed = are_due signed seal seal.signature sent.chunks sent.last;
      sealed = t.sealed;
      due = t.due;
      joined = sym (same_bytes signed seal seal.signature sent.chunks);
      trails = t.trails;
    }
