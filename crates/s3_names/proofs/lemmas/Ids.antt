-- Ids and their digits.
use Rattle.std.proofs.Common.{◌≡◌, ℕ, zero, suc, ◌<◌, ◌+◌, ◌*◌, ◌/◌, ◌%◌, ◌^◌, true, List, [], ◌∷◌, length, get_or, refl, ap, ◌∙◌, arith}
use Rattle.std.specs.Prelude.{Some}
use Rattle.std.specs.Int.{w128, to_be_bytes, from_be_bytes, bytes_high_first, byte_at}
use Rattle.std.specs.List.{list_all}
use Rattle.std.proofs.lemmas.Bool.{and_from}
use Rattle.std.proofs.lemmas.List.Sums.{AllPass-from_list_all}
use Rattle.hex.specs.Hex.{lower_digits, encode_with, encode_lower, IsBytes}
use Rattle.hex.proofs.HexLemmas.{length-encode_with, decode_sized-encode_lower}
use Rattle.gate_base.specs.Ascii.{is_lower_hex}
use Rattle.s3_names.specs.Id.{id_digits, id_from, id_of}
use Rattle.s3_names.specs.Laws.{IdReadsBack}

bytes_sum : (q0 q1 q2 q3 q4 q5 q6 q7 q8 q9 q10 q11 q12 q13 q14 q15 r0 r1 r2 r3 r4 r5 r6 r7 r8 r9 r10 r11 r12 r13 r14 r15 : ℕ)
    → q0 ≡ q1 * 256 + r0
    → q1 ≡ q2 * 256 + r1
    → q2 ≡ q3 * 256 + r2
    → q3 ≡ q4 * 256 + r3
    → q4 ≡ q5 * 256 + r4
    → q5 ≡ q6 * 256 + r5
    → q6 ≡ q7 * 256 + r6
    → q7 ≡ q8 * 256 + r7
    → q8 ≡ q9 * 256 + r8
    → q9 ≡ q10 * 256 + r9
    → q10 ≡ q11 * 256 + r10
    → q11 ≡ q12 * 256 + r11
    → q12 ≡ q13 * 256 + r12
    → q13 ≡ q14 * 256 + r13
    → q14 ≡ q15 * 256 + r14
    → r15 ≡ q15
    → r15 * 256 ^ 15 + r14 * 256 ^ 14 + r13 * 256 ^ 13 + r12 * 256 ^ 12 + r11 * 256 ^ 11 + r10 * 256 ^ 10 + r9 * 256 ^ 9 + r8 * 256 ^ 8 + r7 * 256 ^ 7 + r6 * 256 ^ 6 + r5 * 256 ^ 5 + r4 * 256 ^ 4 + r3 * 256 ^ 3 + r2 * 256 ^ 2 + r1 * 256 ^ 1 + r0 ≡ q0
bytes_sum q0 q1 q2 q3 q4 q5 q6 q7 q8 q9 q10 q11 q12 q13 q14 q15 r0 r1 r2 r3 r4 r5 r6 r7 r8 r9 r10 r11 r12 r13 r14 r15 h0 h1 h2 h3 h4 h5 h6 h7 h8 h9 h10 h11 h12 h13 h14 h15 = omega arith

-- a number of 128 bits is read back from its bytes, each of which a division by 256 leaves
pub bytes_read_back : (n : ℕ) → n < 2 ^ 128 → from_be_bytes w128 (to_be_bytes w128 n) ≡ n
bytes_read_back n fits =
    let s0 : n ≡ n / 256 * 256 + n % 256 = omega arith in
    let s1 : n / 256 ≡ n / 65536 * 256 + n / 256 % 256 = omega arith in
    let s2 : n / 65536 ≡ n / 16777216 * 256 + n / 65536 % 256 = omega arith in
    let s3 : n / 16777216 ≡ n / 4294967296 * 256 + n / 16777216 % 256 = omega arith in
    let s4 : n / 4294967296 ≡ n / 1099511627776 * 256 + n / 4294967296 % 256 = omega arith in
    let s5 : n / 1099511627776 ≡ n / 281474976710656 * 256 + n / 1099511627776 % 256 = omega arith in
    let s6 : n / 281474976710656 ≡ n / 72057594037927936 * 256 + n / 281474976710656 % 256 = omega arith in
    let s7 : n / 72057594037927936 ≡ n / 18446744073709551616 * 256 + n / 72057594037927936 % 256 = omega arith in
    let s8 : n / 18446744073709551616 ≡ n / 4722366482869645213696 * 256 + n / 18446744073709551616 % 256 = omega arith in
    let s9 : n / 4722366482869645213696 ≡ n / 1208925819614629174706176 * 256 + n / 4722366482869645213696 % 256 = omega arith in
    let s10 : n / 1208925819614629174706176 ≡ n / 309485009821345068724781056 * 256 + n / 1208925819614629174706176 % 256 = omega arith in
    let s11 : n / 309485009821345068724781056 ≡ n / 79228162514264337593543950336 * 256 + n / 309485009821345068724781056 % 256 = omega arith in
    let s12 : n / 79228162514264337593543950336 ≡ n / 20282409603651670423947251286016 * 256 + n / 79228162514264337593543950336 % 256 = omega arith in
    let s13 : n / 20282409603651670423947251286016 ≡ n / 5192296858534827628530496329220096 * 256 + n / 20282409603651670423947251286016 % 256 = omega arith in
    let s14 : n / 5192296858534827628530496329220096 ≡ n / 1329227995784915872903807060280344576 * 256 + n / 5192296858534827628530496329220096 % 256 = omega arith in
    let top : n / 1329227995784915872903807060280344576 % 256 ≡ n / 1329227995784915872903807060280344576 = omega arith in
    bytes_sum n (n / 256) (n / 65536) (n / 16777216) (n / 4294967296) (n / 1099511627776) (n / 281474976710656) (n / 72057594037927936) (n / 18446744073709551616) (n / 4722366482869645213696) (n / 1208925819614629174706176) (n / 309485009821345068724781056) (n / 79228162514264337593543950336) (n / 20282409603651670423947251286016) (n / 5192296858534827628530496329220096) (n / 1329227995784915872903807060280344576)
    (n % 256) (n / 256 % 256) (n / 65536 % 256) (n / 16777216 % 256) (n / 4294967296 % 256) (n / 1099511627776 % 256) (n / 281474976710656 % 256) (n / 72057594037927936 % 256) (n / 18446744073709551616 % 256) (n / 4722366482869645213696 % 256) (n / 1208925819614629174706176 % 256) (n / 309485009821345068724781056 % 256) (n / 79228162514264337593543950336 % 256) (n / 20282409603651670423947251286016 % 256) (n / 5192296858534827628530496329220096 % 256) (n / 1329227995784915872903807060280344576 % 256)
    s0 s1 s2 s3 s4 s5 s6 s7 s8 s9 s10 s11 s12 s13 s14 top

byte_is_small : (k n : ℕ) → byte_at k n < 256
byte_is_small zero n = omega arith
byte_is_small (suc k) n = omega arith

-- each byte of a number is one
bytes_of : (k n : ℕ) → IsBytes (bytes_high_first k n)
bytes_of zero n i = omega arith
bytes_of (suc k) n zero = byte_is_small k n
bytes_of (suc k) n (suc i) = bytes_of k n i

digit_of : (d : ℕ) → d < 16 → is_lower_hex (get_or lower_digits d 0) ≡ true
digit_of d small = AllPass-from_list_all is_lower_hex lower_digits refl d 0 small

digits_of : (bytes : List ℕ) → IsBytes bytes → list_all is_lower_hex (encode_lower bytes) ≡ true
unfolding encode_with
digits_of [] h = refl
digits_of (byte ∷ bytes) h =
    let fits : byte < 256 = h 0 in
    and_from _ _ (digit_of (byte / 16) (omega arith)) (and_from _ _ (digit_of (byte % 16) (omega arith)) (digits_of bytes (λ i. h (suc i))))

pub id_has_digits : (id : ℕ) → list_all is_lower_hex (id_digits id) ≡ true
unfolding id_digits
id_has_digits id = digits_of (to_be_bytes w128 id) (bytes_of 16 id)

-- an id is read back from its digits
pub id_reads_back : IdReadsBack
unfolding id_of id_digits
id_reads_back id small = ap id_from (decode_sized-encode_lower (to_be_bytes w128 id) 16 refl (bytes_of 16 id)) ∙ ap (λ n. Some n) (bytes_read_back id small)

pub length-id_digits : (id : ℕ) → length (id_digits id) ≡ 32
unfolding id_digits
length-id_digits id = length-encode_with lower_digits (to_be_bytes w128 id)
