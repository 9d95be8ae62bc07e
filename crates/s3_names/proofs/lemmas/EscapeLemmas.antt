-- Escaping and reading escapes.
use Rattle.std.proofs.Common.{◌≡◌, ℕ, ◌+◌, ◌*◌, ◌/◌, ◌%◌, ◌<◌, Bool, true, false, not, ◌&&◌, ◌||◌, cond, eqb, List, [], ◌∷◌, ◌++◌, All, Ok, Err, ◌↔◌, refl, ap, sym, subst, ◌∙◌, inl, inr, arith}
use Rattle.std.specs.Char.{digit_value}
use Rattle.std.specs.List.{flat_map, list_all}
use Rattle.std.proofs.lemmas.Bool.{agree_below_at, cases_Bool, and_from, and_parts, or_left, or_right, or_parts, eqb-true, eqb-false, false≢true, not-false}
use Rattle.std.proofs.lemmas.Bool.Decides.{nat_tests}
use Rattle.std.proofs.lemmas.Grind.{flat_map-append}
use Rattle.std.proofs.lemmas.List.Folds.{list_all-append}
use Rattle.std.proofs.lemmas.List.Elements.{All-head, All-tail}
use Rattle.percent_encoding.specs.declared.ascii_set.AsciiSet.{AsciiSet}
use Rattle.percent_encoding.specs.AsciiSet.{should_percent_encode}
use Rattle.percent_encoding.specs.Percent.{percent_encode, percent_decode, percent_encode_byte}
use Rattle.percent_encoding.proofs.PercentLemmas.{IsByte, round_trip, percent_encode-nil, percent_encode_escaped, percent_encode_kept, percent_decode_not_percent, percent_decode_escape}
use Rattle.s3_names.specs.declared.escapes.TheConstants.{ESCAPED_IN_ALL, ESCAPED_IN_PATH}
use Rattle.s3_names.specs.declared.fault.NameFault.TheVariants.{BadEscape}
use Rattle.s3_names.specs.Escapes.{is_hex_digit, is_unreserved, stays_in_path, upper_digit, escaped_unless, is_escaped_byte, escaped_all, escaped_path, StandsFor, nothing, itself, escape, begins_with_two_digits, has_bad_escape, decoded}

-- ---- escaping

all_escapes : (byte : ℕ) → byte < 256 → should_percent_encode ESCAPED_IN_ALL byte ≡ not (is_unreserved byte)
unfolding should_percent_encode
all_escapes byte small = agree_below_at (λ b. should_percent_encode ESCAPED_IN_ALL b) (λ b. not (is_unreserved b)) 256 byte refl small

path_escapes : (byte : ℕ) → byte < 256 → should_percent_encode ESCAPED_IN_PATH byte ≡ not (stays_in_path byte)
unfolding should_percent_encode
path_escapes byte small = agree_below_at (λ b. should_percent_encode ESCAPED_IN_PATH b) (λ b. not (stays_in_path b)) 256 byte refl small

escape_digits : (byte : ℕ) → byte < 256 → percent_encode_byte byte ≡ 37 ∷ upper_digit (byte / 16) ∷ upper_digit (byte % 16) ∷ []
unfolding percent_encode_byte
escape_digits byte small =
    let high : byte / 16 % 16 ≡ byte / 16 = omega arith in
    ap (λ d. 37 ∷ upper_digit d ∷ upper_digit (byte % 16) ∷ []) high

-- the kit's escaping by a set is escaping each byte that the set has or that isn't ASCII
encoded_is : (set : AsciiSet) (stays : ℕ → Bool) → ((byte : ℕ) → byte < 256 → should_percent_encode set byte ≡ not (stays byte)) → (bytes : List ℕ) → All IsByte bytes → percent_encode set bytes ≡ flat_map (escaped_unless stays) bytes
encoded_is set stays agrees [] small = percent_encode-nil set
encoded_is set stays agrees (byte ∷ bytes) small =
    let here = All-head IsByte byte bytes small in
    let rest = encoded_is set stays agrees bytes (All-tail IsByte byte bytes small) in
    by_test (stays byte) (agrees byte here) here rest
  where
    by_test : (b : Bool) → should_percent_encode set byte ≡ not b → byte < 256 → percent_encode set bytes ≡ flat_map (escaped_unless stays) bytes → percent_encode set (byte ∷ bytes) ≡ cond b (byte ∷ []) (37 ∷ upper_digit (byte / 16) ∷ upper_digit (byte % 16) ∷ []) ++ flat_map (escaped_unless stays) bytes
    by_test true e here rest = percent_encode_kept set byte bytes e ∙ ap (λ x. byte ∷ x) rest
    by_test false e here rest = percent_encode_escaped set byte bytes e ∙ rw (escape_digits byte here, rest)

pub encoded_is_all : (bytes : List ℕ) → All IsByte bytes → percent_encode ESCAPED_IN_ALL bytes ≡ escaped_all bytes
unfolding escaped_all
encoded_is_all bytes small = encoded_is ESCAPED_IN_ALL is_unreserved all_escapes bytes small

pub encoded_is_path : (bytes : List ℕ) → All IsByte bytes → percent_encode ESCAPED_IN_PATH bytes ≡ escaped_path bytes
unfolding escaped_path
encoded_is_path bytes small = encoded_is ESCAPED_IN_PATH stays_in_path path_escapes bytes small

-- two texts are escaped one after the other
pub escaped_all-append : (first second : List ℕ) → escaped_all (first ++ second) ≡ escaped_all first ++ escaped_all second
unfolding escaped_all
escaped_all-append first second = flat_map-append (escaped_unless is_unreserved) first second

pub escaped_path-append : (first second : List ℕ) → escaped_path (first ++ second) ≡ escaped_path first ++ escaped_path second
unfolding escaped_path
escaped_path-append first second = flat_map-append (escaped_unless stays_in_path) first second

-- ---- the bytes of an escaped text

upper_digit_is_unreserved : (d : ℕ) → d < 16 → is_unreserved (upper_digit d) ≡ true
upper_digit_is_unreserved d small = grind (arith, nat_tests)

escaped_bytes : (stays : ℕ → Bool) → ((d : ℕ) → d < 16 → stays (upper_digit d) ≡ true) → (bytes : List ℕ) → All IsByte bytes → list_all (is_escaped_byte stays) (flat_map (escaped_unless stays) bytes) ≡ true
escaped_bytes stays digits [] small = refl
escaped_bytes stays digits (byte ∷ bytes) small =
    list_all-append (is_escaped_byte stays) (escaped_unless stays byte) (flat_map (escaped_unless stays) bytes) ∙ and_from _ _ (by_test (stays byte) refl (All-head IsByte byte bytes small)) (escaped_bytes stays digits bytes (All-tail IsByte byte bytes small))
  where
    digit : (d : ℕ) → d < 16 → is_escaped_byte stays (upper_digit d) ≡ true
    digit d h = or_left (stays (upper_digit d)) (eqb (upper_digit d) 37) (digits d h)

    by_test : (b : Bool) → stays byte ≡ b → byte < 256 → list_all (is_escaped_byte stays) (cond b (byte ∷ []) (37 ∷ upper_digit (byte / 16) ∷ upper_digit (byte % 16) ∷ [])) ≡ true
    by_test true e here = and_from (is_escaped_byte stays byte) true (or_left (stays byte) (eqb byte 37) e) refl
    by_test false e here = and_from (is_escaped_byte stays 37) _ (or_right (stays 37) true refl) (and_from _ _ (digit (byte / 16) (omega arith)) (and_from _ _ (digit (byte % 16) (omega arith)) refl))

pub escaped_bytes_all : (bytes : List ℕ) → All IsByte bytes → list_all (is_escaped_byte is_unreserved) (escaped_all bytes) ≡ true
unfolding escaped_all
escaped_bytes_all bytes small = escaped_bytes is_unreserved upper_digit_is_unreserved bytes small

pub escaped_bytes_path : (bytes : List ℕ) → All IsByte bytes → list_all (is_escaped_byte stays_in_path) (escaped_path bytes) ≡ true
unfolding escaped_path
escaped_bytes_path bytes small =
    escaped_bytes stays_in_path (λ d h. or_left (is_unreserved (upper_digit d)) (eqb (upper_digit d) 47) (upper_digit_is_unreserved d h)) bytes small

-- ---- no escaped text has a bad escape

upper_digit_is_hex : (d : ℕ) → d < 16 → is_hex_digit (upper_digit d) ≡ true
upper_digit_is_hex d small = grind (arith, nat_tests)

hex_value : (byte : ℕ) → is_hex_digit byte ≡ true → digit_value byte < 16
hex_value byte h = grind (arith, nat_tests)

hex_is_no_percent : (byte : ℕ) → is_hex_digit byte ≡ true → eqb byte 37 ≡ false
hex_is_no_percent byte h = grind (arith, nat_tests)

bad_behind_other : (byte : ℕ) (text : List ℕ) → eqb byte 37 ≡ false → has_bad_escape (byte ∷ text) ≡ has_bad_escape text
unfolding has_bad_escape
bad_behind_other byte text other = ap (λ b. (b && not (begins_with_two_digits text)) || has_bad_escape text) other

bad_behind_escape : (high low : ℕ) (text : List ℕ) → is_hex_digit high ≡ true → is_hex_digit low ≡ true → has_bad_escape (37 ∷ high ∷ low ∷ text) ≡ has_bad_escape text
unfolding has_bad_escape
bad_behind_escape high low text one two =
    first (has_bad_escape (high ∷ low ∷ text)) ∙ bad_behind_other high (low ∷ text) (hex_is_no_percent high one) ∙ bad_behind_other low text (hex_is_no_percent low two)
  where
    first : (b : Bool) → (not (is_hex_digit high && is_hex_digit low) || b) ≡ b
    first b = ap (λ x. not (x && is_hex_digit low) || b) one ∙ ap (λ x. not x || b) two

-- where the test tells that `%` doesn't stay, no escaped text has a bad escape
escaped_is_good : (stays : ℕ → Bool) → stays 37 ≡ false → (bytes : List ℕ) → All IsByte bytes → has_bad_escape (flat_map (escaped_unless stays) bytes) ≡ false
unfolding has_bad_escape
escaped_is_good stays percent [] small = refl
escaped_is_good stays percent (byte ∷ bytes) small =
    by_test (stays byte) refl (All-head IsByte byte bytes small) (flat_map (escaped_unless stays) bytes) (escaped_is_good stays percent bytes (All-tail IsByte byte bytes small))
  where
    other : stays byte ≡ true → eqb byte 37 ≡ false
    other e = elim (cases_Bool (eqb byte 37)) [ inl same ↦ absurd (false≢true (sym percent ∙ ap stays (sym (eqb-true byte 37 same)) ∙ e)) | inr apart ↦ apart ]

    by_test : (b : Bool) → stays byte ≡ b → byte < 256 → (rest : List ℕ) → has_bad_escape rest ≡ false → has_bad_escape (cond b (byte ∷ []) (37 ∷ upper_digit (byte / 16) ∷ upper_digit (byte % 16) ∷ []) ++ rest) ≡ false
    by_test true e here rest good = bad_behind_other byte rest (other e) ∙ good
    by_test false e here rest good = bad_behind_escape (upper_digit (byte / 16)) (upper_digit (byte % 16)) rest (upper_digit_is_hex (byte / 16) (omega arith)) (upper_digit_is_hex (byte % 16) (omega arith)) ∙ good

decoded_good : (text bytes : List ℕ) → has_bad_escape text ≡ false → percent_decode text ≡ bytes → decoded text ≡ Ok bytes
decoded_good text bytes good value = ap (λ b. cond b (Err BadEscape) (Ok (percent_decode text))) good ∙ ap Ok value

-- a text that `encode_all` makes is read as the bytes that it was made of
pub decoded_all : (bytes : List ℕ) → All IsByte bytes → decoded (escaped_all bytes) ≡ Ok bytes
unfolding escaped_all should_percent_encode
decoded_all bytes small =
    decoded_good (escaped_all bytes) bytes (escaped_is_good is_unreserved refl bytes small) (ap percent_decode (sym (encoded_is_all bytes small)) ∙ round_trip ESCAPED_IN_ALL bytes refl small)

-- the same for `encode_path`
pub decoded_path : (bytes : List ℕ) → All IsByte bytes → decoded (escaped_path bytes) ≡ Ok bytes
unfolding escaped_path
decoded_path bytes small =
    decoded_good (escaped_path bytes) bytes (escaped_is_good stays_in_path refl bytes small) (ap percent_decode (sym (encoded_is_path bytes small)) ∙ round_trip ESCAPED_IN_PATH bytes refl small)

-- ---- what a text stands for

-- a text without a bad escape stands for what it is decoded to
stands_for_decoded : (text : List ℕ) → has_bad_escape text ≡ false → StandsFor text (percent_decode text)
unfolding has_bad_escape percent_decode
stands_for_decoded [] good = nothing
stands_for_decoded (a ∷ []) good =
    itself a [] [] (grind arith) nothing
stands_for_decoded (a ∷ b ∷ []) good =
    let parts = or_parts _ (has_bad_escape (b ∷ [])) good in
    itself a (b ∷ []) (b ∷ []) (grind arith) (stands_for_decoded (b ∷ []) parts.1)
stands_for_decoded (a ∷ b ∷ c ∷ text) good =
    by_sign (eqb a 37) refl good (λ k. stands_for_decoded text k) (λ k. stands_for_decoded (b ∷ c ∷ text) k)
  where
    by_sign : (s : Bool) → eqb a 37 ≡ s → ((s && not (is_hex_digit b && is_hex_digit c)) || has_bad_escape (b ∷ c ∷ text)) ≡ false → (has_bad_escape text ≡ false → StandsFor text (percent_decode text)) → (has_bad_escape (b ∷ c ∷ text) ≡ false → StandsFor (b ∷ c ∷ text) (percent_decode (b ∷ c ∷ text))) → StandsFor (a ∷ b ∷ c ∷ text) (percent_decode (a ∷ b ∷ c ∷ text))
    by_sign true e k far near =
        let k = or_parts (not (is_hex_digit b && is_hex_digit c)) (has_bad_escape (b ∷ c ∷ text)) k in
        let digits = and_parts (is_hex_digit b) (is_hex_digit c) (not-false (is_hex_digit b && is_hex_digit c) k.0) in
        let rest : has_bad_escape text ≡ false = sym (bad_behind_other b (c ∷ text) (hex_is_no_percent b digits.0) ∙ bad_behind_other c text (hex_is_no_percent c digits.1)) ∙ k.1 in
        let P : List ℕ → Type 0 = λ bytes. StandsFor (a ∷ b ∷ c ∷ text) bytes in
        let Q : ℕ → Type 0 = λ sign. StandsFor (sign ∷ b ∷ c ∷ text) ((16 * digit_value b + digit_value c) ∷ percent_decode text) in
        let sign = eqb-true a 37 e in
        subst P (sym (percent_decode_escape a b c text sign (hex_value b digits.0) (hex_value c digits.1))) (subst Q (sym sign) (escape b c text (percent_decode text) digits.0 digits.1 (far rest)))
    by_sign false e k far near =
        let P : List ℕ → Type 0 = λ bytes. StandsFor (a ∷ b ∷ c ∷ text) bytes in
        subst P (sym (percent_decode_not_percent a (b ∷ c ∷ text) (λ same. eqb-false a 37 e same))) (itself a (b ∷ c ∷ text) (percent_decode (b ∷ c ∷ text)) e (near k))

-- what a text stands for is what it is decoded to, and it has no bad escape
decoded_from : (text bytes : List ℕ) → StandsFor text bytes → (has_bad_escape text ≡ false) × (percent_decode text ≡ bytes)
unfolding has_bad_escape percent_decode
decoded_from text bytes nothing = (refl, refl)
decoded_from text bytes (itself byte rest value other stands) =
    let more = decoded_from rest value stands in
    (bad_behind_other byte rest other ∙ more.0, percent_decode_not_percent byte rest (λ same. eqb-false byte 37 other same) ∙ ap (λ x. byte ∷ x) more.1)
decoded_from text bytes (escape high low rest value one two stands) =
    let more = decoded_from rest value stands in
    (bad_behind_escape high low rest one two ∙ more.0, percent_decode_escape 37 high low rest refl (hex_value high one) (hex_value low two) ∙ ap (λ x. (16 * digit_value high + digit_value low) ∷ x) more.1)

pub decoded_reads : (text value : List ℕ) → (decoded text ≡ Ok value) ↔ StandsFor text value
decoded_reads text value = (from_value (has_bad_escape text) refl, λ stands. let k = decoded_from text value stands in decoded_good text value k.0 k.1)
  where
    from_value : (b : Bool) → has_bad_escape text ≡ b → cond b (Err BadEscape) (Ok (percent_decode text)) ≡ Ok value → StandsFor text value
    from_value true e h = cc
    from_value false e h =
        let same : percent_decode text ≡ value = cc in
        let P : List ℕ → Type 0 = λ bytes. StandsFor text bytes in
        subst P same (stands_for_decoded text e)
