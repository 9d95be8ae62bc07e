-- The parts of a URL: of which bytes they are.
use Rattle.std.proofs.Common.{◌≡◌, ℕ, zero, suc, ◌/◌, ◌%◌, ◌<◌, ◌≤◌, Bool, true, false, cond, not, ◌&&◌, ◌||◌, ◌==◌, nat_le, nat_lt, nat_eq, List, [], ◌∷◌, ◌++◌, length, take, drop, codes, decimal, Some, slice_index, refl, ap, sym, ◌∙◌, arith, length-take, drop-cons, drop-drop, take-append-drop}
use Rattle.std.specs.Prelude.{slice_range}
use Rattle.std.specs.List.{list_all, flat_map}
use Rattle.std.specs.Str.Parse.{digits_value}
use Rattle.std.proofs.lemmas.Bool.{and_from, and_parts, eqb-true, ltb-true}
use Rattle.std.proofs.lemmas.Bool.Decides.{nat_tests}
use Rattle.std.proofs.lemmas.List.Elements.{All-weaker}
use Rattle.std.proofs.lemmas.List.Sums.{AllPass-from_list_all}
use Rattle.std.specs.Str.{is_utf8}
use Rattle.std.proofs.lemmas.Str.{IsUtf8-from_ascii, is_utf8-from_IsUtf8}
use Rattle.std.proofs.lemmas.Str.Ascii.{IsAscii-from_all}
use Rattle.hex.specs.Hex.{encode_lower}
use Rattle.gate_base.specs.Ascii.{is_digit, is_letter_or_digit, is_lower_hex, is_slash}
use Rattle.s3_names.specs.Text.{has_zero, is_text}
use Rattle.s3_names.specs.Escapes.{is_unreserved, upper_digit, escaped_unless, escaped_all}
use Rattle.sigv4.specs.Authorization.{is_credential_byte, is_part, is_hex}
use Rattle.sigv4.specs.Keys.{is_key}
use Rattle.sigv4.specs.Moment.{is_time}
use Rattle.sigv4.specs.Sign.{is_date_time, date_of, signed_of}
use Rattle.sigv4.proofs.lemmas.Signatures.{signature_is_hex}
use Rattle.sigv4.proofs.lemmas.Cuts.{is_free, all_joined, all_weaker, all_in_join}
use Rattle.text_forms.specs.Numbers.{is_number}
use Rattle.text_forms.proofs.lemmas.Decimals.{decimal_digits, decimal_is_number, decimal_value}
use Rattle.presign.specs.Claim.{is_expiry_span, span_of}
use Rattle.presign.specs.Laws.{IsBytes}
use Rattle.presign.specs.Url.{is_region_byte, is_region, credential_for}
use Rattle.presign.proofs.Times.{time_has_form}

-- ASCII but byte 0
abbrev pub is_plain : ℕ → Bool
is_plain b = nat_lt 0 b && nat_lt b 128

plain_is_small : (b : ℕ) → is_plain b ≡ true → b < 128
plain_is_small b h = ltb-true b 128 (and_parts (nat_lt 0 b) (nat_lt b 128) h).1

plain_is_byte : (b : ℕ) → is_plain b ≡ true → b < 256
plain_is_byte b h = let small = plain_is_small b h in omega arith

plain_is_filled : (b : ℕ) → is_plain b ≡ true → (b == 0) ≡ false
plain_is_filled b h = grind (arith, nat_tests)

pub bytes_by : (text : List ℕ) → list_all is_plain text ≡ true → IsBytes text
bytes_by text h = All-weaker (λ b. is_plain b ≡ true) (λ b. b < 256) plain_is_byte text (AllPass-from_list_all is_plain text h)

no_zero : (text : List ℕ) → list_all is_plain text ≡ true → has_zero text ≡ false
no_zero [] h = refl
no_zero (b ∷ text) h =
    let parts = and_parts (is_plain b) (list_all is_plain text) h in
    ap (λ zero_here. zero_here || has_zero text) (plain_is_filled b parts.0) ∙ no_zero text parts.1

pub text_by : (text : List ℕ) → list_all is_plain text ≡ true → is_text text ≡ true
text_by text h =
    let ascii = IsAscii-from_all text (All-weaker (λ b. is_plain b ≡ true) (λ b. b < 128) plain_is_small text (AllPass-from_list_all is_plain text h)) in
    and_from (is_utf8 text) (not (has_zero text)) (is_utf8-from_IsUtf8 text (IsUtf8-from_ascii text ascii)) (ap not (no_zero text h))

-- ---- classes of bytes

letter_is_plain : (b : ℕ) → is_letter_or_digit b ≡ true → is_plain b ≡ true
letter_is_plain b h = grind (arith, nat_tests)

letter_is_part : (b : ℕ) → is_letter_or_digit b ≡ true → is_credential_byte b ≡ true
letter_is_part b h = grind (arith, nat_tests)

digit_is_letter : (b : ℕ) → is_digit b ≡ true → is_letter_or_digit b ≡ true
digit_is_letter b h = grind (arith, nat_tests)

region_is_plain : (b : ℕ) → is_region_byte b ≡ true → is_plain b ≡ true
region_is_plain b h = grind (arith, nat_tests)

region_is_part : (b : ℕ) → is_region_byte b ≡ true → is_credential_byte b ≡ true
region_is_part b h = grind (arith, nat_tests)

part_is_free : (b : ℕ) → is_credential_byte b ≡ true → not (is_slash b) ≡ true
part_is_free b h = grind (arith, nat_tests)

hex_is_plain : (b : ℕ) → is_lower_hex b ≡ true → is_plain b ≡ true
hex_is_plain b h = grind (arith, nat_tests)

hex_is_unreserved : (b : ℕ) → is_lower_hex b ≡ true → is_unreserved b ≡ true
hex_is_unreserved b h = grind (arith, nat_tests)

-- ---- a part of a credential

-- a part, free of slashes
pub record IsPart (text : List ℕ) : Type 0 where
  pub part : is_part text ≡ true
  pub free : is_free is_slash text ≡ true
  pub plain : list_all is_plain text ≡ true

part_by : (text : List ℕ) → 1 ≤ length text → list_all is_credential_byte text ≡ true → list_all is_plain text ≡ true → IsPart text
part_by text some parts plain =
    let filled : nat_lt 0 (length text) ≡ true = grind (arith, nat_tests) in
    record {
      part = and_from (nat_lt 0 (length text)) (list_all is_credential_byte text) filled parts;
      free = all_weaker is_credential_byte (λ b. not (is_slash b)) part_is_free text parts;
      plain = plain;
    }

three_parts : (a b c : Bool) → (a && b && c) ≡ true → (a ≡ true) × (b ≡ true) × (c ≡ true)
three_parts a b c h =
    let two = and_parts (a && b) c h in
    let one = and_parts a b two.0 in
    (one.0, one.1, two.1)

pub region_part : (region : List ℕ) → is_region region ≡ true → IsPart region
region_part region h =
    let parts = three_parts (nat_le 1 (length region)) (nat_le (length region) 32) (list_all is_region_byte region) h in
    let least = parts.0 in
    part_by region (grind (arith, nat_tests)) (all_weaker is_region_byte is_credential_byte region_is_part region parts.2) (all_weaker is_region_byte is_plain region_is_plain region parts.2)

pub id_part : (id secret : List ℕ) → is_key (record { id = id; secret = secret }) ≡ true → IsPart id
id_part id secret h =
    let outer = and_parts (nat_le 1 (length id) && nat_le (length id) 128 && list_all is_letter_or_digit id && (nat_le 1 (length secret) && nat_le (length secret) 128)) _ h in
    let inner = and_parts (nat_le 1 (length id) && nat_le (length id) 128 && list_all is_letter_or_digit id) _ outer.0 in
    let parts = three_parts (nat_le 1 (length id)) (nat_le (length id) 128) (list_all is_letter_or_digit id) inner.0 in
    let least = parts.0 in
    part_by id (grind (arith, nat_tests)) (all_weaker is_letter_or_digit is_credential_byte letter_is_part id parts.2) (all_weaker is_letter_or_digit is_plain letter_is_plain id parts.2)

-- ---- a time

digits_are_plain : (text : List ℕ) → list_all is_digit text ≡ true → list_all is_plain text ≡ true
digits_are_plain text h = all_weaker is_digit is_plain (λ b d. letter_is_plain b (digit_is_letter b d)) text h

record HasForm (time : List ℕ) : Type 0 where
  long : length time ≡ 16
  date : list_all is_digit (take 8 time) ≡ true
  letter : slice_index time 8 ≡ 84
  clock : list_all is_digit (slice_range time 9 15) ≡ true
  last : slice_index time 15 ≡ 90

form_of : (time : List ℕ) → is_date_time time ≡ true → HasForm time
form_of time h =
    let a : Bool = nat_eq (length time) 16 in
    let b : Bool = list_all is_digit (take 8 time) in
    let c : Bool = nat_eq (slice_index time 8) 84 in
    let d : Bool = list_all is_digit (slice_range time 9 15) in
    let five = and_parts (a && b && c && d) (nat_eq (slice_index time 15) 90) h in
    let four = and_parts (a && b && c) d five.0 in
    let three = and_parts (a && b) c four.0 in
    let two = and_parts a b three.0 in
    record {
      long = eqb-true (length time) 16 two.0;
      date = two.1;
      letter = eqb-true (slice_index time 8) 84 three.1;
      clock = four.1;
      last = eqb-true (slice_index time 15) 90 five.1;
    }

pub date_part : (time : List ℕ) → is_time time ≡ true → IsPart (date_of time)
date_part time h =
    let form = form_of time (time_has_form time h) in
    let long = form.long in
    let least : 1 ≤ length (take 8 time) = omega (arith, length-take 8 time) in
    part_by (take 8 time) least (all_weaker is_digit is_credential_byte (λ b d. letter_is_part b (digit_is_letter b d)) (take 8 time) form.date) (digits_are_plain (take 8 time) form.date)

-- what is behind a place is the byte there and what is behind it
behind_plain : (text : List ℕ) (i : ℕ) → i < length text → is_plain (slice_index text i) ≡ true → list_all is_plain (drop (suc i) text) ≡ true → list_all is_plain (drop i text) ≡ true
behind_plain text i within here rest = ap (list_all is_plain) (drop-cons text i 0 within) ∙ and_from (is_plain (slice_index text i)) (list_all is_plain (drop (suc i) text)) here rest

pub time_plain : (time : List ℕ) → is_time time ≡ true → list_all is_plain time ≡ true
time_plain time h =
    let form = form_of time (time_has_form time h) in
    let long = form.long in
    let none : list_all is_plain (drop 16 time) ≡ true = ap (list_all is_plain) (nothing time 16 (omega (arith, long))) in
    let last : list_all is_plain (drop 15 time) ≡ true = behind_plain time 15 (omega (arith, long)) (ap is_plain form.last) none in
    let rest : list_all is_plain (drop 6 (drop 9 time)) ≡ true = ap (list_all is_plain) (drop-drop 6 9 time) ∙ last in
    let clock : list_all is_plain (drop 9 time) ≡ true = ap (list_all is_plain) (sym (take-append-drop 6 (drop 9 time))) ∙ all_joined is_plain (take 6 (drop 9 time)) (drop 6 (drop 9 time)) (digits_are_plain (take 6 (drop 9 time)) form.clock) rest in
    let behind : list_all is_plain (drop 8 time) ≡ true = behind_plain time 8 (omega (arith, long)) (ap is_plain form.letter) clock in
    ap (list_all is_plain) (sym (take-append-drop 8 time)) ∙ all_joined is_plain (take 8 time) (drop 8 time) (digits_are_plain (take 8 time) form.date) behind
  where
    nothing : (text : List ℕ) (n : ℕ) → length text ≤ n → drop n text ≡ []
    nothing [] zero short = refl
    nothing [] (suc n) short = refl
    nothing (x ∷ text) zero short = absurd (omega arith)
    nothing (x ∷ text) (suc n) short = nothing text n (omega arith)

-- ---- the credential and the seconds

pub credential_plain : (id date region : List ℕ) → IsPart id → IsPart date → IsPart region → list_all is_plain (credential_for id date region) ≡ true
credential_plain id date region one two three =
    all_in_join is_plain 47 (id ∷ date ∷ region ∷ codes "s3" ∷ codes "aws4_request" ∷ []) refl (and_from _ _ one.plain (and_from _ _ two.plain (and_from _ _ three.plain refl)))

pub seconds_plain : (n : ℕ) → n ≤ 604800 → list_all is_plain (decimal n) ≡ true
seconds_plain n most = digits_are_plain (decimal n) (decimal_digits n (omega (arith, most)))

-- the seconds are read back
pub span_back : (n : ℕ) → 1 ≤ n → n ≤ 604800 → span_of (decimal n) ≡ Some n
unfolding span_of
span_back n least most =
    let value : digits_value 10 (decimal n) ≡ n = decimal_value n (omega (arith, most)) in
    let number : is_number 6 (decimal n) ≡ true = decimal_is_number 6 n (omega arith) (omega (arith, most)) (omega (arith, most)) in
    let low : nat_le 1 n ≡ true = grind (arith, nat_tests) in
    let high : nat_le n 604800 ≡ true = grind (arith, nat_tests) in
    let span : is_expiry_span n ≡ true = and_from (nat_le 1 n) (nat_le n 604800) low high in
    rw (value, number, span) refl

-- ---- the signature

-- a signature in its digits
pub record IsSignature (text : List ℕ) : Type 0 where
  pub hex : is_hex text ≡ true
  pub plain : list_all is_plain text ≡ true
  pub itself : escaped_all text ≡ text

unescaped_text : (text : List ℕ) → list_all is_unreserved text ≡ true → escaped_all text ≡ text
unfolding escaped_all
unescaped_text [] h = refl
unescaped_text (byte ∷ text) h =
    let parts = and_parts (is_unreserved byte) (list_all is_unreserved text) h in
    let here : escaped_unless is_unreserved byte ≡ byte ∷ [] = ap (λ b. cond b (byte ∷ []) (37 ∷ upper_digit (byte / 16) ∷ upper_digit (byte % 16) ∷ [])) parts.0 in
    ap (λ front. front ++ flat_map (escaped_unless is_unreserved) text) here ∙ ap (λ rest. byte ∷ rest) (unescaped_text text parts.1)

pub signature_form : (secret time region text : List ℕ) → IsSignature (encode_lower (signed_of secret time region text).signature)
signature_form secret time region text =
    let signature : List ℕ = encode_lower (signed_of secret time region text).signature in
    let hex = signature_is_hex secret time region text in
    let digits = (and_parts (nat_eq (length signature) 64) (list_all is_lower_hex signature) hex).1 in
    record {
      hex = hex;
      plain = all_weaker is_lower_hex is_plain hex_is_plain signature digits;
      itself = unescaped_text signature (all_weaker is_lower_hex is_unreserved hex_is_unreserved signature digits);
    }
