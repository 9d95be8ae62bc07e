-- The numbers that hexadecimal digits write, digit by digit.
use Rattle.std.proofs.Common.{◌≡◌, ℕ, ◌+◌, ◌*◌, ◌^◌, ◌<◌, ◌≤◌, true, List, [], ◌∷◌, ◌++◌, length, take, drop, get_or, ap, sym, ◌∙◌, arith, length-take, take-append-drop, zero, suc}
use Rattle.std.specs.List.{list_all}
use Rattle.std.specs.Char.{digit_value}
use Rattle.std.specs.Str.Parse.{digits_value, AllDigits}
use Rattle.std.proofs.Math.Nat.{pow-le-pow_right}
use Rattle.std.proofs.lemmas.Bool.{and_parts, ltb-true}
use Rattle.std.proofs.lemmas.List.{take_all}
use Rattle.std.proofs.lemmas.List.Folds.{list_all-append}
use Rattle.std.proofs.lemmas.Int.Digits.{digits_value-lt, digits_value_more}
use Rattle.chunked.specs.Sent.{is_hex_digit}

all_digits : (cs : List ℕ) → list_all is_hex_digit cs ≡ true → AllDigits 16 cs
all_digits [] h = tt
all_digits (c ∷ cs) h =
    let p = and_parts (is_hex_digit c) (list_all is_hex_digit cs) h in
    (ltb-true (digit_value c) 16 p.0, all_digits cs p.1)

front_passes : (text : List ℕ) (i : ℕ) → list_all is_hex_digit text ≡ true → list_all is_hex_digit (take i text) ≡ true
front_passes text i h =
    let parts : list_all is_hex_digit (take i text ++ drop i text) ≡ true = ap (list_all is_hex_digit) (take-append-drop i text) ∙ h in
    (and_parts (list_all is_hex_digit (take i text)) (list_all is_hex_digit (drop i text)) (sym (list_all-append is_hex_digit (take i text) (drop i text)) ∙ parts)).0

-- at most `k` digits write a number below 16 ^ k
below : (k : ℕ) (text : List ℕ) → length text ≤ k → list_all is_hex_digit text ≡ true → digits_value 16 text < 16 ^ k
below k text short h =
    let least : digits_value 16 text < 16 ^ length text = digits_value-lt 16 text (all_digits text h) in
    let most : 16 ^ length text ≤ 16 ^ k = pow-le-pow_right (omega arith) short in
    omega (arith, least, most)

pub digit_passes : (text : List ℕ) (i : ℕ) → list_all is_hex_digit text ≡ true → i < length text → is_hex_digit (get_or text i 0) ≡ true
digit_passes [] i h within = absurd (omega arith)
digit_passes (c ∷ cs) zero h within = (and_parts (is_hex_digit c) (list_all is_hex_digit cs) h).0
digit_passes (c ∷ cs) (suc i) h within = digit_passes cs i (and_parts (is_hex_digit c) (list_all is_hex_digit cs) h).1 (omega arith)

pub next_fits : (text : List ℕ) (i n : ℕ) → n ≡ digits_value 16 (take i text) → length text ≤ 16 → list_all is_hex_digit text ≡ true → i < length text → n * 16 + 15 < 2 ^ 64
next_fits text i n same short digits within =
    let few : length (take i text) ≤ 15 = omega (arith, length-take i text) in
    omega (arith, below 15 (take i text) few (front_passes text i digits), same)

pub digit_below : (text : List ℕ) (i : ℕ) → list_all is_hex_digit text ≡ true → i < length text → digit_value (get_or text i 0) < 16
digit_below text i h within = ltb-true (digit_value (get_or text i 0)) 16 (digit_passes text i h within)

pub next_value : (text : List ℕ) (i n : ℕ) → n ≡ digits_value 16 (take i text) → i < length text → n * 16 + digit_value (get_or text i 0) ≡ digits_value 16 (take (i + 1) text)
next_value text i n same within = omega (arith, digits_value_more 16 text i within, same)

pub all_of_it : (text : List ℕ) (i n : ℕ) → n ≡ digits_value 16 (take i text) → length text ≤ i → n ≡ digits_value 16 text
all_of_it text i n same past = same ∙ ap (digits_value 16) (take_all i text past)
