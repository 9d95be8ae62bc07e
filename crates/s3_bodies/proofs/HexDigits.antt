-- Numbers of at most six hexadecimal digits.
use Rattle.std.proofs.Common.{◌≡◌, ℕ, ◌+◌, ◌*◌, ◌^◌, ◌<◌, ◌≤◌, true, suc, zero, List, [], ◌∷◌, ◌++◌, length, take, drop, get_or, ap, sym, ◌∙◌, arith, length-take, take-append-drop}
use Rattle.std.specs.List.{list_all}
use Rattle.std.specs.Str.Parse.{AllDigits, digits_value}
use Rattle.std.specs.Char.{digit_value}
use Rattle.std.proofs.lemmas.Bool.{and_parts}
use Rattle.std.proofs.lemmas.Bool.Decides.{nat_tests}
use Rattle.std.proofs.lemmas.List.{take_all}
use Rattle.std.proofs.lemmas.List.Folds.{list_all-append}
use Rattle.std.proofs.lemmas.Int.Digits.{digits_value_more, digits_value-lt}
use Rattle.std.proofs.Math.Nat.{pow-le-pow_right}
use Rattle.xml_forms.specs.Runs.{is_hex_digit}

pub digit_below : (c : ℕ) → is_hex_digit c ≡ true → digit_value c < 16
digit_below c e = grind (arith, nat_tests)

all_digits : (text : List ℕ) → list_all is_hex_digit text ≡ true → AllDigits 16 text
all_digits [] e = tt
all_digits (c ∷ text) e = let h = and_parts (is_hex_digit c) (list_all is_hex_digit text) e in (digit_below c h.0, all_digits text h.1)

front_passes : (text : List ℕ) (i : ℕ) → list_all is_hex_digit text ≡ true → list_all is_hex_digit (take i text) ≡ true
front_passes text i h =
    let parts : list_all is_hex_digit (take i text ++ drop i text) ≡ true = ap (list_all is_hex_digit) (take-append-drop i text) ∙ h in
    (and_parts _ (list_all is_hex_digit (drop i text)) (sym (list_all-append is_hex_digit (take i text) (drop i text)) ∙ parts)).0

pub passes_at : (text : List ℕ) (i : ℕ) → list_all is_hex_digit text ≡ true → i < length text → is_hex_digit (get_or text i 0) ≡ true
passes_at [] i e within = absurd (omega arith)
passes_at (c ∷ text) zero e within = (and_parts (is_hex_digit c) (list_all is_hex_digit text) e).0
passes_at (c ∷ text) (suc i) e within = passes_at text i (and_parts (is_hex_digit c) (list_all is_hex_digit text) e).1 (omega arith)

pub next_fits : (text : List ℕ) (i n : ℕ) → n ≡ digits_value 16 (take i text) → length text ≤ 6 → list_all is_hex_digit text ≡ true → i < length text → n * 16 + 15 < 2 ^ 32
next_fits text i n same short digits within =
    let few : length (take i text) ≤ 5 = omega (arith, length-take i text) in
    let below = digits_value-lt 16 (take i text) (all_digits (take i text) (front_passes text i digits)) in
    let least : 16 ^ length (take i text) ≤ 16 ^ 5 = pow-le-pow_right (omega arith) few in
    omega (arith, below, least, same)

pub next_value : (text : List ℕ) (i n d : ℕ) → n ≡ digits_value 16 (take i text) → d ≡ digit_value (get_or text i 0) → i < length text → n * 16 + d ≡ digits_value 16 (take (i + 1) text)
next_value text i n d same is within =
    let more = digits_value_more 16 text i within in
    omega (arith, more, is, same)

pub all_of_it : (text : List ℕ) (i n : ℕ) → n ≡ digits_value 16 (take i text) → length text ≤ i → n ≡ digits_value 16 text
all_of_it text i n same past = same ∙ ap (digits_value 16) (take_all i text past)
