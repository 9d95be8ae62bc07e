-- The numbers that digits write, digit by digit.
use Rattle.std.proofs.Common.{◌≡◌, ℕ, ◌+◌, ◌-◌, ◌*◌, ◌^◌, ◌<◌, ◌≤◌, true, List, ◌++◌, length, take, drop, get_or, ap, sym, ◌∙◌, arith, rules, length-take, take-append-drop}
use Rattle.std.specs.List.{list_all}
use Rattle.std.specs.Str.Parse.{digits_value}
use Rattle.std.specs.Char.{digit_value}
use Rattle.std.proofs.lemmas.Bool.{and_parts}
use Rattle.std.proofs.lemmas.Bool.Decides.{nat_tests}
use Rattle.std.proofs.lemmas.List.{take_all}
use Rattle.std.proofs.lemmas.List.Folds.{list_all-append}
use Rattle.std.proofs.lemmas.Str.Parse.{IsNumeralModel, IsDigitsTest, numerals_by_value, digits_value_short, digit_at}
use Rattle.std.proofs.lemmas.Int.Digits.{digits_value_more}
use Rattle.gate_base.specs.Ascii.{is_digit}

tells : IsDigitsTest (λ ds. list_all is_digit ds ≡ true)
tells = search rules

own : IsNumeralModel (λ ds. list_all is_digit ds ≡ true) (digits_value 10)
own = numerals_by_value _ tells

front_passes : (text : List ℕ) (i : ℕ) → list_all is_digit text ≡ true → list_all is_digit (take i text) ≡ true
front_passes text i h =
    let parts : list_all is_digit (take i text ++ drop i text) ≡ true = ap (list_all is_digit) (take-append-drop i text) ∙ h in
    (and_parts _ (list_all is_digit (drop i text)) (sym (list_all-append is_digit (take i text) (drop i text)) ∙ parts)).0

-- before the last of at most `k + 1` digits stand at most `k`
front_is_small : (k : ℕ) (text : List ℕ) (i : ℕ) → length text ≤ k + 1 → list_all is_digit text ≡ true → i < length text → digits_value 10 (take i text) < 10 ^ k
front_is_small k text i short digits within =
    let few : length (take i text) ≤ k = omega (arith, length-take i text) in
    digits_value_short own (take i text) k (front_passes text i digits) few

pub digit_is : (text : List ℕ) (i : ℕ) → list_all is_digit text ≡ true → i < length text → (48 ≤ get_or text i 0) × (get_or text i 0 ≤ 57)
digit_is text i digits within = let found = digit_at text i (own.to text digits) within in (found.0, found.1)

pub next_fits : (text : List ℕ) (i n : ℕ) → n ≡ digits_value 10 (take i text) → length text ≤ 19 → list_all is_digit text ≡ true → i < length text → n * 10 + 9 < 2 ^ 64
next_fits text i n same short digits within = omega (arith, front_is_small 18 text i short digits within)

pub next_fits_short : (text : List ℕ) (i n : ℕ) → n ≡ digits_value 10 (take i text) → length text ≤ 9 → list_all is_digit text ≡ true → i < length text → n * 10 + 9 < 2 ^ 32
next_fits_short text i n same short digits within = omega (arith, front_is_small 8 text i short digits within)

value_of_digit : (c : ℕ) → 48 ≤ c → c ≤ 57 → digit_value c ≡ c - 48
value_of_digit c low high = grind (arith, nat_tests)

pub next_value : (text : List ℕ) (i n : ℕ) → n ≡ digits_value 10 (take i text) → list_all is_digit text ≡ true → i < length text → n * 10 + (get_or text i 0 - 48) ≡ digits_value 10 (take (i + 1) text)
next_value text i n same digits within =
    let found = digit_is text i digits within in
    let more = digits_value_more 10 text i within in
    let last = value_of_digit (get_or text i 0) found.0 found.1 in
    omega (arith, more, last, same)

pub all_of_it : (text : List ℕ) (i n : ℕ) → n ≡ digits_value 10 (take i text) → length text ≤ i → n ≡ digits_value 10 text
all_of_it text i n same past = same ∙ ap (digits_value 10) (take_all i text past)
