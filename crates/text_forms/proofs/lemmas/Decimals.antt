-- A number in decimal is digits, and is read back.
use Rattle.std.proofs.Common.{◌≡◌, ℕ, ◌^◌, ◌<◌, true, leb, length, ap, ◌∙◌, arith, rules}
use Rattle.std.specs.Prelude.{decimal, Some, None}
use Rattle.std.specs.List.{list_all}
use Rattle.std.specs.Str.Parse.{digits_value}
use Rattle.std.proofs.lemmas.Bool.{and_from, cond-true}
use Rattle.std.proofs.lemmas.Bool.Decides.{nat_tests}
use Rattle.std.proofs.lemmas.Str.Parse.{IsNumeralModel, IsDigitsTest, numerals_by_value}
use Rattle.std.proofs.lemmas.Fmt.{length-decimal-le, digits_decimal, digits_value-decimal, decimal_is_IsNumeral}
use Rattle.gate_base.specs.Ascii.{is_digit}
use Rattle.text_forms.specs.Numbers.{is_number, number_of}

tells : IsDigitsTest (λ ds. list_all is_digit ds ≡ true)
tells = search rules

-- digits as std's lemmas on numerals take them
pub digits_model : IsNumeralModel (λ ds. list_all is_digit ds ≡ true) (digits_value 10)
digits_model = numerals_by_value _ tells

pub decimal_digits : (n : ℕ) → n < 2 ^ 64 → list_all is_digit (decimal n) ≡ true
decimal_digits n fits = digits_decimal digits_model n fits

pub decimal_value : (n : ℕ) → n < 2 ^ 64 → digits_value 10 (decimal n) ≡ n
decimal_value n fits = digits_value-decimal digits_model n fits

pub decimal_is_number : (most n : ℕ) → 0 < most → n < 10 ^ most → n < 2 ^ 64 → is_number most (decimal n) ≡ true
decimal_is_number most n some small fits =
    let numeral = decimal_is_IsNumeral n fits in
    let filled : leb 1 (length (decimal n)) ≡ true = grind (arith, nat_tests, numeral.0.0) in
    let short : leb (length (decimal n)) most ≡ true = grind (arith, nat_tests, length-decimal-le most n some small fits) in
    and_from _ _ (and_from _ _ filled short) (decimal_digits n fits)

pub number_of_decimal : (most n : ℕ) → 0 < most → n < 10 ^ most → n < 2 ^ 64 → number_of most (decimal n) ≡ Some n
unfolding number_of
number_of_decimal most n some small fits =
    cond-true (is_number most (decimal n)) (Some (digits_value 10 (decimal n))) None (decimal_is_number most n some small fits)
    ∙ ap (λ k. Some k) (decimal_value n fits)
