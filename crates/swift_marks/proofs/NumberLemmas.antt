-- Numbers in decimal, as marks have them.
use Rattle.std.proofs.Common.{◌≡◌, ℕ, ◌^◌, ◌<◌, Bool, true, false, cond, leb, List, ◌++◌, length, take, drop, refl, ap, sym, ◌∙◌, arith, take-append-drop}
use Rattle.std.specs.Prelude.{decimal, ◌&&◌}
use Rattle.std.specs.List.{list_all}
use Rattle.std.specs.Str.Parse.{digits_value}
use Rattle.std.proofs.lemmas.Bool.{and_parts, and_from}
use Rattle.std.proofs.lemmas.Bool.Decides.{nat_tests}
use Rattle.std.proofs.lemmas.List.Folds.{list_all-append}
use Rattle.std.proofs.lemmas.Str.Parse.{digits_value_short}
use Rattle.std.proofs.lemmas.Fmt.{length-decimal-le}
use Rattle.gate_base.specs.Ascii.{is_digit}
use Rattle.text_forms.proofs.lemmas.Decimals.{decimal_digits, decimal_value, digits_model}
use Rattle.swift_marks.specs.Number.{number_of}

pub front_passes : (test : ℕ → Bool) (text : List ℕ) (i : ℕ) → list_all test text ≡ true → list_all test (take i text) ≡ true
front_passes test text i h =
    let parts : list_all test (take i text ++ drop i text) ≡ true = ap (list_all test) (take-append-drop i text) ∙ h in
    (and_parts _ (list_all test (drop i text)) (sym (list_all-append test (take i text) (drop i text)) ∙ parts)).0

-- a number in decimal is read as the number
pub number_of_decimal : (n : ℕ) → n < 10 ^ 19 → number_of (decimal n) ≡ n
unfolding number_of
number_of_decimal n small =
    let fits : n < 2 ^ 64 = omega arith in
    let short : leb (length (decimal n)) 19 ≡ true = grind (arith, nat_tests, length-decimal-le 19 n (omega arith) small fits) in
    let digits : list_all is_digit (decimal n) ≡ true = decimal_digits n fits in
    ap (λ b. cond b (digits_value 10 (decimal n)) 0) (and_from _ _ short digits) ∙ decimal_value n fits

pub number_is_below : (text : List ℕ) → number_of text < 10 ^ 19
unfolding number_of
number_is_below text = by_test (leb (length text) 19) (list_all is_digit text) refl refl
  where
    by_test : (a b : Bool) → leb (length text) 19 ≡ a → list_all is_digit text ≡ b → cond (a && b) (digits_value 10 text) 0 < 10 ^ 19
    by_test true true short digits = digits_value_short digits_model text 19 digits (grind (arith, nat_tests))
    by_test true false short digits = omega arith
    by_test false b short digits = omega arith
