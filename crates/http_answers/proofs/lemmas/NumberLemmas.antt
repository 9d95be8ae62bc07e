-- Numbers in decimal are read back.
use Rattle.std.proofs.Common.{◌≡◌, ℕ, ◌^◌, ◌<◌, true, ◌&&◌, eqb, List, [], ◌∷◌, Some, None, refl, ap, ◌∙◌, arith}
use Rattle.std.specs.Prelude.{decimal, bytes_eq}
use Rattle.std.specs.Str.Parse.{digits_value}
use Rattle.std.proofs.lemmas.Bool.{and_from, cond-true}
use Rattle.std.proofs.lemmas.Bool.Decides.{nat_tests}
use Rattle.text_forms.specs.Numbers.{is_number}
use Rattle.text_forms.proofs.lemmas.Decimals.{decimal_is_number, decimal_value}
use Rattle.http_answers.specs.Fields.{plain_number}

pub same_bytes : (text : List ℕ) → bytes_eq text text ≡ true
same_bytes [] = refl
same_bytes (b ∷ text) =
    let here : eqb b b ≡ true = grind (arith, nat_tests) in and_from (eqb b b) (bytes_eq text text) here (same_bytes text)

pub decimal_length : (n : ℕ) → n < 10 ^ 19 → is_number 19 (decimal n) ≡ true
decimal_length n small = decimal_is_number 19 n (omega arith) small (omega arith)

pub plain_decimal : (n : ℕ) → n < 10 ^ 19 → plain_number (decimal n) ≡ Some n
plain_decimal n small =
    let fits : n < 2 ^ 64 = omega arith in
    let value : digits_value 10 (decimal n) ≡ n = decimal_value n fits in
    let same : bytes_eq (decimal n) (decimal (digits_value 10 (decimal n))) ≡ true =
    ap (λ k. bytes_eq (decimal n) (decimal k)) value ∙ same_bytes (decimal n) in
    cond-true (is_number 19 (decimal n) && bytes_eq (decimal n) (decimal (digits_value 10 (decimal n)))) (Some (digits_value 10 (decimal n))) None
    (and_from _ _ (decimal_length n small) same)
    ∙ ap (λ k. Some k) value
