-- What a number that can't be read says of its text.
use Rattle.std.proofs.Common.{◌≡◌, ◌<◌, ℕ, ◌^◌, Bool, true, false, List, length, Some, None, Err, refl, cond, ap, ◌∙◌, leb-true, arith}
use Rattle.std.specs.Prelude.{◌&&◌, nat_le}
use Rattle.std.specs.List.{list_all}
use Rattle.std.specs.Str.Parse.{digits_value, ParsesUnsigned}
use Rattle.std.proofs.lemmas.Bool.{and_parts}
use Rattle.std.proofs.lemmas.Str.Parse.{parse_digits}
use Rattle.gate_base.specs.Ascii.{is_digit}
use Rattle.text_forms.specs.Numbers.{is_number}
use Rattle.text_forms.proofs.lemmas.Decimals.{digits_model}
use Rattle.gateway_cli.specs.Words.{is_within, number_in}

-- a number up to one of 64 bits is small enough to be read
readable : {E : Type 0} (least most : ℕ) (text : List ℕ) (fault : E) → most < 2 ^ 64 → ParsesUnsigned 64 10 text (Err fault) → is_number 20 text ≡ true → is_within least most (digits_value 10 text) ≡ true → ⊥
readable least most text fault fits fails number within =
    let parts = and_parts (nat_le 1 (length text) && nat_le (length text) 20) (list_all is_digit text) number in
    let sizes = and_parts (nat_le 1 (length text)) (nat_le (length text) 20) parts.0 in
    let bounds = and_parts (nat_le least (digits_value 10 text)) (nat_le (digits_value 10 text) most) within in
    let some : 0 < length text = omega (arith, leb-true 1 (length text) sizes.0) in
    let small : digits_value 10 text < 2 ^ 64 = omega (arith, leb-true (digits_value 10 text) most bounds.1) in
    parse_digits digits_model 64 text (Err fault) fails parts.1 (some, small)

-- so a text that can't be read writes none of these numbers
pub unreadable : {E : Type 0} (least most : ℕ) (text : List ℕ) (fault : E) → most < 2 ^ 64 → ParsesUnsigned 64 10 text (Err fault) → is_number 20 text ≡ true → number_in least most text ≡ None
unreadable least most text fault fits fails number = by_test (is_within least most (digits_value 10 text)) refl
  where
    by_test : (test : Bool) → is_within least most (digits_value 10 text) ≡ test → number_in least most text ≡ None
    by_test true is = absurd (readable least most text fault fits fails number is)
    by_test false is = ap (λ b. cond (is_number 20 text && b) (Some (digits_value 10 text)) None) is ∙ ap (λ b. cond (b && false) (Some (digits_value 10 text)) None) number
