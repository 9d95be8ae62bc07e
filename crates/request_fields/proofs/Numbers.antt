-- Numbers that are read keep their limits: the place of a byte, and the number of a part.
use Rattle.std.proofs.Common.{◌≡◌, ◌≤◌, ◌<◌, ◌^◌, ℕ, Bool, true, false, cond, List, length, Some, None, IfSome, refl, arith}
use Rattle.std.specs.Prelude.{nat_le}
use Rattle.std.specs.List.{list_all}
use Rattle.std.specs.Str.Parse.{digits_value}
use Rattle.std.proofs.lemmas.Bool.{and_parts}
use Rattle.std.proofs.lemmas.Bool.Decides.{nat_tests}
use Rattle.std.proofs.lemmas.Str.Parse.{digits_value_short}
use Rattle.gate_base.specs.Ascii.{is_digit}
use Rattle.s3_machine.specs.declared.limits.TheConstants.{GREATEST_PART_NUMBER}
use Rattle.s3_machine.specs.Limits.{range_limit}
use Rattle.s3_machine.specs.Uploads.{greatest_part, IsPartNumber}
use Rattle.text_forms.specs.Numbers.{is_number, number_of}
use Rattle.text_forms.proofs.lemmas.Decimals.{digits_model}
use Rattle.request_fields.specs.Ranges.{place_of}

abbrev IsSmall : ℕ → Type 0
IsSmall place = place < range_limit

number_small : (text : List ℕ) → is_number 18 text ≡ true → digits_value 10 text < range_limit
number_small text h =
    let parts = and_parts _ (list_all is_digit text) h in
    let few = (and_parts _ (nat_le (length text) 18) parts.0).1 in
    let short : length text ≤ 18 = grind (arith, nat_tests) in
    let small : digits_value 10 text < 10 ^ 18 = digits_value_short digits_model text 18 parts.1 short in
    omega (arith, small)

-- a place has at most 18 digits
pub place_small : (text : List ℕ) → IfSome (place_of text) IsSmall
unfolding number_of
place_small text = by_test (is_number 18 text) refl
  where
    by_test : (b : Bool) → is_number 18 text ≡ b → IfSome (cond b (Some (digits_value 10 text)) None) IsSmall
    by_test true e = number_small text e
    by_test false e = tt

pub part_first : IsPartNumber 1
unfolding greatest_part
part_first = record { counted = omega arith; within = omega arith }

pub part_counted : (number : ℕ) → 1 ≤ number → number ≤ GREATEST_PART_NUMBER → IsPartNumber number
unfolding greatest_part
part_counted number above within = record { counted = above; within = within }
