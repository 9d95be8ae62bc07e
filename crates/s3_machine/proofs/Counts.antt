-- How many parts an object has is a number of 32 bits.
use Rattle.std.proofs.Common.{◌≡◌, ◌≤◌, ◌<◌, ◌^◌, ℕ, Bool, true, false, cond, List, length, drop, Some, None, IfSome, refl, sym, arith}
use Rattle.std.specs.Prelude.{nat_le}
use Rattle.std.specs.List.{list_all}
use Rattle.std.specs.Str.Parse.{digits_value}
use Rattle.std.proofs.lemmas.Bool.{and_parts}
use Rattle.std.proofs.lemmas.Bool.Decides.{nat_tests}
use Rattle.std.proofs.lemmas.List.{at_drop_all}
use Rattle.std.proofs.lemmas.Str.Parse.{digits_value_short}
use Rattle.gate_base.specs.Ascii.{is_digit}
use Rattle.text_forms.specs.Numbers.{is_number, number_of}
use Rattle.text_forms.proofs.lemmas.Decimals.{digits_model}

number_small : (text : List ℕ) → is_number 5 text ≡ true → digits_value 10 text < 2 ^ 32
number_small text h =
    let parts = and_parts _ (list_all is_digit text) h in
    let few = (and_parts _ (nat_le (length text) 5) parts.0).1 in
    let short : length text ≤ 5 = grind (arith, nat_tests) in
    let small : digits_value 10 text < 10 ^ 5 = digits_value_short digits_model text 5 parts.1 short in
    omega (arith, small)

-- a number has at most five digits
pub count_small : (text : List ℕ) → IfSome (number_of 5 text) (λ count. count < 2 ^ 32)
unfolding number_of
count_small text = by_test (is_number 5 text) refl
  where
    by_test : (b : Bool) → is_number 5 text ≡ b → IfSome (cond b (Some (digits_value 10 text)) None) (λ count. count < 2 ^ 32)
    by_test true e = number_small text e
    by_test false e = tt

-- an ETag of 33 bytes or fewer tells no number
pub no_count : (etag : List ℕ) → length etag ≤ 33 → None ≡ number_of 5 (drop 33 etag)
unfolding number_of
no_count etag few = sym (at_drop_all (number_of 5) etag 33 few)
