-- The number that five digits write.
use Rattle.std.proofs.Common.{◌≡◌, ℕ, ◌+◌, ◌-◌, ◌*◌, ◌/◌, ◌%◌, ◌≤◌, true, cond, Some, None, refl, ap, ◌∙◌, arith}
use Rattle.std.specs.List.{list_all}
use Rattle.std.specs.Str.Parse.{digits_value}
use Rattle.std.specs.Char.{digit_value}
use Rattle.std.proofs.lemmas.Bool.{and_from}
use Rattle.std.proofs.lemmas.Bool.Decides.{nat_tests}
use Rattle.gate_base.specs.Ascii.{is_digit}
use Rattle.upload_records.specs.Layout.{five_digits}
use Rattle.upload_calls.specs.Listing.{digits_in}

value_of_digit : (c : ℕ) → 48 ≤ c → c ≤ 57 → digit_value c ≡ c - 48
value_of_digit c low high = grind (arith, nat_tests)

-- a number is the sum of its digits
pub digits_sum : (n : ℕ) → n ≡ n / 10000 * 10000 + n / 1000 % 10 * 1000 + n / 100 % 10 * 100 + n / 10 % 10 * 10 + n % 10
digits_sum n = omega arith

is_one : (x : ℕ) → x ≤ 9 → is_digit (48 + x) ≡ true
is_one x small = grind (arith, nat_tests)

has_value : (x : ℕ) → x ≤ 9 → digit_value (48 + x) ≡ x
has_value x small = let v = value_of_digit (48 + x) (omega arith) (omega (arith, small)) in omega (arith, v)

are_digits : (n : ℕ) → n ≤ 99999 → list_all is_digit (five_digits n) ≡ true
are_digits n small =
    and_from _ _ (is_one (n / 10000) (omega (arith, small))) (and_from _ _ (is_one (n / 1000 % 10) (omega arith)) (and_from _ _ (is_one (n / 100 % 10) (omega arith))
    (and_from _ _ (is_one (n / 10 % 10) (omega arith)) (and_from _ _ (is_one (n % 10) (omega arith)) refl))))

have_value : (n : ℕ) → n ≤ 99999 → digits_value 10 (five_digits n) ≡ n
have_value n small =
    let a = has_value (n / 10000) (omega (arith, small)) in
    let b = has_value (n / 1000 % 10) (omega arith) in
    let c = has_value (n / 100 % 10) (omega arith) in
    let d = has_value (n / 10 % 10) (omega arith) in
    let e = has_value (n % 10) (omega arith) in
    let sum = digits_sum n in
    omega (arith, a, b, c, d, e, sum)

-- and it is read from them
pub digits_read : (n : ℕ) → n ≤ 99999 → digits_in (five_digits n) ≡ Some n
digits_read n small =
    ap (λ t. cond t (Some (digits_value 10 (five_digits n))) None) (and_from _ _ refl (are_digits n small)) ∙ ap Some (have_value n small)
