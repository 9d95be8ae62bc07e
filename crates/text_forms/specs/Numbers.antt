-- Numbers in decimal, as headers, queries, bodies and command lines have them. Source: RFC 9110, section 14.1.2 (1*DIGIT); how
-- many digits are read is this profile's.
use Rattle.std.specs.Prelude.{ℕ, Bool, ◌&&◌, nat_le, if◌then◌else◌, List, length, Option, Some, None}
use Rattle.std.specs.List.{list_all}
use Rattle.std.specs.Str.Parse.{digits_value}
use Rattle.gate_base.specs.Ascii.{is_digit}

-- at least one digit, at most so many, and nothing else
abbrev pub is_number : ℕ → List ℕ → Bool
is_number most text = nat_le 1 (length text) && nat_le (length text) most && list_all is_digit text

-- the number that they write, leading zeros among them; none for every other text
unfoldable pub number_of : ℕ → List ℕ → Option ℕ
number_of most text = if is_number most text then Some (digits_value 10 text) else None
