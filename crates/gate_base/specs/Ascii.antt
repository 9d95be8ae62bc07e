-- Classes of ASCII bytes (RFC 5234, appendix B.1; RFC 9110, section 5.6).
use Rattle.std.specs.Prelude.{ℕ, Bool, ◌&&◌, ◌||◌, ◌==◌, nat_le}

-- `0` to `9`
abbrev pub is_digit : ℕ → Bool
is_digit byte = nat_le 48 byte && nat_le byte 57

-- `0` to `9`, `a` to `f`
abbrev pub is_lower_hex : ℕ → Bool
is_lower_hex byte = is_digit byte || (nat_le 97 byte && nat_le byte 102)

-- `0` to `9`, `A` to `Z`, `a` to `z`
abbrev pub is_letter_or_digit : ℕ → Bool
is_letter_or_digit byte = (nat_le 48 byte && nat_le byte 57) || (nat_le 65 byte && nat_le byte 90) || (nat_le 97 byte && nat_le byte 122)

-- every ASCII byte but the controls and the space
abbrev pub is_visible : ℕ → Bool
is_visible byte = nat_le 33 byte && nat_le byte 126

-- a space or a tab
abbrev pub is_blank : ℕ → Bool
is_blank byte = byte == 32 || byte == 9

abbrev pub is_slash : ℕ → Bool
is_slash byte = byte == 47
