-- Texts that are kept as the value of a header, without a space at either end (RFC 9110, section 5.5; visible ASCII alone, this profile).
use Rattle.std.specs.Prelude.{ℕ, ◌-◌, Bool, not, ◌&&◌, nat_le, nat_eq, List, length, slice_index}
use Rattle.std.specs.List.{list_all}

-- visible ASCII or a space
abbrev pub is_printable : ℕ → Bool
is_printable byte = nat_le 32 byte && nat_le byte 126

-- 1 to so many bytes of visible ASCII and spaces, no space at either end
abbrev pub is_field : ℕ → List ℕ → Bool
is_field most text =
    nat_le 1 (length text) && nat_le (length text) most && list_all is_printable text
    && not (nat_eq (slice_index text 0) 32) && not (nat_eq (slice_index text (length text - 1)) 32)
