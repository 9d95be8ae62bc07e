-- A text without the double quotes at its ends. Source: RFC 9110, section 8.8.3, the quotes of an entity tag.
use Rattle.std.specs.Prelude.{ℕ, Bool, ◌&&◌, ◌==◌, ◌-◌, nat_le, if◌then◌else◌, List, length, slice_index, slice_range}

-- the text has a double quote at each end, and these aren't the same
abbrev pub is_quoted : List ℕ → Bool
is_quoted text = nat_le 2 (length text) && (slice_index text 0 == 34 && slice_index text (length text - 1) == 34)

-- the text without its quotes, if it has them
abbrev pub without_quotes : List ℕ → List ℕ
without_quotes text = if is_quoted text then slice_range text 1 (length text - 1) else text
