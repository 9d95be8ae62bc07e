-- The metadata that the gateway keeps, and what a store takes as a field (Amazon S3 User Guide, "Working with object
-- metadata"; Object Storage API v1; the figures are this profile's).
use Rattle.std.specs.Prelude.{ℕ, ◌+◌, Bool, ◌&&◌, ◌==◌, nat_le, if◌then◌else◌, List, [], ◌∷◌, length, sum_by}
use Rattle.std.specs.List.{list_all}
use Rattle.gate_base.specs.Fields.{is_printable}
use Rattle.gate_base.specs.declared.page.Pair.{Pair}

-- what counts of a name: a user's own name begins with `-`, which does not
abbrev pub counted_name : List ℕ → List ℕ
counted_name [] = []
counted_name (byte ∷ name) = if byte == 45 then name else byte ∷ name

abbrev pub counted_size : Pair → ℕ
counted_size entry = length (counted_name entry.name) + length entry.value

-- at most 64 entries, and 2048 bytes of names and values
abbrev pub is_within_limits : List Pair → Bool
is_within_limits entries = nat_le (length entries) 64 && nat_le (sum_by counted_size entries) 2048

-- a name and a value of visible ASCII and spaces
abbrev pub is_printable_entry : Pair → Bool
is_printable_entry entry = list_all is_printable entry.name && list_all is_printable entry.value

-- metadata within the limits, of visible ASCII and spaces
abbrev pub is_kept_metadata : List Pair → Bool
is_kept_metadata entries = is_within_limits entries && list_all is_printable_entry entries
