-- Lines of a log are plain text. Source: this profile.
use Rattle.std.specs.Prelude.{◌≡◌, ◌&&◌, ◌||◌, ℕ, nat_le, Bool, true, List}
use Rattle.std.specs.List.{list_all}
use Rattle.gate_base.specs.Fields.{is_printable}

-- every byte is visible ASCII or a space
abbrev pub IsPlain : List ℕ → Type 0
IsPlain text = list_all is_printable text ≡ true

-- a text that was plain is so still
abbrev pub StaysPlain : List ℕ → List ℕ → Type 0
StaysPlain old new = IsPlain old → IsPlain new

-- `A` to `Z`, `a` to `z`
abbrev pub is_letter : ℕ → Bool
is_letter byte = (nat_le 65 byte && nat_le byte 90) || (nat_le 97 byte && nat_le byte 122)
