-- Texts that a reply can carry.
use Rattle.std.specs.Prelude.{ℕ, Bool, not, ◌&&◌, ◌==◌, List}
use Rattle.std.specs.List.{list_any}
use Rattle.std.specs.Str.{is_utf8}

abbrev pub has_zero : List ℕ → Bool
has_zero bytes = list_any (λ byte. byte == 0) bytes

-- UTF-8 without byte 0
abbrev pub is_text : List ℕ → Bool
is_text bytes = is_utf8 bytes && not (has_zero bytes)
