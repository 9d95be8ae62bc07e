-- The tests for bytes that end inside a target, and for an empty line among them, as they go over them.
use Rattle.std.specs.Prelude.{ℕ, Bool, false, not, ◌&&◌, ◌||◌, ◌==◌, nat_lt, List, [], ◌∷◌, drop, if◌then◌else◌}
use Rattle.std.specs.List.{list_all}
use Rattle.httparse.specs.Ascii.{line_feed, carriage_return, space}
use Rattle.httparse.specs.Grammar.{is_token_byte}
use Rattle.http_wire.specs.FirstMessage.{stays_in_target}

-- the first byte is LF
abbrev pub starts_lf : List ℕ → Bool
starts_lf [] = false
starts_lf (b ∷ bytes) = b == line_feed

-- how long the line end is that stands first; 0 for none
abbrev pub line_end_len : List ℕ → ℕ
line_end_len [] = 0
line_end_len (b ∷ bytes) =
    if b == line_feed then 1 else (if (b == carriage_return) && starts_lf bytes then 2 else 0)

-- the bytes after the empty lines
unfoldable pub skip_blank : List ℕ → List ℕ
skip_blank [] = []
skip_blank (b ∷ []) = if b == line_feed then [] else b ∷ []
skip_blank (b ∷ c ∷ bytes) =
    if b == line_feed then skip_blank (c ∷ bytes) else (
    if (b == carriage_return) && (c == line_feed) then skip_blank bytes else b ∷ c ∷ bytes)

-- inside a method or behind it: the bytes go on with token bytes, a space and a target so far
unfoldable pub in_method : List ℕ → Bool
in_method [] = false
in_method (b ∷ bytes) = if b == space then list_all stays_in_target bytes else is_token_byte b && in_method bytes

-- the same, where the method has a byte at least
abbrev pub starts_method : List ℕ → Bool
starts_method [] = false
starts_method (b ∷ bytes) = is_token_byte b && in_method bytes

abbrev pub is_inside : List ℕ → Bool
is_inside bytes = starts_method (skip_blank bytes)

-- a byte of a line, and not of its end
abbrev pub is_text : ℕ → Bool
is_text b = not (b == carriage_return) && not (b == line_feed)

-- a line ends here, and an empty one comes behind it
abbrev pub starts_empty : List ℕ → Bool
starts_empty bytes = nat_lt 0 (line_end_len bytes) && nat_lt 0 (line_end_len (drop (line_end_len bytes) bytes))

-- somewhere an empty line comes behind one that isn't
unfoldable pub has_empty : List ℕ → Bool
has_empty [] = false
has_empty (b ∷ bytes) = (is_text b && starts_empty bytes) || has_empty bytes
