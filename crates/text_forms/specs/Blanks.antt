-- A text without the blanks at its ends. Source: RFC 9110, section 5.6.3, optional whitespace.
use Rattle.std.specs.Prelude.{ℕ, ◌-◌, List, take, drop, length}
use Rattle.std.specs.List.{prefix_len, suffix_len}
use Rattle.gate_base.specs.Ascii.{is_blank}

-- the text behind the blanks at its start, and the text before those at its end
abbrev pub behind_blanks : List ℕ → List ℕ
behind_blanks text = drop (prefix_len is_blank text) text

abbrev pub before_blanks : List ℕ → List ℕ
before_blanks text = take (length text - suffix_len is_blank text) text

abbrev pub without_blanks : List ℕ → List ℕ
without_blanks text = before_blanks (behind_blanks text)
