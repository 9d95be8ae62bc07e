-- The query of a target: `name=value` pieces with `&` between. Sources: RFC 3986, section 3.4, and Amazon S3 API
-- Reference, "Common request parameters"; what is skipped and what is refused is this profile.
use Rattle.std.specs.Prelude.{ℕ, Bool, not, ◌&&◌, ◌||◌, ◌==◌, if◌then◌else◌, List, length, map, filter, Result, Ok, Err}
use Rattle.std.specs.List.{list_all, list_any, slice_split, before_first, after_first}
use Rattle.std.specs.Str.{bytes_eq}
use Rattle.percent_encoding.specs.Percent.{percent_decode}
use Rattle.gate_base.specs.declared.page.Pair.{Pair}
use Rattle.s3_names.specs.declared.fault.NameFault.{NameFault}
use Rattle.s3_names.specs.declared.fault.NameFault.TheVariants.{NotUtf8, BadEscape}
use Rattle.s3_names.specs.Escapes.{has_bad_escape}
use Rattle.s3_names.specs.Text.{is_text}

abbrev pub is_ampersand : ℕ → Bool
is_ampersand byte = byte == 38

abbrev pub is_equals : ℕ → Bool
is_equals byte = byte == 61

abbrev pub is_filled : List ℕ → Bool
is_filled piece = not (length piece == 0)

-- the texts between the ampersands, those of no byte left out
unfoldable pub pieces : List ℕ → List (List ℕ)
pieces text = filter is_filled (slice_split is_ampersand text)

-- a piece is a name up to its first `=`, or to its end
abbrev pub name_text : List ℕ → List ℕ
name_text piece = before_first is_equals piece

-- and a value behind it, or none
abbrev pub value_text : List ℕ → List ℕ
value_text piece = after_first is_equals piece

abbrev pub pair_of : List ℕ → Pair
pair_of piece = record { name = percent_decode (name_text piece); value = percent_decode (value_text piece) }

abbrev pub has_bad_side : List ℕ → Bool
has_bad_side piece = has_bad_escape (name_text piece) || has_bad_escape (value_text piece)

abbrev pub is_text_pair : Pair → Bool
is_text_pair pair = is_text pair.name && is_text pair.value

-- pairs whose sides are all texts
abbrev pub text_pairs : List Pair → Result (List Pair) NameFault
text_pairs pairs = if list_all is_text_pair pairs then Ok pairs else Err NotUtf8

-- the pairs in the order of the text; a bad escape anywhere goes before what is no text
unfoldable pub query_of : List ℕ → Result (List Pair) NameFault
query_of text = if list_any has_bad_side (pieces text) then Err BadEscape else text_pairs (map pair_of (pieces text))

abbrev pub is_named : List ℕ → Pair → Bool
is_named name pair = bytes_eq pair.name name

-- the pairs of all other names, in their order
abbrev pub without : List ℕ → List Pair → List Pair
without name pairs = filter (λ pair. not (is_named name pair)) pairs
