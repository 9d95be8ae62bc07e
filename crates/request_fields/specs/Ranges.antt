-- What a Range header asks for. Source: RFC 9110, sections 14.1.1, 14.1.2 and 14.2: `bytes=first-last`, `bytes=first-` and
-- `bytes=-length`. A header of another form is ignored, as section 14.2 allows: one with another unit, with several ranges,
-- with a blank, with a first byte behind the last, or with a number of more than 18 digits.
use Rattle.std.specs.Prelude.{◌≡◌, ℕ, Bool, ◌==◌, ◌≤◌, nat_eq, nat_le, if◌then◌else◌, List, [], ◌∷◌, ◌++◌, drop, codes, Option, Some, None, option_map}
use Rattle.std.specs.List.{list_any, starts_with, before_first, after_first}
use Rattle.gate_base.specs.declared.page.Pair.{Pair}
use Rattle.http_wire.specs.Headers.{text_of}
use Rattle.s3_machine.specs.declared.reading.Range.{Range}
use Rattle.s3_machine.specs.declared.reading.Range.TheVariants.{FromTo, From, Last}
use Rattle.text_forms.specs.Numbers.{number_of}

abbrev pub is_dash : ℕ → Bool
is_dash byte = byte == 45

-- the number of a place, or of a length
abbrev pub place_of : List ℕ → Option ℕ
place_of text = number_of 18 text

-- from one byte to another that isn't before it
abbrev pub between : Option ℕ → Option ℕ → Option Range
between (Some first) (Some last) = if nat_le first last then Some (FromTo first last) else None
between (Some first) None = None
between None last = None

-- the range of the texts before and behind the dash
abbrev pub range_by : List ℕ → List ℕ → Option Range
range_by [] last = option_map Last (place_of last)
range_by (digit ∷ first) [] = option_map From (place_of (digit ∷ first))
range_by (digit ∷ first) (other ∷ last) = between (place_of (digit ∷ first)) (place_of (other ∷ last))

-- that of the text behind `bytes=`: the first dash parts it
abbrev pub range_behind : List ℕ → Option Range
range_behind text = if list_any is_dash text then range_by (before_first is_dash text) (after_first is_dash text) else None

-- the range that the value of the header asks for, if it asks for one
unfoldable pub range_of : List ℕ → Option Range
range_of text = if starts_with nat_eq text (codes "bytes=") then range_behind (drop 6 text) else None

-- that of a request. Values of several headers are joined by a comma, which no range has
abbrev pub given_range : List Pair → Option Range
given_range headers = range_of (text_of (codes "range") headers)

-- the same as a relation between a range and the whole text of the header
abbrev pub AsksFor : List ℕ → Range → Type 0
AsksFor text (FromTo first last) =
    (a : List ℕ) × (b : List ℕ) × (text ≡ codes "bytes=" ++ a ++ codes "-" ++ b) × (place_of a ≡ Some first) × (place_of b ≡ Some last) × (first ≤ last)
AsksFor text (From first) = (a : List ℕ) × (text ≡ codes "bytes=" ++ a ++ codes "-") × (place_of a ≡ Some first)
AsksFor text (Last length) = (b : List ℕ) × (text ≡ codes "bytes=-" ++ b) × (place_of b ≡ Some length)
