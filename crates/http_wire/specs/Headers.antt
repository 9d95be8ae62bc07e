-- The headers of a message, looked up by their names, which a message has in lower case; and the header that a span
-- gives. Source: RFC 9110, sections 5.1 to 5.3.
use Rattle.std.specs.Prelude.{ℕ, Bool, ◌==◌, List, [], map, filter, count_by, find, bytes_eq}
use Rattle.std.specs.List.{list_any, join_with_byte}
use Rattle.std.specs.Char.{to_ascii_lowercase}
use Rattle.std.specs.Option.{option_map_or}
use Rattle.gate_base.specs.declared.page.Pair.{Pair}
use Rattle.httparse.specs.declared.spans.HeaderSpan.{HeaderSpan}
use Rattle.httparse.specs.Spans.{span_bytes}

abbrev pub value_of : Pair → List ℕ
value_of header = header.value

-- the header has this name, byte by byte; a message has its names in lower case
abbrev pub has_name : List ℕ → Pair → Bool
has_name name header = bytes_eq header.name name

-- some header has the name
abbrev pub has_header : List ℕ → List Pair → Bool
has_header name headers = list_any (has_name name) headers

-- exactly one header has the name
abbrev pub has_single_header : List ℕ → List Pair → Bool
has_single_header name headers = count_by (has_name name) headers == 1

-- the value of the first header of the name, no byte where there is none
abbrev pub first_value : List ℕ → List Pair → List ℕ
first_value name headers = option_map_or value_of (find (has_name name) headers) []

-- the values of the headers of a name, in order
abbrev pub values_of : List ℕ → List Pair → List (List ℕ)
values_of name headers = map value_of (filter (has_name name) headers)

-- the same as one text, with `,` between each two; no byte where there is none
abbrev pub text_of : List ℕ → List Pair → List ℕ
text_of name headers = join_with_byte 44 (values_of name headers)

-- the header that a span covers, its name in lower case
abbrev pub header_at : List ℕ → HeaderSpan → Pair
header_at bytes span = record { name = map to_ascii_lowercase (span_bytes bytes span.name); value = span_bytes bytes span.value }
