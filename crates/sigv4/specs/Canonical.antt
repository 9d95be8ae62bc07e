-- The canonical request. Source: Amazon S3 API Reference, "Authenticating requests: using the Authorization header",
-- task 1; that runs of spaces become one is of the AWS General Reference, "Create a canonical request".
use Rattle.std.specs.Prelude.{ℕ, Bool, true, false, not, ◌&&◌, ◌==◌, if◌then◌else◌, List, [], ◌∷◌, ◌++◌, map, fold, insert, reverse, flat_map}
use Rattle.std.specs.List.{join_with_byte, position_or_len}
use Rattle.std.specs.Cmp.Lexicographic.{slice_cmp}
use Rattle.std.specs.Ordering.{nat_cmp, is_lt, ordering_then}
use Rattle.std.specs.declared.cmp.Ordering.{Ordering}
use Rattle.gate_base.specs.Ascii.{is_blank}
use Rattle.gate_base.specs.declared.page.Pair.{Pair}
use Rattle.s3_names.specs.Escapes.{escaped_all, escaped_path}
use Rattle.s3_names.specs.declared.target.Target.{Target}
use Rattle.http_wire.specs.Headers.{values_of}
use Rattle.http_wire.specs.declared.message.Message.{Message}

-- the text from its first byte that isn't blank
unfoldable pub skip_blanks : List ℕ → List ℕ
skip_blanks [] = []
skip_blanks (byte ∷ text) = if is_blank byte then skip_blanks text else byte ∷ text

-- the text up to its last byte that isn't blank
abbrev pub trim_canonical_end : List ℕ → List ℕ
trim_canonical_end text = reverse (skip_blanks (reverse text))

abbrev pub begins_with_canonical_space : List ℕ → Bool
begins_with_canonical_space [] = false
begins_with_canonical_space (byte ∷ text) = byte == 32

-- each run of spaces made one
unfoldable pub single_spaced : List ℕ → List ℕ
single_spaced [] = []
single_spaced (byte ∷ text) = if byte == 32 && begins_with_canonical_space text then single_spaced text else byte ∷ single_spaced text

-- the value of a header without the blanks around it
abbrev pub clean_header_value : List ℕ → List ℕ
clean_header_value value = single_spaced (trim_canonical_end (skip_blanks value))

-- the values of all headers of a name, in their order; no header is the empty value
abbrev pub canonical_value : List Pair → List ℕ → List ℕ
canonical_value headers name = join_with_byte 44 (map clean_header_value (values_of name headers))

-- name ":" value LF
abbrev pub canonical_header : List Pair → List ℕ → List ℕ
canonical_header headers name = name ++ 58 ∷ [] ++ canonical_value headers name ++ 10 ∷ []

abbrev pub canonical_headers : List Pair → List (List ℕ) → List ℕ
canonical_headers headers names = flat_map (canonical_header headers) names

abbrev pub escaped_pair : Pair → Pair
escaped_pair pair = record { name = escaped_all pair.name; value = escaped_all pair.value }

-- by the name, and then by the value
abbrev pub pair_cmp : Pair → Pair → Ordering
pair_cmp pair other = ordering_then (slice_cmp nat_cmp pair.name other.name) (slice_cmp nat_cmp pair.value other.value)

-- the first place whose pair stands behind this one
abbrev pub place_of : Pair → List Pair → ℕ
place_of pair pairs = position_or_len (λ other. is_lt (pair_cmp pair other)) pairs

abbrev pub placed : List Pair → Pair → List Pair
placed pairs pair = insert pairs (place_of pair pairs) pair

-- the pairs in order: by a law of this crate the only list in order with these pairs
unfoldable pub ordered : List Pair → List Pair
ordered pairs = fold placed [] pairs

-- no pair stands behind the next one
unfoldable pub is_ordered : List Pair → Bool
is_ordered [] = true
is_ordered (pair ∷ []) = true
is_ordered (pair ∷ next ∷ pairs) = not (is_lt (pair_cmp next pair)) && is_ordered (next ∷ pairs)

-- name "=" value
abbrev pub pair_text : Pair → List ℕ
pair_text pair = pair.name ++ 61 ∷ [] ++ pair.value

-- the pairs are ordered as they are escaped
abbrev pub canonical_query : List Pair → List ℕ
canonical_query pairs = join_with_byte 38 (map pair_text (ordered (map escaped_pair pairs)))

-- a request of this method, path, query and headers as it is signed, with these names signed and this hash of its body
unfoldable pub canonical_of : List ℕ → List ℕ → List Pair → List Pair → List (List ℕ) → List ℕ → List ℕ
canonical_of method path query headers names payload = join_with_byte 10
    (method ∷ escaped_path path ∷ canonical_query query ∷ canonical_headers headers names ∷ join_with_byte 59 names ∷ payload ∷ [])

-- the same of a message and its target
unfoldable pub canonical_text : Message → Target → List (List ℕ) → List ℕ → List ℕ
canonical_text message target names payload = canonical_of message.method target.path target.query message.headers names payload
