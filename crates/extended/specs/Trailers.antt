-- The trailers that a message announces and those that came. Source: Amazon S3 API Reference, as in `Chunks`, "including trailing
-- headers"; a list of names is RFC 9110, section 5.6.1.
use Rattle.std.specs.Prelude.{ℕ, Bool, not, ◌&&◌, ◌||◌, ◌==◌, List, [], map, codes, bytes_eq}
use Rattle.std.specs.Char.{to_ascii_lowercase}
use Rattle.std.specs.List.{list_any, slice_split}
use Rattle.gate_base.specs.declared.page.Pair.{Pair}
use Rattle.text_forms.specs.Blanks.{without_blanks}
use Rattle.http_wire.specs.Headers.{text_of}

abbrev pub is_comma : ℕ → Bool
is_comma byte = byte == 44

-- a piece between commas names this name: in any case, with blanks around it
unfoldable pub names : List ℕ → List ℕ → Bool
names piece name = bytes_eq (map to_ascii_lowercase (without_blanks piece)) (map to_ascii_lowercase name)

-- the text of the list of trailers
abbrev pub trailer_list : List Pair → List ℕ
trailer_list headers = text_of (codes "x-amz-trailer") headers

-- some trailer has the name of the piece
abbrev pub has_come : List Pair → List ℕ → Bool
has_come trailers piece = list_any (λ trailer. names piece trailer.name) trailers

-- a piece names a trailer that didn't come; an empty piece names none
abbrev pub is_missing : List Pair → List ℕ → Bool
is_missing trailers piece = not (names piece []) && not (has_come trailers piece)

-- one of them does
abbrev pub has_missing : List ℕ → List Pair → Bool
has_missing text trailers = list_any (is_missing trailers) (slice_split is_comma text)

-- some piece names the trailer
abbrev pub is_named : List ℕ → Pair → Bool
is_named text trailer = list_any (λ piece. names piece trailer.name) (slice_split is_comma text)

-- there is a trailer that no piece names
abbrev pub has_unnamed : List ℕ → List Pair → Bool
has_unnamed text trailers = list_any (λ trailer. not (is_named text trailer)) trailers

-- the trailers aren't those that the list names
abbrev pub misnames : List ℕ → List Pair → Bool
misnames text trailers = has_missing text trailers || has_unnamed text trailers
