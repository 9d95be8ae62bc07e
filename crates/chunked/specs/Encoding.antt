-- The header Content-Encoding of a body that came in chunks. Source: Amazon S3 API Reference, as in `Forms`: `aws-chunked` is no
-- encoding of what is stored; a list of tokens is RFC 9110, section 5.6.1.
use Rattle.std.specs.Prelude.{ℕ, Bool, ◌==◌, if◌then◌else◌, List, [], ◌∷◌, drop, map, flat_map, codes, bytes_eq}
use Rattle.std.specs.Char.{to_ascii_lowercase}
use Rattle.std.specs.List.{slice_split}
use Rattle.text_forms.specs.Blanks.{without_blanks}

abbrev pub is_comma : ℕ → Bool
is_comma byte = byte == 44

-- the token in any case, with blanks around it
abbrev pub is_chunked_token : List ℕ → Bool
is_chunked_token piece = bytes_eq (map to_ascii_lowercase (without_blanks piece)) (codes "aws-chunked")

-- a comma and the piece, unless it is the token
abbrev pub kept_piece : List ℕ → List ℕ
kept_piece piece = if is_chunked_token piece then [] else 44 ∷ piece

-- the pieces between the commas that aren't the token, as they were, with a comma between each two, and no blanks at the ends
unfoldable pub without_chunked : List ℕ → List ℕ
without_chunked text = without_blanks (drop 1 (flat_map kept_piece (slice_split is_comma text)))
