-- Whether a request asks that the connection ends after its reply. Source: RFC 9112 section 9.3 and RFC 9110
-- section 7.6.1.
use Rattle.std.specs.Prelude.{ℕ, Bool, ◌||◌, ◌==◌, List, map, codes, bytes_eq}
use Rattle.std.specs.Char.{to_ascii_lowercase}
use Rattle.std.specs.List.{list_any, slice_split}
use Rattle.http_wire.specs.declared.message.Message.{Message}
use Rattle.http_wire.specs.Headers.{values_of}
use Rattle.text_forms.specs.Blanks.{without_blanks}

-- the word `close` in any case, with blanks around it
abbrev pub is_close : List ℕ → Bool
is_close piece = bytes_eq (map to_ascii_lowercase (without_blanks piece)) (codes "close")

abbrev pub is_comma : ℕ → Bool
is_comma byte = byte == 44

-- one of the pieces between commas is that word
abbrev pub has_close : List ℕ → Bool
has_close value = list_any is_close (slice_split is_comma value)

-- an HTTP/1.0 request, or one whose Connection header has that word
abbrev pub is_closing : Message → Bool
is_closing message = message.old || list_any has_close (values_of (codes "connection") message.headers)
