-- The bytes of a reply (RFC 9112, sections 2, 3, 4 and 5; Content-Length as in RFC 9110, section 8.6; and this profile).
use Rattle.std.specs.Prelude.{
  ℕ,
  Bool,
  true,
  false,
  ◌||◌,
  ◌==◌,
  List,
  [],
  ◌∷◌,
  ◌++◌,
  length,
  map,
  codes,
  decimal,
  bytes_eq,
  unwrap_or,
  if◌then◌else◌,
  IsTrue,
  flat_map,
}
use Rattle.std.specs.List.{list_any}
use Rattle.std.specs.Char.{to_ascii_lowercase}
use Rattle.gate_base.specs.declared.page.Pair.{Pair}
use Rattle.gate_base.specs.declared.page.Page.{Page}
use Rattle.http.specs.StatusCode.{reason_phrase}
use Rattle.httparse.specs.Ascii.{crlf_bytes}
use Rattle.http_wire.specs.FirstMessage.{is_head}

-- the statuses of this profile's replies
abbrev pub reply_statuses : List ℕ
reply_statuses = 200 ∷ 204 ∷ 206 ∷ 304 ∷ 400 ∷ 403 ∷ 404 ∷ 405 ∷ 409 ∷ 411 ∷ 412 ∷ 416 ∷ 500 ∷ 501 ∷ 503 ∷ []

-- one of them
abbrev pub IsReplyStatus : ℕ → Type 0
IsReplyStatus status = IsTrue (list_any (λ s. status == s) reply_statuses)

-- a reply of this status has no body and no length (RFC 9112, section 6.3; RFC 9110, section 8.6)
abbrev pub is_bodiless : ℕ → Bool
is_bodiless status = (status == 204) || (status == 304)

-- the phrase that goes with a status (RFC 9110, section 15)
abbrev pub phrase_of : ℕ → List ℕ
phrase_of status = unwrap_or (reason_phrase status) []

-- HTTP/1.1 SP status SP phrase CR LF (RFC 9112, section 4)
abbrev pub status_line : ℕ → List ℕ
status_line status = codes "HTTP/1.1 " ++ decimal status ++ codes " " ++ phrase_of status ++ crlf_bytes

-- name ": " value CR LF (RFC 9112, section 5)
abbrev pub header_line : Pair → List ℕ
header_line header = header.name ++ codes ": " ++ header.value ++ crlf_bytes

-- the header's name is Content-Length, in any case
abbrev pub is_printed_content_length : Pair → Bool
is_printed_content_length header = bytes_eq (map to_ascii_lowercase header.name) (codes "content-length")

-- the length of the body, where the status has one and the page doesn't give it
abbrev pub length_line : Page → List ℕ
length_line page =
    if is_bodiless page.status || list_any is_printed_content_length page.headers then []
    else codes "Content-Length: " ++ decimal (length page.body) ++ crlf_bytes

-- the connection ends after the reply (RFC 9112, section 9.6)
abbrev pub closing_line : Bool → List ℕ
closing_line closing = if closing then codes "Connection: close" ++ crlf_bytes else []

-- a reply to HEAD has the head of the same reply to GET, and no body (RFC 9110, section 9.3.2)
abbrev pub sent_body : Page → List ℕ → List ℕ
sent_body page method = if is_bodiless page.status || is_head method then [] else page.body

-- all bytes of a page that answers a request of that method
abbrev pub page_text : Page → List ℕ → Bool → List ℕ
page_text page method closing =
    status_line page.status ++ flat_map header_line page.headers ++ length_line page ++ closing_line closing ++ crlf_bytes
    ++ sent_body page method

-- the body of the out-of-memory reply
abbrev pub memory_body : List ℕ
memory_body = codes "<Error><Code>InternalError</Code><Message>Memory</Message></Error>"

-- the out-of-memory reply, which closes the connection; the argument says whether the method is HEAD (this profile)
abbrev pub memory_reply : Bool → List ℕ
memory_reply false =
    codes "HTTP/1.1 500 Internal Server Error" ++ crlf_bytes ++ codes "Content-Type: application/xml" ++ crlf_bytes
    ++ codes "Content-Length: 66" ++ crlf_bytes ++ codes "Connection: close" ++ crlf_bytes ++ crlf_bytes ++ memory_body
memory_reply true =
    codes "HTTP/1.1 500 Internal Server Error" ++ crlf_bytes ++ codes "Content-Length: 0" ++ crlf_bytes
    ++ codes "Connection: close" ++ crlf_bytes ++ crlf_bytes

-- the reply to a client whose body came too slowly, which closes the connection: the code and the message of RequestTimeout (this profile)
abbrev pub slow_reply : List ℕ
slow_reply =
    codes "HTTP/1.1 400 Bad Request" ++ crlf_bytes ++ codes "Content-Type: application/xml" ++ crlf_bytes
    ++ codes "Content-Length: 86" ++ crlf_bytes ++ codes "Connection: close" ++ crlf_bytes ++ crlf_bytes
    ++ codes "<Error><Code>RequestTimeout</Code><Message>The body came too slowly.</Message></Error>"
