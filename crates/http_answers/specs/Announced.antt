-- What the head of an answer announces: its own length, that of the body behind it, and whether the connection may serve
-- another exchange. Source: RFC 9112, sections 6 and 9.
use Rattle.std.specs.Prelude.{◌≡◌, ℕ, Bool, not, ◌||◌, List, codes, bytes_eq, map, Some}
use Rattle.std.specs.List.{list_all}
use Rattle.std.specs.Char.{to_ascii_lowercase}
use Rattle.gate_base.specs.declared.page.Pair.{Pair}
use Rattle.httparse.specs.Grammar.{ResponseHead}
use Rattle.http_wire.specs.Headers.{has_name}
use Rattle.http_answers.specs.Framing.{HasHead, HasNoHead, expected_of, headers_in, IsHopeless}
use Rattle.http_answers.specs.declared.announced.Announced.{Announced}
use Rattle.http_answers.specs.declared.announced.Announced.TheVariants.{More, Answer, Bad}

-- the header says nothing against another exchange (RFC 9112, section 9.6)
abbrev pub answer_header_keeps_connection : Pair → Bool
answer_header_keeps_connection header = not (has_name (codes "connection") header) || bytes_eq (map to_ascii_lowercase header.value) (codes "keep-alive")

abbrev pub stays_open : List Pair → Bool
stays_open headers = list_all answer_header_keeps_connection headers

-- what the bytes that came so far announce
abbrev pub Announces : Bool → List ℕ → Announced → Type 0
Announces head bytes More = HasNoHead bytes × ¬ (IsHopeless head bytes)
Announces head bytes (Answer size body stays) =
    (h : ResponseHead) × HasHead bytes h size × (expected_of head h ≡ Some body) × (stays ≡ stays_open (headers_in h))
Announces head bytes Bad = IsHopeless head bytes
