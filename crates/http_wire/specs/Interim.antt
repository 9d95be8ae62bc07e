-- The interim line of 100 Continue: when it is owed, and what of it is sent (RFC 9110, sections 10.1.1 and 15.2.1, and this profile).
use Rattle.std.specs.Prelude.{◌≡◌, ◌⊎◌, ℕ, nat_lt, Bool, true, false, not, ◌&&◌, List, [], ◌∷◌, ◌++◌, take, map, codes, bytes_eq, Result, Ok, Err}
use Rattle.std.specs.List.{list_any}
use Rattle.std.specs.Char.{to_ascii_lowercase}
use Rattle.gate_base.specs.declared.page.Pair.{Pair}
use Rattle.gate_base.specs.declared.outside.Piece.{Piece}
use Rattle.gate_base.specs.Transcript.{Transcript}
use Rattle.httparse.specs.Ascii.{crlf_bytes}
use Rattle.httparse.specs.Grammar.{RequestHead}
use Rattle.http_wire.specs.declared.message.Kind.{Kind}
use Rattle.http_wire.specs.declared.message.Kind.TheVariants.{ShortBody}
use Rattle.http_wire.specs.declared.message.Message.{Message}
use Rattle.http_wire.specs.declared.message.ReadFault.{ReadFault}
use Rattle.http_wire.specs.declared.message.ReadFault.TheVariants.{Failed, Memory}
use Rattle.http_wire.specs.Headers.{has_name}
use Rattle.http_wire.specs.FirstMessage.{FirstMessage, HasHead, asks, nothing, cut_short, refused, judge, message_of}

-- HTTP/1.1 100 Continue, and no header (RFC 9112, sections 2.1 and 4)
abbrev pub interim_line : List ℕ
interim_line = codes "HTTP/1.1 100 Continue" ++ crlf_bytes ++ crlf_bytes

-- ---- when it is owed

-- the header asks for it: its whole value is `100-continue`, in any case (RFC 9110, section 10.1.1). A list isn't that
-- (this profile)
abbrev pub is_expecting : Pair → Bool
is_expecting header = has_name (codes "expect") header && bytes_eq (map to_ascii_lowercase header.value) (codes "100-continue")

-- a message is owed it where its head is accepted, its version isn't HTTP/1.0, some header asks for it, and a body follows
abbrev pub owed_by : Message → Result ℕ Kind → Bool
owed_by message (Ok size) = not message.old && (list_any is_expecting message.headers && nat_lt 0 size)
owed_by message (Err kind) = false

-- whether a message is owed it, by the limit of a body. Its body itself doesn't matter
abbrev pub is_owed : ℕ → Message → Bool
is_owed limit message = owed_by message (judge limit message)

-- it is owed for what the bytes begin with: a whole head whose message is owed it, whether its body comes or not
abbrev pub OwesInterim : ℕ → List ℕ → Type 0
OwesInterim limit bytes = (h : RequestHead) × (n : ℕ) × HasHead bytes h n × (is_owed limit (message_of h) ≡ true)

-- the same, by cases of what the bytes begin with: a request says so itself, and where the body ends early its head does
abbrev pub IsOwedFirst : ℕ → List ℕ → FirstMessage → Type 0
IsOwedFirst limit bytes (asks message size) = is_owed limit message ≡ true
IsOwedFirst limit bytes nothing = ⊥
IsOwedFirst limit bytes cut_short = ⊥
IsOwedFirst limit bytes (refused kind head) = (kind ≡ ShortBody) × OwesInterim limit bytes

-- ---- what is sent, where it is owed if P holds, on a connection when the store has counted so many calls

abbrev pub piece_on : ℕ → ℕ → List ℕ → Piece
piece_on connection at bytes = record { connection = connection; at = at; bytes = bytes }

-- it was sent exactly where it is owed, and nothing else
abbrev pub SendsInterim : Type 0 → ℕ → ℕ → List Piece → List Piece → Type 0
SendsInterim P connection at old new = (P × (new ≡ old ++ piece_on connection at interim_line ∷ [])) ⊎ (¬ P × (new ≡ old))

-- nothing was sent, or the line where it is owed
abbrev pub MaySendInterim : Type 0 → ℕ → ℕ → List Piece → List Piece → Type 0
MaySendInterim P connection at old new = (new ≡ old) ⊎ (P × (new ≡ old ++ piece_on connection at interim_line ∷ []))

-- nothing was sent, or first bytes of the line where it is owed: some, none or all
abbrev pub CutsInterim : Type 0 → ℕ → ℕ → List Piece → List Piece → Type 0
CutsInterim P connection at old new = (new ≡ old) ⊎ (P × (n : ℕ) × (new ≡ old ++ piece_on connection at (take n interim_line) ∷ []))

-- the same of a call that reads a request, where it failed
abbrev pub SendsOnFault : Type 0 → ℕ → Transcript → ReadFault → Transcript → Type 0
SendsOnFault P at old Memory new = MaySendInterim P old.begun at old.sent new.sent
SendsOnFault P at old Failed new = CutsInterim P old.begun at old.sent new.sent

-- and however it ended
abbrev pub SendsOn : {A : Type 0} → Type 0 → ℕ → Transcript → Result A ReadFault → Transcript → Type 0
SendsOn P at old (Ok got) new = SendsInterim P old.begun at old.sent new.sent
SendsOn P at old (Err fault) new = SendsOnFault P at old fault new
