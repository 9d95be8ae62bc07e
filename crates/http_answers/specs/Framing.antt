-- Where an answer ends in the bytes of a connection: its head and its body (RFC 9112, sections 4 to 6, and this profile's limits).
use Rattle.std.specs.Prelude.{◌≡◌, ◌⊎◌, ℕ, ◌+◌, ◌≤◌, Bool, ◌||◌, ◌==◌, nat_le, if◌then◌else◌, List, length, drop, map, codes, Option, Some, None}
use Rattle.gate_base.specs.declared.page.Pair.{Pair}
use Rattle.httparse.specs.Grammar.{ResponseHead, ReadsResponse, NeverHasResponse, print_response, status_code}
use Rattle.http_wire.specs.FirstMessage.{header_of}
use Rattle.http_wire.specs.Headers.{has_header}
use Rattle.http_answers.specs.Fields.{answer_content_length}
use Rattle.http_answers.specs.declared.head.TheConstants.{HEAD_LIMIT}
use Rattle.http_answers.specs.declared.framing.End.{End}
use Rattle.http_answers.specs.declared.framing.End.TheVariants.{More, At, Bad}

-- the bytes begin with the head h, of n bytes, no more than 65,536 (this profile)
abbrev pub HasHead : List ℕ → ResponseHead → ℕ → Type 0
HasHead bytes h n = ReadsResponse bytes h (drop n bytes) × (n ≡ length (print_response h)) × (n ≤ HEAD_LIMIT)

-- the bytes begin with no head of up to 65,536 bytes
abbrev pub HasNoHead : List ℕ → Type 0
HasNoHead bytes = (h : ResponseHead) (n : ℕ) → ¬ (HasHead bytes h n)

-- the headers of a head: names in lower case, values without the white space around them
abbrev pub headers_in : ResponseHead → List Pair
headers_in h = map header_of h.fields

-- an answer that has no body, whatever its length says: to HEAD, and of 204 and 304 (RFC 9112, section 6.3)
abbrev pub is_bodiless : Bool → ℕ → Bool
is_bodiless head status = head || (status == 204 || status == 304)

-- how many bytes of body follow a head; none where the head is refused: with a Transfer-Encoding, or without one length
abbrev pub expected : Bool → ℕ → List Pair → Option ℕ
expected head status headers =
    if has_header (codes "transfer-encoding") headers then None
    else (if is_bodiless head status then Some 0 else answer_content_length headers)

abbrev pub expected_of : Bool → ResponseHead → Option ℕ
expected_of head h = expected head (status_code h) (headers_in h)

-- the bytes begin with a whole answer: a head of n bytes, and the m bytes of body that follow it
abbrev pub BeginsAnswer : Bool → List ℕ → ResponseHead → ℕ → ℕ → Type 0
BeginsAnswer head bytes h n m = HasHead bytes h n × (expected_of head h ≡ Some m) × (n + m ≤ length bytes)

-- the bytes are one whole answer and no more
abbrev pub IsAnswer : Bool → List ℕ → ResponseHead → ℕ → ℕ → Type 0
IsAnswer head bytes h n m = HasHead bytes h n × (expected_of head h ≡ Some m) × (length bytes ≡ n + m)

-- no answer can come of the bytes: they hold no whole head, and none can come or 65,536 bytes hold none; or their head is refused
abbrev pub IsHopeless : Bool → List ℕ → Type 0
IsHopeless head bytes =
    (HasNoHead bytes × (NeverHasResponse bytes ⊎ (HEAD_LIMIT ≤ length bytes)))
    ⊎ ((h : ResponseHead) × (n : ℕ) × HasHead bytes h n × (expected_of head h ≡ None))

-- where the first answer ends
abbrev pub Ends : Bool → List ℕ → End → Type 0
Ends head bytes (At end) = (h : ResponseHead) × (n m : ℕ) × BeginsAnswer head bytes h n m × (end ≡ n + m)
Ends head bytes Bad = IsHopeless head bytes
Ends head bytes More = ((h : ResponseHead) (n m : ℕ) → ¬ (BeginsAnswer head bytes h n m)) × ¬ (IsHopeless head bytes)

-- where an answer ends of which so many bytes are there, with a head of len bytes and a body of this length
abbrev pub answer_end_by : ℕ → ℕ → Option ℕ → End
answer_end_by have len None = Bad
answer_end_by have len (Some size) = if nat_le (len + size) have then At (len + size) else More
