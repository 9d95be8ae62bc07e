-- What stands first in the bytes that are left of a connection: a request, nothing, a head that was cut short, or what is
-- refused (RFC 9112, sections 2, 3, 5 and 6, and this profile's limits). Each is said of the whole list of these bytes, and takes
-- the most bytes that a body may have.
use Rattle.std.specs.Prelude.{◌≡◌, ℕ, ◌+◌, ◌<◌, ◌≤◌, min, nat_lt, Bool, false, not, ◌&&◌, ◌==◌, if◌then◌else◌}
use Rattle.std.specs.Prelude.{List, [], ◌∷◌, ◌++◌, length, take, drop, map, codes, bytes_eq, Result, Ok, Err}
use Rattle.std.specs.Char.{to_ascii_lowercase}
use Rattle.std.specs.Str.Parse.{digits_value}
use Rattle.gate_base.specs.declared.page.Pair.{Pair}
use Rattle.http_wire.specs.declared.judge.TheConstants.{MOST_BODY_LIMIT}
use Rattle.http_wire.specs.declared.advance.TheConstants.{HEAD_LIMIT}
use Rattle.http_wire.specs.declared.message.Message.{Message}
use Rattle.http_wire.specs.declared.message.Kind.{Kind}
use Rattle.http_wire.specs.declared.message.Kind.TheVariants.{BadHead, LongHead, ManyHeaders, NoLength, BadLength, LongBody, Transfer, ShortBody}
use Rattle.httparse.specs.Ascii.{line_feed, carriage_return, space}
use Rattle.httparse.specs.Grammar.{IsToken, AllPass, LineEnd, print_blank, Field, field_value, RequestHead, print_request, ReadsRequest, NeverHasRequest}
use Rattle.text_forms.specs.Numbers.{is_number}
use Rattle.http_wire.specs.Headers.{has_header, values_of}

-- the first of what stands in the bytes
pub data FirstMessage : Type 0 where
  -- a request, and how many bytes it has
  asks : Message → ℕ → FirstMessage
  -- no byte is left
  nothing : FirstMessage
  -- the bytes end inside a head that could still go on, or inside its target
  cut_short : FirstMessage
  -- anything else, by its kind, and whether it is a whole head whose method is HEAD
  refused : Kind → Bool → FirstMessage

-- a byte that a target may have while its end has not come: any but space, CR and LF (this profile, wider than RFC 9112, section 3.2)
abbrev pub stays_in_target : ℕ → Bool
stays_in_target b = not (b == space) && (not (b == carriage_return) && not (b == line_feed))

-- the bytes end inside a target: after any empty lines a method, one space and the target so far (RFC 9112, sections 2.2 and 3)
abbrev pub EndsInside : List ℕ → Type 0
EndsInside bytes =
    (blank : List LineEnd) × (method : List ℕ) × (target : List ℕ)
    × IsToken method × AllPass stays_in_target target × (bytes ≡ print_blank blank ++ method ++ space ∷ target)

-- no bytes can follow that make a head, of any length, and the bytes don't end inside a target
abbrev pub CannotBecomeHead : List ℕ → Type 0
CannotBecomeHead bytes = NeverHasRequest bytes × ¬ (EndsInside bytes)

-- the bytes begin with the head h, of n bytes, no more than 16,384 (this profile)
abbrev pub HasHead : List ℕ → RequestHead → ℕ → Type 0
HasHead bytes h n = ReadsRequest bytes h (drop n bytes) × (n ≡ length (print_request h)) × (n ≤ HEAD_LIMIT)

-- the bytes begin with no head of up to 16,384 bytes
abbrev pub HasNoHead : List ℕ → Type 0
HasNoHead bytes = (h : RequestHead) (n : ℕ) → ¬ (HasHead bytes h n)

-- one of the prefixes of up to 16,384 bytes is dead
abbrev pub HasDeadPrefix : List ℕ → Type 0
HasDeadPrefix bytes = (n : ℕ) × (n ≤ HEAD_LIMIT) × CannotBecomeHead (take n bytes)

-- a header as a message has it: the name in lower case, the value without the white space around it (RFC 9110, sections 5.1 and 5.5)
abbrev pub header_of : Field → Pair
header_of f = record { name = map to_ascii_lowercase f.name; value = field_value f }

-- the message of a head, with no body; it is old where the version is HTTP/1.0
abbrev pub message_of : RequestHead → Message
message_of h = record { method = h.method; target = h.target; old = h.minor == 0; headers = map header_of h.fields; body = [] }

-- a length as it is taken: 1 to 19 digits (RFC 9110, section 8.6, and this profile)
abbrev pub is_length : List ℕ → Bool
is_length value = is_number 19 value

-- the limit of a body that is given, but at most 1,073,741,824 (this profile)
abbrev pub body_limit : ℕ → ℕ
body_limit limit = min limit MOST_BODY_LIMIT

-- how many bytes of body a length asks for, within the limit, or why it is refused (this profile)
abbrev pub value_judged : ℕ → List ℕ → Result ℕ Kind
value_judged limit value =
    if is_length value then (if nat_lt (body_limit limit) (digits_value 10 value) then Err LongBody else Ok (digits_value 10 value)) else Err BadLength

-- the same by all lengths that are given: one at most, and none only where the method isn't PUT (RFC 9112, section 6.3, and this profile)
abbrev pub length_judged : ℕ → Bool → List (List ℕ) → Result ℕ Kind
length_judged limit put [] = if put then Err NoLength else Ok 0
length_judged limit put (value ∷ []) = value_judged limit value
length_judged limit put (value ∷ other ∷ values) = Err BadLength

-- the method is PUT (RFC 9110, section 9.3.4)
abbrev pub is_put : List ℕ → Bool
is_put method = bytes_eq method (codes "PUT")

-- how many bytes of body follow a whole head, or the first reason why it is refused: more than 100 headers, a
-- Transfer-Encoding, a bad length, no length, a long body
abbrev pub judge : ℕ → Message → Result ℕ Kind
judge limit message =
    if nat_lt 100 (length message.headers) then Err ManyHeaders
    else (if has_header (codes "transfer-encoding") message.headers then Err Transfer
    else length_judged limit (is_put message.method) (values_of (codes "content-length") message.headers))

-- the method is HEAD (RFC 9110, section 9.3.2)
abbrev pub is_head : List ℕ → Bool
is_head method = bytes_eq method (codes "HEAD")

-- the message of a head and a body
abbrev pub message_with : RequestHead → List ℕ → Message
message_with h body = record (message_of h) { body = body }

-- the bytes are one whole head that is accepted, followed by exactly the body whose length it gives
abbrev pub Spells : ℕ → List ℕ → Message → Type 0
Spells limit bytes message =
    (h : RequestHead) × (n m : ℕ) × HasHead bytes h n × (judge limit (message_of h) ≡ Ok m) × (length bytes ≡ n + m)
    × (message ≡ message_with h (drop n bytes))

-- the bytes begin with an accepted head and its whole body, of so many bytes together
abbrev pub IsAsked : ℕ → List ℕ → Message → ℕ → Type 0
IsAsked limit bytes message size =
    (h : RequestHead) × (n m : ℕ) × HasHead bytes h n × (judge limit (message_of h) ≡ Ok m) × (size ≡ n + m) × (size ≤ length bytes)
    × (message ≡ message_with h (take m (drop n bytes)))

-- a whole head that is refused
abbrev pub IsJudged : ℕ → List ℕ → Kind → Bool → Type 0
IsJudged limit bytes kind head =
    (h : RequestHead) × (n : ℕ) × HasHead bytes h n × (judge limit (message_of h) ≡ Err kind) × (head ≡ is_head h.method)

-- the bytes end inside the body of a head that is accepted
abbrev pub EndsInBody : ℕ → List ℕ → Bool → Type 0
EndsInBody limit bytes head =
    (h : RequestHead) × (n m : ℕ) × HasHead bytes h n × (judge limit (message_of h) ≡ Ok m) × (length bytes < n + m) × (head ≡ is_head h.method)

-- no whole head, and a prefix of which none can come and that doesn't end inside a target
abbrev pub IsDeadHead : List ℕ → Bool → Type 0
IsDeadHead bytes head = HasNoHead bytes × HasDeadPrefix bytes × (head ≡ false)

-- no end of a head within 16,384 bytes, though none of their prefixes is dead
abbrev pub IsLongHead : List ℕ → Bool → Type 0
IsLongHead bytes head = HasNoHead bytes × ¬ (HasDeadPrefix bytes) × (HEAD_LIMIT ≤ length bytes) × (head ≡ false)

-- what is refused, by its kind
abbrev pub IsRefused : ℕ → List ℕ → Kind → Bool → Type 0
IsRefused limit bytes BadHead head = IsDeadHead bytes head
IsRefused limit bytes LongHead head = IsLongHead bytes head
IsRefused limit bytes ManyHeaders head = IsJudged limit bytes ManyHeaders head
IsRefused limit bytes NoLength head = IsJudged limit bytes NoLength head
IsRefused limit bytes BadLength head = IsJudged limit bytes BadLength head
IsRefused limit bytes LongBody head = IsJudged limit bytes LongBody head
IsRefused limit bytes Transfer head = IsJudged limit bytes Transfer head
IsRefused limit bytes ShortBody head = EndsInBody limit bytes head

-- what stands first in the bytes
abbrev pub BeginsWith : ℕ → List ℕ → FirstMessage → Type 0
BeginsWith limit bytes (asks message size) = IsAsked limit bytes message size
BeginsWith limit bytes nothing = bytes ≡ []
BeginsWith limit bytes cut_short = (0 < length bytes) × (length bytes < HEAD_LIMIT) × HasNoHead bytes × ¬ (HasDeadPrefix bytes)
BeginsWith limit bytes (refused kind head) = IsRefused limit bytes kind head
