-- What one look at bytes says of the head that they begin with. Source: RFC 9112, section 4, and this profile's limit.
use Rattle.std.specs.Prelude.{◌≡◌, ◌⊎◌, ℕ, ◌<◌, ◌≤◌, List, length}
use Rattle.httparse.specs.declared.spans.HeaderSpan.{HeaderSpan}
use Rattle.httparse.specs.declared.spans.ResponseSpans.{ResponseSpans}
use Rattle.httparse.specs.Grammar.{ResponseHead, HasNoResponse, NeverHasResponse, status_code}
use Rattle.httparse.specs.Spans.{IsResponseAt, IsResponseOf, IsResponseWithin, ResponseOverflows, ResponseExceeds}
use Rattle.http_answers.specs.declared.head.TheConstants.{HEAD_LIMIT}
use Rattle.http_answers.specs.declared.head.Head.{Head}
use Rattle.http_answers.specs.declared.head.Verdict.{Verdict}
use Rattle.http_answers.specs.declared.head.Verdict.TheVariants as verdict
use Rattle.http_answers.specs.declared.head.Front.{Front}
use Rattle.http_answers.specs.declared.head.Front.TheVariants.{Whole, More, Dead}
use Rattle.http_answers.specs.Framing.{HasHead, HasNoHead, headers_in}

-- no head can still come, or none within 65,536 bytes
abbrev pub IsDead : List ℕ → Type 0
IsDead bytes = HasNoHead bytes × (NeverHasResponse bytes ⊎ (HEAD_LIMIT ≤ length bytes))

-- a head can still come
abbrev pub IsOpen : List ℕ → Type 0
IsOpen bytes = HasNoResponse bytes × ¬ (NeverHasResponse bytes) × (length bytes < HEAD_LIMIT)

-- what a look with so much room shows
abbrev pub Sees : ℕ → List ℕ → List HeaderSpan → Verdict → Type 0
Sees room bytes headers (verdict.Whole spans) = IsResponseOf bytes headers spans × IsResponseWithin bytes headers spans × (spans.len ≤ HEAD_LIMIT)
Sees room bytes headers verdict.More = IsOpen bytes
Sees room bytes headers verdict.Dead = IsDead bytes
Sees room bytes headers verdict.Crowded = ResponseOverflows room bytes × ResponseExceeds room bytes

-- the head that the spans cover
abbrev pub IsHeadAt : List ℕ → List HeaderSpan → ResponseSpans → Head → Type 0
IsHeadAt bytes headers spans head =
    (h : ResponseHead) → IsResponseAt bytes headers spans h → (head.status ≡ status_code h) × (head.headers ≡ headers_in h) × (head.len ≡ spans.len)

-- what stands first in the bytes: a whole head, by what it says and its length
abbrev pub Shows : List ℕ → Front → Type 0
Shows bytes (Whole head) =
    (h : ResponseHead) × HasHead bytes h head.len × (head.status ≡ status_code h) × (head.headers ≡ headers_in h)
Shows bytes More = IsOpen bytes
Shows bytes Dead = IsDead bytes
