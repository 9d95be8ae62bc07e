-- What the first request of a line signs to. Source: Amazon S3 API Reference, "Authenticating requests: using the
-- Authorization header"; which requests are signed is this profile.
use Rattle.std.specs.Prelude.{◌≡◌, ◌≤◌, ⊤, ◌⊎◌, ℕ, ◌+◌, Bool, true, false, IsTrue, ◌&&◌, List, [], ◌∷◌, codes, Option, Some, None, Result, Ok, Err}
use Rattle.std.specs.Result.{is_ok}
use Rattle.gate_base.specs.declared.page.Pair.{Pair}
use Rattle.gate_base.specs.declared.outside.Piece.{Piece}
use Rattle.gate_base.specs.Causes.{RisesIf}
use Rattle.gate_base.specs.Line.{LineModel}
use Rattle.gate_base.specs.Transcript.{Transcript}
use Rattle.s3_names.specs.declared.fault.NameFault.{NameFault}
use Rattle.s3_names.specs.declared.target.Target.{Target}
use Rattle.s3_names.specs.Target.{target_of}
use Rattle.http_wire.specs.declared.judge.TheConstants.{BODY_LIMIT}
use Rattle.http_wire.specs.declared.message.Message.{Message}
use Rattle.http_wire.specs.FirstMessage.{FirstMessage, asks, nothing, cut_short, refused, BeginsWith}
use Rattle.http_wire.specs.Headers.{has_single_header}
use Rattle.http_wire.specs.Interim.{OwesInterim, SendsInterim, MaySendInterim, CutsInterim}
use Rattle.sigv4.specs.declared.signature.Signed.{Signed as Signature}
use Rattle.sigv4.specs.Canonical.{canonical_text}
use Rattle.sigv4.specs.Sign.{is_date_time, signed_of}
use Rattle.sigv4.specs.Verdict.{time_of, hash_of}
use Rattle.sign_cmd.specs.Names.{AreSigned}
use Rattle.sign_cmd.specs.declared.first.Signing.{Signing}
use Rattle.sign_cmd.specs.declared.first.Signing.TheVariants.{Signed, NoRequest, LineFailed, Memory}

-- exactly one header is the date, of the form `YYYYMMDDTHHMMSSZ`, and exactly one the hash of the payload
abbrev pub has_signing_headers : List Pair → Bool
has_signing_headers headers =
    has_single_header (codes "x-amz-date") headers && is_date_time (time_of headers) && has_single_header (codes "x-amz-content-sha256") headers

-- a request is signed where its target reads and it has these headers
abbrev pub can_sign : Message → Bool
can_sign message = is_ok (target_of message.target) && has_signing_headers message.headers

-- the target, where it reads
abbrev pub target_read : Result Target NameFault → Option Target
target_read (Ok target) = Some target
target_read (Err fault) = None

-- what the request signs to as one of this target: all its headers but `authorization` are signed, for the time of the
-- date and with the payload's hash as the header gives it
abbrev pub SignsFor : List ℕ → List ℕ → Message → Target → Signature → Type 0
SignsFor secret region message target signed =
    (names : List (List ℕ)) × AreSigned message.headers names
    × (signed ≡ signed_of secret (time_of message.headers) region (canonical_text message target names (hash_of message.headers)))

-- the request is signed by the secret for the region, and to this
abbrev pub Signs : List ℕ → List ℕ → Message → Signature → Type 0
Signs secret region message signed =
    (can_sign message ≡ true) × (target : Target) × (target_of message.target ≡ Ok target)
    × SignsFor secret region message target signed

-- the answer to a request; where memory runs out it may say nothing
abbrev pub Answers : List ℕ → List ℕ → Message → Signing → Type 0
Answers secret region message (Signed signed) = Signs secret region message signed
Answers secret region message NoRequest = can_sign message ≡ false
Answers secret region message LineFailed = ⊤
Answers secret region message Memory = ⊤

-- no request, or one that isn't signed
abbrev pub IsUnsigned : FirstMessage → Type 0
IsUnsigned (asks message size) = can_sign message ≡ false
IsUnsigned nothing = ⊤
IsUnsigned cut_short = ⊤
IsUnsigned (refused kind head) = ⊤

-- the answer to a connection of these bytes, by what stands first in them
abbrev pub AnswersFrom : List ℕ → List ℕ → List ℕ → Signing → Type 0
AnswersFrom secret region bytes (Signed signed) =
    (message : Message) × (size : ℕ) × BeginsWith BODY_LIMIT bytes (asks message size) × Signs secret region message signed
AnswersFrom secret region bytes NoRequest = (front : FirstMessage) × BeginsWith BODY_LIMIT bytes front × IsUnsigned front
AnswersFrom secret region bytes LineFailed = ⊤
AnswersFrom secret region bytes Memory = ⊤

-- the answer to a line on which these connections wait: to the first of them, and without one no request
abbrev pub AnswersFirst : List ℕ → List ℕ → List (List ℕ) → Signing → Type 0
AnswersFirst secret region waiting (Signed signed) =
    (bytes : List ℕ) × (others : List (List ℕ)) × (waiting ≡ bytes ∷ others) × AnswersFrom secret region bytes (Signed signed)
AnswersFirst secret region waiting NoRequest =
    (waiting ≡ []) ⊎ ((bytes : List ℕ) × (others : List (List ℕ)) × (waiting ≡ bytes ∷ others) × AnswersFrom secret region bytes NoRequest)
AnswersFirst secret region waiting LineFailed = ⊤
AnswersFirst secret region waiting Memory = ⊤

-- whether the line failed
abbrev pub is_failed_signing : Signing → Bool
is_failed_signing (Signed signed) = false
is_failed_signing NoRequest = false
is_failed_signing LineFailed = true
is_failed_signing Memory = false

-- ---- what is done to the line

-- the interim line is owed for the request that the first of these connections begins with
abbrev pub OwesFirst : List (List ℕ) → Type 0
OwesFirst [] = ⊥
OwesFirst (bytes ∷ others) = OwesInterim BODY_LIMIT bytes

-- what was sent on a connection when the store had counted so many calls, where the interim line is owed if P holds: that line
-- where it is owed, and nothing else; where memory ran out maybe not even that, and where the line failed its first bytes
abbrev pub SendsBy : Type 0 → ℕ → ℕ → List Piece → Signing → List Piece → Type 0
SendsBy P connection at old (Signed signed) new = SendsInterim P connection at old new
SendsBy P connection at old NoRequest new = SendsInterim P connection at old new
SendsBy P connection at old LineFailed new = CutsInterim P connection at old new
SendsBy P connection at old Memory new = MaySendInterim P connection at old new

-- the same of a line, on its next connection
abbrev pub SendsFirst : ℕ → Transcript → Signing → Transcript → Type 0
SendsFirst at old signing new = SendsBy (OwesFirst old.waiting) (old.begun + 1) at old.sent signing new.sent

-- the interim line at most: where the line failed its first bytes, and else all of it or nothing
abbrev pub SendsAtMost : Bool → Type 0 → ℕ → ℕ → List Piece → List Piece → Type 0
SendsAtMost true P connection at old new = CutsInterim P connection at old new
SendsAtMost false P connection at old new = MaySendInterim P connection at old new

-- at most one connection began, bytes of it were read, and at most the interim line was sent on it
pub record SignsOn (failed : Bool) (at : ℕ) (old new : LineModel) : Type 0 where
  pub faults : RisesIf failed old.faults new.faults
  pub next_faults : failed ≡ false → new.next_faults ≡ old.next_faults
  pub observable : IsTrue old.observable → IsTrue new.observable
  pub begun : IsTrue old.observable → new.transcript.begun ≤ old.transcript.begun + 1
  pub sent : IsTrue old.observable
      → SendsAtMost failed (OwesFirst old.transcript.waiting) (old.transcript.begun + 1) at old.transcript.sent new.transcript.sent
