-- The presigned URL of the first request of a line. Source: Amazon S3 API Reference, "Authenticating requests: using query
-- parameters"; which requests are presigned is this profile.
use Rattle.std.specs.Prelude.{◌≡◌, ⊤, ◌⊎◌, ℕ, ◌+◌, Bool, true, false, ◌&&◌, List, [], ◌∷◌, codes, is_some, Option, Some, None, Result, Ok, Err, if◌then◌else◌}
use Rattle.gate_base.specs.declared.outside.Piece.{Piece}
use Rattle.gate_base.specs.Transcript.{Transcript}
use Rattle.s3_names.specs.declared.fault.NameFault.{NameFault}
use Rattle.s3_names.specs.declared.target.Target.{Target}
use Rattle.s3_names.specs.Target.{target_of}
use Rattle.http_wire.specs.declared.judge.TheConstants.{BODY_LIMIT}
use Rattle.http_wire.specs.declared.message.Message.{Message}
use Rattle.http_wire.specs.FirstMessage.{FirstMessage, asks, nothing, cut_short, refused, BeginsWith}
use Rattle.http_wire.specs.Headers.{has_single_header}
use Rattle.http_wire.specs.Interim.{SendsInterim, MaySendInterim, CutsInterim}
use Rattle.presign.specs.Url.{IsPresigned, has_signature_name}
use Rattle.sign_cmd.specs.Signing.{OwesFirst}
use Rattle.presign_cmd.specs.declared.first.Presigning.{Presigning}
use Rattle.presign_cmd.specs.declared.first.Presigning.TheVariants.{Url, NoRequest, LineFailed, Memory}

-- exactly one header is `host`
abbrev pub has_host : Message → Bool
has_host message = has_single_header (codes "host") message.headers

-- the target, where it reads and its query has none of the names of a signature
abbrev pub target_to_presign : Result Target NameFault → Option Target
target_to_presign (Ok target) = if has_signature_name target.query then None else Some target
target_to_presign (Err fault) = None

-- a request is presigned where it has one host and such a target
abbrev pub can_presign : Message → Bool
can_presign message = has_host message && is_some (target_to_presign (target_of message.target))

-- the URL of a request, by the secret of a key for a region, at a moment for so many seconds
abbrev pub Presigns : List ℕ → List ℕ → List ℕ → ℕ → ℕ → Message → List ℕ → Type 0
Presigns secret id region moment expires message url =
    (can_presign message ≡ true) × (target : Target) × (target_of message.target ≡ Ok target)
    × IsPresigned secret id region message target moment expires url

-- ---- the answer, where P says what URL a request has

-- the answer to a request; where memory runs out it may say nothing
abbrev pub Answers : (Message → List ℕ → Type 0) → Message → Presigning → Type 0
Answers P message (Url url) = P message url
Answers P message NoRequest = can_presign message ≡ false
Answers P message LineFailed = ⊤
Answers P message Memory = ⊤

-- no request, or one that isn't presigned
abbrev pub IsUnsigned : FirstMessage → Type 0
IsUnsigned (asks message size) = can_presign message ≡ false
IsUnsigned nothing = ⊤
IsUnsigned cut_short = ⊤
IsUnsigned (refused kind head) = ⊤

-- the answer to a connection of these bytes, by what stands first in them
abbrev pub AnswersFrom : (Message → List ℕ → Type 0) → List ℕ → Presigning → Type 0
AnswersFrom P bytes (Url url) = (message : Message) × (size : ℕ) × BeginsWith BODY_LIMIT bytes (asks message size) × P message url
AnswersFrom P bytes NoRequest = (front : FirstMessage) × BeginsWith BODY_LIMIT bytes front × IsUnsigned front
AnswersFrom P bytes LineFailed = ⊤
AnswersFrom P bytes Memory = ⊤

-- the answer to a line on which these connections wait: to the first of them, and without one no request
abbrev pub AnswersFirst : (Message → List ℕ → Type 0) → List (List ℕ) → Presigning → Type 0
AnswersFirst P waiting (Url url) =
    (bytes : List ℕ) × (others : List (List ℕ)) × (waiting ≡ bytes ∷ others) × AnswersFrom P bytes (Url url)
AnswersFirst P waiting NoRequest =
    (waiting ≡ []) ⊎ ((bytes : List ℕ) × (others : List (List ℕ)) × (waiting ≡ bytes ∷ others) × AnswersFrom P bytes NoRequest)
AnswersFirst P waiting LineFailed = ⊤
AnswersFirst P waiting Memory = ⊤

-- whether the line failed
abbrev pub is_failed_presigning : Presigning → Bool
is_failed_presigning (Url url) = false
is_failed_presigning NoRequest = false
is_failed_presigning LineFailed = true
is_failed_presigning Memory = false

-- ---- what is done to the line

-- what was sent on a connection when the store had counted so many calls, where the interim line is owed if P holds: that line
-- where it is owed, and nothing else; where memory ran out maybe not even that, and where the line failed its first bytes
abbrev pub SendsBy : Type 0 → ℕ → ℕ → List Piece → Presigning → List Piece → Type 0
SendsBy P connection at old (Url url) new = SendsInterim P connection at old new
SendsBy P connection at old NoRequest new = SendsInterim P connection at old new
SendsBy P connection at old LineFailed new = CutsInterim P connection at old new
SendsBy P connection at old Memory new = MaySendInterim P connection at old new

-- the same of a line, on its next connection
abbrev pub SendsFirst : ℕ → Transcript → Presigning → Transcript → Type 0
SendsFirst at old presigning new = SendsBy (OwesFirst old.waiting) (old.begun + 1) at old.sent presigning new.sent
