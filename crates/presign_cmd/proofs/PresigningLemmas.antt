-- What a request and what stands first on a line say of the answer.
use Rattle.std.proofs.Common.{◌≡◌, ℕ, Bool, true, false, ◌&&◌, List, [], ◌++◌, is_some, cond, Option, Some, None, Result, Ok, Err, sym, ap, ◌∙◌, subst, inl, inr, true≢false}
use Rattle.gate_base.specs.declared.outside.Piece.{Piece}
use Rattle.s3_names.specs.declared.fault.NameFault.{NameFault}
use Rattle.s3_names.specs.declared.target.Target.{Target}
use Rattle.s3_names.specs.Target.{target_of}
use Rattle.http_wire.specs.declared.message.Got.TheVariants.{Request, CutShort, Refused}
use Rattle.http_wire.specs.declared.message.Kind.{Kind}
use Rattle.http_wire.specs.declared.judge.TheConstants.{BODY_LIMIT}
use Rattle.http_wire.specs.declared.message.Message.{Message}
use Rattle.http_wire.specs.FirstMessage.{FirstMessage, asks, cut_short, refused, BeginsWith}
use Rattle.http_wire.specs.Reading.{Pending, GivesFirstMessage}
use Rattle.http_wire.specs.Interim.{OwesInterim, SendsInterim}
use Rattle.presign.specs.Url.{IsPresigned, has_signature_name}
use Rattle.presign_cmd.specs.Presigning.{has_host, target_to_presign, Presigns, Answers, AnswersFrom, SendsBy, is_failed_presigning}
use Rattle.presign_cmd.specs.declared.first.Presigning.{Presigning}
use Rattle.presign_cmd.specs.declared.first.Presigning.TheVariants.{Url, NoRequest, LineFailed, Memory}

-- a target that may be presigned is one that was read
plain_by : (test : Bool) (own target : Target) → cond test None (Some own) ≡ Some target → own ≡ target
plain_by true own target is = absurd (let no : None ≡ Some target = is in cc)
plain_by false own target is = cc

plain_is : (read : Result Target NameFault) (target : Target) → target_to_presign read ≡ Some target → read ≡ Ok target
plain_is (Ok own) target is = ap Ok (plain_by (has_signature_name own.query) own target is)
plain_is (Err fault) target is = absurd (let no : None ≡ Some target = is in cc)

-- the URL that is made of a request is its own
pub presigns_of : (secret id region : List ℕ) (moment expires : ℕ) (message : Message) (text url : List ℕ) (target : Target) (read : Option Target)
    → has_host message ≡ true → text ≡ message.target → read ≡ target_to_presign (target_of text) → read ≡ Some target
    → IsPresigned secret id region message target moment expires url → Presigns secret id region moment expires message url
presigns_of secret id region moment expires message text url target read host text_is read_is some made =
    let found : target_to_presign (target_of message.target) ≡ Some target = ap (λ t. target_to_presign (target_of t)) (sym text_is) ∙ (sym read_is ∙ some) in
    ((λ i. host i && is_some (found i)), target, plain_is (target_of message.target) target found, made)

-- a reader that has read nothing yet
abbrev fresh : Pending
fresh = record { bytes = []; place = 0; ended = false }

front_first : (rest : List ℕ) (old : Pending) (front : FirstMessage) → old ≡ fresh → BeginsWith BODY_LIMIT (old.bytes ++ rest) front → BeginsWith BODY_LIMIT rest front
front_first rest old front is first = subst (λ (p : Pending). BeginsWith BODY_LIMIT (p.bytes ++ rest) front) is first

-- the answer to the request that stands first
answers_first : (P : Message → List ℕ → Type 0) (bytes : List ℕ) (message : Message) (size : ℕ) (presigning : Presigning) → BeginsWith BODY_LIMIT bytes (asks message size) → Answers P message presigning → AnswersFrom P bytes presigning
answers_first P bytes message size (Url url) first answer = (message, size, first, answer)
answers_first P bytes message size NoRequest first answer = (asks message size, first, answer)
answers_first P bytes message size LineFailed first answer = tt
answers_first P bytes message size Memory first answer = tt

pub request_first : (P : Message → List ℕ → Type 0) (rest : List ℕ) (old new : Pending) (left : List ℕ) (message : Message) (presigning : Presigning) → old ≡ fresh → GivesFirstMessage BODY_LIMIT old (old.bytes ++ rest) (Request message) new left → Answers P message presigning → AnswersFrom P rest presigning
request_first P rest old new left message presigning is gives answer =
    answers_first P rest message gives.0 presigning (front_first rest old (asks message gives.0) is gives.2) answer

pub cut_first : (P : Message → List ℕ → Type 0) (rest : List ℕ) (old new : Pending) (left : List ℕ) (place : ℕ) → old ≡ fresh → GivesFirstMessage BODY_LIMIT old (old.bytes ++ rest) (CutShort place) new left → AnswersFrom P rest NoRequest
cut_first P rest old new left place is gives = (cut_short, front_first rest old cut_short is gives.1, tt)

pub refused_first : (P : Message → List ℕ → Type 0) (rest : List ℕ) (old new : Pending) (left : List ℕ) (kind : Kind) (place : ℕ) (head : Bool) → old ≡ fresh → GivesFirstMessage BODY_LIMIT old (old.bytes ++ rest) (Refused kind place head) new left → AnswersFrom P rest NoRequest
refused_first P rest old new left kind place head is gives = (refused kind head, front_first rest old (refused kind head) is gives.1, tt)

-- ---- what was sent

interim_by : {P : Type 0} (connection at : ℕ) (old new : List Piece) (presigning : Presigning) → is_failed_presigning presigning ≡ false → SendsInterim P connection at old new → SendsBy P connection at old presigning new
interim_by connection at old new (Url url) heard sends = sends
interim_by connection at old new NoRequest heard sends = sends
interim_by connection at old new LineFailed heard sends = absurd (true≢false heard)
interim_by connection at old new Memory heard (inl (p, e)) = inr (p, e)
interim_by connection at old new Memory heard (inr (n, e)) = inl e

-- a request was read, and its answer doesn't touch the line
pub request_sent : (rest : List ℕ) (reader : Pending) (connection at : ℕ) (old new : List Piece) (presigning : Presigning) → reader ≡ fresh → is_failed_presigning presigning ≡ false
    → SendsInterim (OwesInterim BODY_LIMIT (reader.bytes ++ rest)) connection at old new → SendsBy (OwesInterim BODY_LIMIT rest) connection at old presigning new
request_sent rest reader connection at old new presigning is heard sends =
    interim_by connection at old new presigning heard (subst (λ (p : Pending). SendsInterim (OwesInterim BODY_LIMIT (p.bytes ++ rest)) connection at old new) is sends)
