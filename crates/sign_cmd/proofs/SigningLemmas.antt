-- What a request and what stands first on a line say of the answer.
use Rattle.std.proofs.Common.{◌≡◌, ℕ, Bool, true, false, ◌&&◌, List, [], ◌++◌, codes, subst, inl, inr, true≢false}
use Rattle.std.proofs.lemmas.Bool.{and_parts}
use Rattle.gate_base.specs.declared.page.Pair.{Pair}
use Rattle.gate_base.specs.declared.outside.Piece.{Piece}
use Rattle.http_wire.specs.declared.message.Got.TheVariants.{Request, CutShort, Refused}
use Rattle.http_wire.specs.declared.message.Kind.{Kind}
use Rattle.http_wire.specs.declared.judge.TheConstants.{BODY_LIMIT}
use Rattle.http_wire.specs.declared.message.Message.{Message}
use Rattle.http_wire.specs.FirstMessage.{FirstMessage, asks, cut_short, refused, BeginsWith}
use Rattle.http_wire.specs.Headers.{has_single_header}
use Rattle.http_wire.specs.Reading.{Pending, GivesFirstMessage}
use Rattle.http_wire.specs.Interim.{OwesInterim, SendsInterim}
use Rattle.sigv4.specs.Sign.{is_date_time}
use Rattle.sigv4.specs.Verdict.{time_of}
use Rattle.sign_cmd.specs.Signing.{has_signing_headers, Answers, AnswersFrom, SendsBy, is_failed_signing}
use Rattle.sign_cmd.specs.declared.first.Signing.{Signing}
use Rattle.sign_cmd.specs.declared.first.Signing.TheVariants.{Signed, NoRequest, LineFailed, Memory}

-- a request with the headers has a date of the form
pub signing_headers_dated : (headers : List Pair) → has_signing_headers headers ≡ true → is_date_time (time_of headers) ≡ true
signing_headers_dated headers h =
    let one : Bool = has_single_header (codes "x-amz-date") headers in
    (and_parts one (is_date_time (time_of headers)) (and_parts (one && is_date_time (time_of headers)) (has_single_header (codes "x-amz-content-sha256") headers) h).0).1

-- a reader that has read nothing yet
abbrev fresh : Pending
fresh = record { bytes = []; place = 0; ended = false }

front_first : (rest : List ℕ) (old : Pending) (front : FirstMessage) → old ≡ fresh → BeginsWith BODY_LIMIT (old.bytes ++ rest) front → BeginsWith BODY_LIMIT rest front
front_first rest old front is first = subst (λ (p : Pending). BeginsWith BODY_LIMIT (p.bytes ++ rest) front) is first

-- the answer to the request that stands first
answers_first : (secret region bytes : List ℕ) (message : Message) (size : ℕ) (signing : Signing) → BeginsWith BODY_LIMIT bytes (asks message size) → Answers secret region message signing → AnswersFrom secret region bytes signing
answers_first secret region bytes message size (Signed signed) first answer = (message, size, first, answer)
answers_first secret region bytes message size NoRequest first answer = (asks message size, first, answer)
answers_first secret region bytes message size LineFailed first answer = tt
answers_first secret region bytes message size Memory first answer = tt

pub request_first : (secret region rest : List ℕ) (old new : Pending) (left : List ℕ) (message : Message) (signing : Signing) → old ≡ fresh → GivesFirstMessage BODY_LIMIT old (old.bytes ++ rest) (Request message) new left → Answers secret region message signing → AnswersFrom secret region rest signing
request_first secret region rest old new left message signing is gives answer =
    answers_first secret region rest message gives.0 signing (front_first rest old (asks message gives.0) is gives.2) answer

pub cut_first : (secret region rest : List ℕ) (old new : Pending) (left : List ℕ) (place : ℕ) → old ≡ fresh → GivesFirstMessage BODY_LIMIT old (old.bytes ++ rest) (CutShort place) new left → AnswersFrom secret region rest NoRequest
cut_first secret region rest old new left place is gives = (cut_short, front_first rest old cut_short is gives.1, tt)

pub refused_first : (secret region rest : List ℕ) (old new : Pending) (left : List ℕ) (kind : Kind) (place : ℕ) (head : Bool) → old ≡ fresh → GivesFirstMessage BODY_LIMIT old (old.bytes ++ rest) (Refused kind place head) new left → AnswersFrom secret region rest NoRequest
refused_first secret region rest old new left kind place head is gives = (refused kind head, front_first rest old (refused kind head) is gives.1, tt)

-- ---- what was sent

interim_by : {P : Type 0} (connection at : ℕ) (old new : List Piece) (signing : Signing) → is_failed_signing signing ≡ false → SendsInterim P connection at old new → SendsBy P connection at old signing new
interim_by connection at old new (Signed signed) heard sends = sends
interim_by connection at old new NoRequest heard sends = sends
interim_by connection at old new LineFailed heard sends = absurd (true≢false heard)
interim_by connection at old new Memory heard (inl (p, e)) = inr (p, e)
interim_by connection at old new Memory heard (inr (n, e)) = inl e

-- a request was read, and its answer doesn't touch the line
pub request_sent : (rest : List ℕ) (reader : Pending) (connection at : ℕ) (old new : List Piece) (signing : Signing) → reader ≡ fresh → is_failed_signing signing ≡ false
    → SendsInterim (OwesInterim BODY_LIMIT (reader.bytes ++ rest)) connection at old new → SendsBy (OwesInterim BODY_LIMIT rest) connection at old signing new
request_sent rest reader connection at old new signing is heard sends =
    interim_by connection at old new signing heard (subst (λ (p : Pending). SendsInterim (OwesInterim BODY_LIMIT (p.bytes ++ rest)) connection at old new) is sends)
