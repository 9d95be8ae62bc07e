-- Who signed the head of a request whose body comes in pieces, and what these are signed from. Source: Amazon S3 API Reference,
-- "Signature calculations for the Authorization header: transferring a payload in multiple chunks"; the order of the refusals is this
-- profile's.
use Rattle.std.specs.Prelude.{◌≡◌, ⊤, ℕ, not, if◌then◌else◌, List, [], ◌∷◌, codes, Option, Some, None, Result, Ok, Err}
use Rattle.gate_base.specs.declared.caller.Caller.{Caller}
use Rattle.s3_names.specs.declared.target.Target.{Target}
use Rattle.http_wire.specs.Headers.{has_header, has_single_header}
use Rattle.http_wire.specs.declared.message.Message.{Message}
use Rattle.sigv4.specs.Keys.{secret_of}
use Rattle.sigv4.specs.Moment.{is_skewed}
use Rattle.sigv4.specs.Sign.{date_of, scope_of, signing_key}
use Rattle.sigv4.specs.Verdict.{Reason, claim_of, expected, first_refusal, has_wrong_scope, lacks_date, leaves_unsigned, signature_differs, time_of}
use Rattle.sigv4.specs.declared.authorization.Authorization.{Authorization}
use Rattle.sigv4.specs.declared.keys.AccessKey.{AccessKey}
use Rattle.sigv4.specs.declared.pieces.Seal.{Seal}
use Rattle.sigv4.specs.declared.refusal.Refusal.{Refusal}
use Rattle.sigv4.specs.declared.refusal.Refusal.TheVariants.{HeaderMalformed, UnknownKey, WrongScope, UnsignedHeader, NoDate, Skewed}
use Rattle.sigv4.specs.declared.refusal.Refusal.TheVariants.{Streaming, NoPayloadHash, SignatureDiffers, PayloadDiffers, Memory}

-- the reasons against what a header says, in their order, where the body is looked at by others
abbrev pub head_reasons : List ℕ → List ℕ → Message → Target → ℕ → Authorization → List Reason
head_reasons secret region message target moment claim =
    record { holds = has_wrong_scope region claim; refusal = WrongScope }
    ∷ record { holds = leaves_unsigned claim message.headers; refusal = UnsignedHeader }
    ∷ record { holds = lacks_date claim message.headers; refusal = NoDate }
    ∷ record { holds = is_skewed (time_of message.headers) moment; refusal = Skewed }
    ∷ record { holds = not (has_single_header (codes "x-amz-content-sha256") message.headers); refusal = NoPayloadHash }
    ∷ record {
      holds = signature_differs claim (expected secret region message target claim);
      refusal = SignatureDiffers (expected secret region message target claim).canonical_hash;
    }
    ∷ []

-- what the pieces are signed from
unfoldable pub seal_of : List ℕ → List ℕ → Message → Authorization → Seal
seal_of secret region message claim =
    record {
      key = signing_key secret (date_of (time_of message.headers)) region;
      date_time = time_of message.headers;
      scope = scope_of (date_of (time_of message.headers)) region;
      signature = claim.signature;
    }

abbrev pub seal_after : Result Caller Refusal → Seal → Result (Option Seal) Refusal
seal_after (Ok caller) seal = Ok (Some seal)
seal_after (Err refusal) seal = Err refusal

abbrev pub head_judged_with : Option (List ℕ) → List ℕ → Message → Target → ℕ → Authorization → Result (Option Seal) Refusal
head_judged_with None region message target moment claim = Err UnknownKey
head_judged_with (Some secret) region message target moment claim =
    seal_after (first_refusal (head_reasons secret region message target moment claim)) (seal_of secret region message claim)

abbrev pub head_judged : List AccessKey → List ℕ → Message → Target → ℕ → Option Authorization → Result (Option Seal) Refusal
head_judged keys region message target moment None = Err HeaderMalformed
head_judged keys region message target moment (Some claim) = head_judged_with (secret_of claim.id keys) region message target moment claim

-- the seal where the owner signed the head, none where the caller is anonymous, or the first refusal that is expected
unfoldable pub seal_or_refusal : List AccessKey → List ℕ → Message → Target → ℕ → Result (Option Seal) Refusal
seal_or_refusal keys region message target moment =
    if has_header (codes "authorization") message.headers
    then head_judged keys region message target moment (claim_of message.headers)
    else Ok None

-- the answer is the one that is expected, or memory ran out
abbrev pub GivesSeal : Result (Option Seal) Refusal → Result (Option Seal) Refusal → Type 0
GivesSeal (Ok seal) due = due ≡ Ok seal
GivesSeal (Err HeaderMalformed) due = due ≡ Err HeaderMalformed
GivesSeal (Err UnknownKey) due = due ≡ Err UnknownKey
GivesSeal (Err WrongScope) due = due ≡ Err WrongScope
GivesSeal (Err UnsignedHeader) due = due ≡ Err UnsignedHeader
GivesSeal (Err NoDate) due = due ≡ Err NoDate
GivesSeal (Err Skewed) due = due ≡ Err Skewed
GivesSeal (Err Streaming) due = due ≡ Err Streaming
GivesSeal (Err NoPayloadHash) due = due ≡ Err NoPayloadHash
GivesSeal (Err (SignatureDiffers hash)) due = due ≡ Err (SignatureDiffers hash)
GivesSeal (Err PayloadDiffers) due = due ≡ Err PayloadDiffers
GivesSeal (Err Memory) due = ⊤
