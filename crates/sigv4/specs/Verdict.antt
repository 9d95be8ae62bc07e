-- Who sent a request, or why it is refused. Source: Amazon S3 API Reference, "Authenticating requests: using the
-- Authorization header"; the order of the refusals is this profile's.
use Rattle.std.specs.Prelude.{◌≡◌, ⊤, ℕ, Bool, not, ◌&&◌, ◌||◌, nat_eq, if◌then◌else◌, List, [], ◌∷◌, codes, bytes_eq}
use Rattle.std.specs.Prelude.{Option, Some, None, Result, Ok, Err}
use Rattle.std.specs.List.{list_any, starts_with}
use Rattle.hex.specs.Hex.{encode_lower}
use Rattle.sha2.specs.Sha256.{sha256}
use Rattle.gate_base.specs.declared.caller.Caller.{Caller}
use Rattle.gate_base.specs.declared.caller.Caller.TheVariants.{Owner, Anonymous}
use Rattle.gate_base.specs.declared.page.Pair.{Pair}
use Rattle.s3_names.specs.declared.target.Target.{Target}
use Rattle.sign_rules.specs.Rules.{is_of_scope, must_be_signed}
use Rattle.http_wire.specs.Headers.{has_name, has_header, has_single_header, first_value}
use Rattle.http_wire.specs.declared.message.Message.{Message}
use Rattle.sigv4.specs.Authorization.{is_hex, authorization_of}
use Rattle.sigv4.specs.Canonical.{canonical_text}
use Rattle.sigv4.specs.Keys.{secret_of}
use Rattle.sigv4.specs.Moment.{is_time, is_skewed}
use Rattle.sigv4.specs.Sign.{date_of, signed_of}
use Rattle.sigv4.specs.declared.authorization.Authorization.{Authorization}
use Rattle.sigv4.specs.declared.keys.AccessKey.{AccessKey}
use Rattle.sigv4.specs.declared.refusal.Refusal.{Refusal}
use Rattle.sigv4.specs.declared.refusal.Refusal.TheVariants.{HeaderMalformed, UnknownKey, WrongScope, UnsignedHeader, NoDate, Skewed}
use Rattle.sigv4.specs.declared.refusal.Refusal.TheVariants.{Streaming, NoPayloadHash, SignatureDiffers, PayloadDiffers, Memory}
use Rattle.sigv4.specs.declared.signature.Signed.{Signed}

-- what the header says, where it is the only one of its name and has the form
abbrev pub claim_of : List Pair → Option Authorization
claim_of headers =
    if has_single_header (codes "authorization") headers then authorization_of (first_value (codes "authorization") headers) else None

-- another region or another service
abbrev pub has_wrong_scope : List ℕ → Authorization → Bool
has_wrong_scope region claim = not (is_of_scope region claim.region claim.service)

-- the name is one of those
abbrev pub is_among : List ℕ → List (List ℕ) → Bool
is_among name names = list_any (λ other. bytes_eq other name) names

-- a header that had to be signed and isn't
abbrev pub is_left_out : Authorization → Pair → Bool
is_left_out claim header = must_be_signed header.name && not (is_among header.name claim.names)

-- `host` is absent, or such a header is there
abbrev pub leaves_unsigned : Authorization → List Pair → Bool
leaves_unsigned claim headers =
    not (has_header (codes "host") headers) || list_any (is_left_out claim) headers

-- the time of a request, as its header has it
abbrev pub time_of : List Pair → List ℕ
time_of headers = first_value (codes "x-amz-date") headers

-- not exactly one time, or none of the calendar, or of another day than the credential's
abbrev pub lacks_date : Authorization → List Pair → Bool
lacks_date claim headers =
    not (has_single_header (codes "x-amz-date") headers && is_time (time_of headers) && bytes_eq (date_of (time_of headers)) claim.date)

-- the hash of the payload, as its header has it
abbrev pub hash_of : List Pair → List ℕ
hash_of headers = first_value (codes "x-amz-content-sha256") headers

abbrev pub announces_signed_pieces : Pair → Bool
announces_signed_pieces header =
    has_name (codes "x-amz-content-sha256") header && starts_with nat_eq header.value (codes "STREAMING-")

-- the body would come in pieces, each with a signature
abbrev pub has_signed_pieces : List Pair → Bool
has_signed_pieces headers = list_any announces_signed_pieces headers

abbrev pub is_unsigned_payload : List ℕ → Bool
is_unsigned_payload hash = bytes_eq hash (codes "UNSIGNED-PAYLOAD")

-- not exactly one hash, or none of the form
abbrev pub lacks_payload_hash : List Pair → Bool
lacks_payload_hash headers =
    not (has_single_header (codes "x-amz-content-sha256") headers && (is_hex (hash_of headers) || is_unsigned_payload (hash_of headers)))

-- what the request signs to by a secret
unfoldable pub expected : List ℕ → List ℕ → Message → Target → Authorization → Signed
expected secret region message target claim =
    signed_of secret (time_of message.headers) region (canonical_text message target claim.names (hash_of message.headers))

-- the signature is another than that
abbrev pub signature_differs : Authorization → Signed → Bool
signature_differs claim due = not (bytes_eq claim.signature (encode_lower due.signature))

-- the hash is that of another body
abbrev pub payload_differs : Message → Bool
payload_differs message =
    not (is_unsigned_payload (hash_of message.headers))
    && not (bytes_eq (hash_of message.headers) (encode_lower (sha256 message.body)))

-- a reason to refuse, and whether it holds
pub record Reason : Type 0 where
  pub holds : Bool
  pub refusal : Refusal

-- the refusal of the first reason that holds; without one the request is the owner's
abbrev pub first_refusal : List Reason → Result Caller Refusal
first_refusal [] = Ok Owner
first_refusal (reason ∷ reasons) = if reason.holds then Err reason.refusal else first_refusal reasons

-- the reasons against what a header says whose key has this secret, in the order in which they are tried
abbrev pub reasons : List ℕ → List ℕ → Message → Target → ℕ → Authorization → List Reason
reasons secret region message target moment claim =
    record { holds = has_wrong_scope region claim; refusal = WrongScope }
    ∷ record { holds = leaves_unsigned claim message.headers; refusal = UnsignedHeader }
    ∷ record { holds = lacks_date claim message.headers; refusal = NoDate }
    ∷ record { holds = is_skewed (time_of message.headers) moment; refusal = Skewed }
    ∷ record { holds = has_signed_pieces message.headers; refusal = Streaming }
    ∷ record { holds = lacks_payload_hash message.headers; refusal = NoPayloadHash }
    ∷ record {
      holds = signature_differs claim (expected secret region message target claim);
      refusal = SignatureDiffers (expected secret region message target claim).canonical_hash;
    }
    ∷ record { holds = payload_differs message; refusal = PayloadDiffers }
    ∷ []

-- what a header says, by the secret of its id: a request whose id no key has is refused before all other reasons
abbrev pub judged_with : Option (List ℕ) → List ℕ → Message → Target → ℕ → Authorization → Result Caller Refusal
judged_with None region message target moment claim = Err UnknownKey
judged_with (Some secret) region message target moment claim = first_refusal (reasons secret region message target moment claim)

-- a header that doesn't say who signed goes before that
abbrev pub judged : List AccessKey → List ℕ → Message → Target → ℕ → Option Authorization → Result Caller Refusal
judged keys region message target moment None = Err HeaderMalformed
judged keys region message target moment (Some claim) = judged_with (secret_of claim.id keys) region message target moment claim

-- the owner, an anonymous caller, or the first refusal that is expected
unfoldable pub caller_or_refusal : List AccessKey → List ℕ → Message → Target → ℕ → Result Caller Refusal
caller_or_refusal keys region message target moment =
    if has_header (codes "authorization") message.headers
    then judged keys region message target moment (claim_of message.headers)
    else Ok Anonymous

-- the answer is the one that is expected, or memory ran out
abbrev pub Gives : Result Caller Refusal → Result Caller Refusal → Type 0
Gives (Ok caller) due = due ≡ Ok caller
Gives (Err HeaderMalformed) due = due ≡ Err HeaderMalformed
Gives (Err UnknownKey) due = due ≡ Err UnknownKey
Gives (Err WrongScope) due = due ≡ Err WrongScope
Gives (Err UnsignedHeader) due = due ≡ Err UnsignedHeader
Gives (Err NoDate) due = due ≡ Err NoDate
Gives (Err Skewed) due = due ≡ Err Skewed
Gives (Err Streaming) due = due ≡ Err Streaming
Gives (Err NoPayloadHash) due = due ≡ Err NoPayloadHash
Gives (Err (SignatureDiffers hash)) due = due ≡ Err (SignatureDiffers hash)
Gives (Err PayloadDiffers) due = due ≡ Err PayloadDiffers
Gives (Err Memory) due = ⊤
