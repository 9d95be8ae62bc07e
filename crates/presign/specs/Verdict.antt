-- Who sent a presigned request, or why it is refused. Source: Amazon S3 API Reference, "Authenticating requests: using query
-- parameters"; the order of the refusals, and that a signature holds 900 seconds before its time, is this profile's.
use Rattle.std.specs.Prelude.{◌≡◌, ⊤, ℕ, ◌-◌, Bool, not, ◌&&◌, ◌||◌, nat_lt, if◌then◌else◌, List, [], ◌∷◌, codes, bytes_eq}
use Rattle.std.specs.Prelude.{Option, Some, None, Result, Ok, Err}
use Rattle.std.specs.List.{list_any}
use Rattle.gate_base.specs.declared.caller.Caller.{Caller}
use Rattle.gate_base.specs.declared.caller.Caller.TheVariants.{Owner}
use Rattle.gate_base.specs.declared.page.Pair.{Pair}
use Rattle.s3_names.specs.Query.{without}
use Rattle.s3_names.specs.declared.target.Target.{Target}
use Rattle.http_wire.specs.Headers.{has_header}
use Rattle.http_wire.specs.declared.message.Message.{Message}
use Rattle.sign_rules.specs.Rules.{must_be_signed}
use Rattle.sigv4.specs.Canonical.{canonical_of}
use Rattle.sigv4.specs.Keys.{secret_of}
use Rattle.sigv4.specs.Moment.{signing_time_seconds}
use Rattle.sigv4.specs.Sign.{signed_of}
use Rattle.sigv4.specs.Verdict.{has_wrong_scope, is_among, has_signed_pieces, signature_differs}
use Rattle.sigv4.specs.declared.keys.AccessKey.{AccessKey}
use Rattle.sigv4.specs.declared.signature.Signed.{Signed}
use Rattle.presign.specs.declared.claim.Claim.{Claim}
use Rattle.presign.specs.declared.refusal.QueryRefusal.{QueryRefusal}
use Rattle.presign.specs.declared.refusal.QueryRefusal.TheVariants.{QueryMalformed, UnknownKey, WrongScope, UnsignedHeader}
use Rattle.presign.specs.declared.refusal.QueryRefusal.TheVariants.{Streaming, OutOfTime, SignatureDiffers, Memory}
use Rattle.presign.specs.Claim.{claim_of}

-- a header that had to be signed and isn't: a URL can't tell the hash of a body that is sent later, so this one may be added
abbrev pub is_left_out : List (List ℕ) → Pair → Bool
is_left_out names header =
    must_be_signed header.name && not (bytes_eq header.name (codes "x-amz-content-sha256")) && not (is_among header.name names)

-- `host` is absent, or such a header is there
abbrev pub leaves_unsigned : List (List ℕ) → List Pair → Bool
leaves_unsigned names headers = not (has_header (codes "host") headers) || list_any (is_left_out names) headers

-- the moment is more than 900 seconds before the time of the signature, or more seconds behind it than the signature holds
abbrev pub is_out_of_time : Claim → ℕ → Bool
is_out_of_time claim moment = nat_lt 900 (signing_time_seconds claim.time - moment) || nat_lt claim.expires (moment - signing_time_seconds claim.time)

-- a request as it is signed: nothing is said of its body
abbrev pub signed_text : Message → List ℕ → List Pair → List (List ℕ) → List ℕ
signed_text message path query names = canonical_of message.method path query message.headers names (codes "UNSIGNED-PAYLOAD")

-- what the request signs to by a secret: with the query but for the signature itself
unfoldable pub expected : List ℕ → List ℕ → Message → Target → Claim → Signed
expected secret region message target claim =
    signed_of secret claim.time region (signed_text message target.path (without (codes "X-Amz-Signature") target.query) claim.by.names)

-- a reason to refuse, and whether it holds
pub record Reason : Type 0 where
  pub holds : Bool
  pub refusal : QueryRefusal

-- the refusal of the first reason that holds; without one the request is the owner's
abbrev pub first_refusal : List Reason → Result Caller QueryRefusal
first_refusal [] = Ok Owner
first_refusal (reason ∷ reasons) = if reason.holds then Err reason.refusal else first_refusal reasons

-- the reasons against what a query says whose key has this secret, in the order in which they are tried
abbrev pub reasons : List ℕ → List ℕ → Message → Target → ℕ → Claim → List Reason
reasons secret region message target moment claim =
    record { holds = has_wrong_scope region claim.by; refusal = WrongScope }
    ∷ record { holds = leaves_unsigned claim.by.names message.headers; refusal = UnsignedHeader }
    ∷ record { holds = has_signed_pieces message.headers; refusal = Streaming }
    ∷ record { holds = is_out_of_time claim moment; refusal = OutOfTime }
    ∷ record {
      holds = signature_differs claim.by (expected secret region message target claim);
      refusal = SignatureDiffers (expected secret region message target claim).canonical_hash;
    }
    ∷ []

-- what a query says, by the secret of its id: a request whose id no key has is refused before all other reasons
abbrev pub judged_with : Option (List ℕ) → List ℕ → Message → Target → ℕ → Claim → Result Caller QueryRefusal
judged_with None region message target moment claim = Err UnknownKey
judged_with (Some secret) region message target moment claim = first_refusal (reasons secret region message target moment claim)

-- a query that doesn't say who signed goes before that
abbrev pub judged : List AccessKey → List ℕ → Message → Target → ℕ → Option Claim → Result Caller QueryRefusal
judged keys region message target moment None = Err QueryMalformed
judged keys region message target moment (Some claim) = judged_with (secret_of claim.by.id keys) region message target moment claim

-- the owner, or the first refusal that is expected
unfoldable pub owner_or_refusal : List AccessKey → List ℕ → Message → Target → ℕ → Result Caller QueryRefusal
owner_or_refusal keys region message target moment =
    judged keys region message target moment (claim_of message.headers target.query)

-- the answer is the one that is expected, or memory ran out
abbrev pub Gives : Result Caller QueryRefusal → Result Caller QueryRefusal → Type 0
Gives (Ok caller) due = due ≡ Ok caller
Gives (Err QueryMalformed) due = due ≡ Err QueryMalformed
Gives (Err UnknownKey) due = due ≡ Err UnknownKey
Gives (Err WrongScope) due = due ≡ Err WrongScope
Gives (Err UnsignedHeader) due = due ≡ Err UnsignedHeader
Gives (Err Streaming) due = due ≡ Err Streaming
Gives (Err OutOfTime) due = due ≡ Err OutOfTime
Gives (Err (SignatureDiffers hash)) due = due ≡ Err (SignatureDiffers hash)
Gives (Err Memory) due = ⊤
