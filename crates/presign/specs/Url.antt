-- A presigned URL. Source: Amazon S3 API Reference, "Authenticating requests: using query parameters"; that `host` alone is signed
-- is this profile.
use Rattle.std.specs.Prelude.{◌≡◌, ◌<◌, ◌≤◌, ℕ, true, Bool, ◌&&◌, ◌||◌, nat_le, ◌==◌, List, [], ◌∷◌, ◌++◌, length, codes, decimal}
use Rattle.std.specs.List.{list_all, join_with_byte}
use Rattle.hex.specs.Hex.{encode_lower}
use Rattle.gate_base.specs.Ascii.{is_digit}
use Rattle.gate_base.specs.declared.outside.TheConstants.{MOMENT_LIMIT as moment_limit}
use Rattle.gate_base.specs.declared.page.Pair.{Pair}
use Rattle.s3_names.specs.Escapes.{escaped_path}
use Rattle.s3_names.specs.declared.target.Target.{Target}
use Rattle.http_wire.specs.declared.message.Message.{Message}
use Rattle.sigv4.specs.Canonical.{canonical_query}
use Rattle.sigv4.specs.Keys.{is_key}
use Rattle.sigv4.specs.Moment.{is_time, signing_time_seconds}
use Rattle.sigv4.specs.Sign.{date_of, signed_of}
use Rattle.presign.specs.Parameters.{has_presigned_parameter}
use Rattle.presign.specs.Verdict.{signed_text}

-- some parameter has one of the six names of a signature
abbrev pub has_signature_name : List Pair → Bool
has_signature_name query =
    has_presigned_parameter (codes "X-Amz-Algorithm") query || has_presigned_parameter (codes "X-Amz-Credential") query
    || has_presigned_parameter (codes "X-Amz-Date") query || has_presigned_parameter (codes "X-Amz-Expires") query
    || has_presigned_parameter (codes "X-Amz-SignedHeaders") query || has_presigned_parameter (codes "X-Amz-Signature") query

-- `a` to `z`, `0` to `9`, `-`
abbrev pub is_region_byte : ℕ → Bool
is_region_byte byte = (nat_le 97 byte && nat_le byte 122) || is_digit byte || byte == 45

-- 1 to 32 of these bytes
abbrev pub is_region : List ℕ → Bool
is_region text = nat_le 1 (length text) && nat_le (length text) 32 && list_all is_region_byte text

-- the key is one, the region one, the moment one that has a time, and the URL holds for a week at most
pub record IsSigner (secret id region : List ℕ) (moment expires : ℕ) : Type 0 where
  pub key : is_key (record { id = id; secret = secret }) ≡ true
  pub regional : is_region region ≡ true
  pub timed : moment < moment_limit
  pub least : 1 ≤ expires
  pub most : expires ≤ 604800

-- the time of the calendar that is a moment
abbrev pub IsTimeOf : ℕ → List ℕ → Type 0
IsTimeOf moment time = (is_time time ≡ true) × (signing_time_seconds time ≡ moment)

-- id "/" date "/" region "/s3/aws4_request"
abbrev pub credential_for : List ℕ → List ℕ → List ℕ → List ℕ
credential_for id date region = join_with_byte 47 (id ∷ date ∷ region ∷ codes "s3" ∷ codes "aws4_request" ∷ [])

abbrev pub scope_parameters : List ℕ → List ℕ → List Pair
scope_parameters credential time =
    record { name = codes "X-Amz-Algorithm"; value = codes "AWS4-HMAC-SHA256" }
    ∷ record { name = codes "X-Amz-Credential"; value = credential }
    ∷ record { name = codes "X-Amz-Date"; value = time }
    ∷ []

abbrev pub span_parameters : List ℕ → List Pair
span_parameters seconds =
    record { name = codes "X-Amz-Expires"; value = seconds }
    ∷ record { name = codes "X-Amz-SignedHeaders"; value = codes "host" }
    ∷ []

-- the parameters that are signed with the request
abbrev pub with_credential : List ℕ → List ℕ → ℕ → List Pair
with_credential credential time expires = scope_parameters credential time ++ span_parameters (decimal expires)

-- the query as it is signed
unfoldable pub signing_query : List ℕ → List ℕ → List ℕ → ℕ → List Pair → List Pair
signing_query id region time expires query = query ++ with_credential (credential_for id (date_of time) region) time expires

-- the names that are signed
abbrev pub host_alone : List (List ℕ)
host_alone = codes "host" ∷ []

-- the path escaped, the query in order and escaped, and a signature behind it
abbrev pub url_text : List ℕ → List Pair → List ℕ → List ℕ
url_text path query signature = ((escaped_path path ++ 63 ∷ []) ++ canonical_query query) ++ codes "&X-Amz-Signature=" ++ signature

-- the URL's path and query
unfoldable pub url_of : List ℕ → List ℕ → Message → List ℕ → List ℕ → List Pair → List ℕ
url_of secret region message path time query =
    url_text path query (encode_lower (signed_of secret time region (signed_text message path query host_alone)).signature)

-- the URL for a moment, which is good for so many seconds
abbrev pub IsPresigned : List ℕ → List ℕ → List ℕ → Message → Target → ℕ → ℕ → List ℕ → Type 0
IsPresigned secret id region message target moment expires url =
    (time : List ℕ) × IsTimeOf moment time
    × (url ≡ url_of secret region message target.path time (signing_query id region time expires target.query))
