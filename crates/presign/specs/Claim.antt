-- What the query of a presigned request says. Source: Amazon S3 API Reference, "Authenticating requests: using query
-- parameters"; which bytes the parts may have is this profile.
use Rattle.std.specs.Prelude.{ℕ, Bool, not, ◌&&◌, nat_le, if◌then◌else◌, List, codes, bytes_eq, Option, Some, None}
use Rattle.std.specs.List.{before_first, slice_split}
use Rattle.std.specs.Str.Parse.{digits_value}
use Rattle.gate_base.specs.Ascii.{is_slash}
use Rattle.gate_base.specs.declared.page.Pair.{Pair}
use Rattle.text_forms.specs.Numbers.{is_number}
use Rattle.http_wire.specs.Headers.{has_header}
use Rattle.sigv4.specs.Authorization.{is_semicolon, behind_id, behind_date, behind_region, behind_service, is_formed}
use Rattle.sigv4.specs.Moment.{is_time}
use Rattle.sigv4.specs.Sign.{date_of}
use Rattle.sigv4.specs.declared.authorization.Authorization.{Authorization}
use Rattle.presign.specs.declared.claim.Claim.{Claim}
use Rattle.presign.specs.Parameters.{has_each_once, parameter}

-- a second to a week
abbrev pub is_expiry_span : ℕ → Bool
is_expiry_span seconds = nat_le 1 seconds && nat_le seconds 604_800

-- the seconds that a text writes, where it writes so many in so few digits
unfoldable pub span_of : List ℕ → Option ℕ
span_of text = if is_number 6 text && is_expiry_span (digits_value 10 text) then Some (digits_value 10 text) else None

-- id "/" date "/" region "/" service "/aws4_request"
abbrev pub credential_in : List Pair → List ℕ
credential_in query = parameter (codes "X-Amz-Credential") query

-- the parts of a credential, the names and the signature
unfoldable pub parts_from : List ℕ → List ℕ → List ℕ → Authorization
parts_from credential names signature = record {
  id = before_first is_slash credential;
  date = before_first is_slash (behind_id credential);
  region = before_first is_slash (behind_date credential);
  service = before_first is_slash (behind_region credential);
  names = slice_split is_semicolon names;
  signature = signature;
}

-- those of a query
abbrev pub parts_of : List Pair → Authorization
parts_of query =
    parts_from (credential_in query) (parameter (codes "X-Amz-SignedHeaders") query) (parameter (codes "X-Amz-Signature") query)

-- the time for which the request was signed
abbrev pub presigned_time_in : List Pair → List ℕ
presigned_time_in query = parameter (codes "X-Amz-Date") query

-- the signature is in the query alone, each parameter stands once, and the algorithm and the end of the credential are the ones
-- that there are
abbrev pub is_labelled : List Pair → List Pair → Bool
is_labelled headers query =
    not (has_header (codes "authorization") headers) && has_each_once query
    && bytes_eq (parameter (codes "X-Amz-Algorithm") query) (codes "AWS4-HMAC-SHA256")
    && bytes_eq (behind_service (credential_in query)) (codes "aws4_request")

-- the text is a time of the calendar, and of that day
abbrev pub is_dated : List ℕ → List ℕ → Bool
is_dated time day = is_time time && bytes_eq (date_of time) day

-- the parts, where each has its form and the time is of the credential's day
abbrev pub formed_presigned_parts : List Pair → List Pair → Option Authorization
formed_presigned_parts headers query =
    if is_labelled headers query && (is_formed (parts_of query) && is_dated (presigned_time_in query) (parts_of query).date) then Some (parts_of query)
    else None

-- what is said for so many seconds, where they and the parts are given
abbrev pub claim_for : List ℕ → Option ℕ → Option Authorization → Option Claim
claim_for time (Some expires) (Some parts) = Some (record { by = parts; time = time; expires = expires })
claim_for time _ _ = None

-- what the query of a request with these headers says, where it has the form
unfoldable pub claim_of : List Pair → List Pair → Option Claim
claim_of headers query = claim_for (presigned_time_in query) (span_of (parameter (codes "X-Amz-Expires") query)) (formed_presigned_parts headers query)
