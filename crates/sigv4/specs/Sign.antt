-- The string to sign and its signature. Source: Amazon S3 API Reference, "Authenticating requests: using the
-- Authorization header", tasks 2 and 3.
use Rattle.std.specs.Prelude.{ℕ, Bool, ◌&&◌, ◌==◌, List, [], ◌∷◌, ◌++◌, length, take, codes, slice_index, slice_range}
use Rattle.std.specs.List.{list_all, join_with_byte}
use Rattle.hex.specs.Hex.{encode_lower}
use Rattle.gate_base.specs.Ascii.{is_digit}
use Rattle.sha2.specs.Sha256.{sha256}
use Rattle.sigv4.specs.Hmac.{hmac}
use Rattle.sigv4.specs.declared.signature.Signed.{Signed}

-- `YYYYMMDDTHHMMSSZ`: eight digits, `T`, six digits and `Z`
abbrev pub is_date_time : List ℕ → Bool
is_date_time text =
    length text == 16 && list_all is_digit (take 8 text) && slice_index text 8 == 84
    && list_all is_digit (slice_range text 9 15) && slice_index text 15 == 90

-- `YYYYMMDD`
abbrev pub date_of : List ℕ → List ℕ
date_of date_time = take 8 date_time

-- date "/" region "/s3/aws4_request"
abbrev pub scope_of : List ℕ → List ℕ → List ℕ
scope_of date region = join_with_byte 47 (date ∷ region ∷ codes "s3" ∷ codes "aws4_request" ∷ [])

-- the algorithm, the time, the scope and the hash of the canonical request
abbrev pub string_to_sign : List ℕ → List ℕ → List ℕ → List ℕ
string_to_sign date_time scope hash = join_with_byte 10 (codes "AWS4-HMAC-SHA256" ∷ date_time ∷ scope ∷ encode_lower hash ∷ [])

-- one code over the other, from the secret on
abbrev pub signing_key : List ℕ → List ℕ → List ℕ → List ℕ
signing_key secret date region = hmac (hmac (hmac (hmac (codes "AWS4" ++ secret) date) region) (codes "s3")) (codes "aws4_request")

-- the signature of a canonical request that has this hash
abbrev pub signature_of : List ℕ → List ℕ → List ℕ → List ℕ → List ℕ
signature_of secret date_time region hash =
    hmac (signing_key secret (date_of date_time) region) (string_to_sign date_time (scope_of (date_of date_time) region) hash)

-- what a canonical request signs to
unfoldable pub signed_of : List ℕ → List ℕ → List ℕ → List ℕ → Signed
signed_of secret date_time region canonical =
    record { canonical_hash = sha256 canonical; signature = signature_of secret date_time region (sha256 canonical) }
