-- The requests of a trial, which a number determines. Source: this profile, "The requests of a trial"; the generator is PCG32 (XSH RR
-- 64/32), and the signatures are those of Amazon S3.
use Rattle.std.specs.Prelude.{ℕ, zero, suc, ◌+◌, ◌*◌, ◌/◌, ◌%◌, Bool, nat_le, ◌==◌, if◌then◌else◌, List, [], ◌∷◌, ◌++◌, length, map, codes, decimal, Option, Some, None}
use Rattle.std.specs.List.{join_with_byte}
use Rattle.sha2.specs.Sha256.{sha256}
use Rattle.hex.specs.Hex.{encode_lower}
use Rattle.rand_core.specs.Pcg32Seed.{pcg32_seed}
use Rattle.rand_pcg.specs.Lcg.{Lcg}
use Rattle.rand_pcg.specs.Pcg.{pcg32, pcg32_of_seed}
use Rattle.gate_base.specs.declared.page.Pair.{Pair}
use Rattle.s3_names.specs.Id.{id_digits}
use Rattle.sigv4.specs.Canonical.{canonical_of}
use Rattle.sigv4.specs.Sign.{date_of, signed_of}
use Rattle.trial_requests.specs.declared.asked.BegunUpload.{BegunUpload}
use Rattle.trial_requests.specs.declared.asked.TrialRequest.{TrialRequest}

-- ---- what is asked for

abbrev pub bucket_path : ℕ → List ℕ
bucket_path bucket = codes "/trial-" ++ decimal bucket

abbrev pub key_path : ℕ → ℕ → List ℕ
key_path bucket key = bucket_path bucket ++ codes "/k" ++ decimal key

abbrev pub ask : List ℕ → List ℕ → List Pair → List ℕ → TrialRequest
ask method path query body = record { method = method; path = path; query = query; body = body }

abbrev pub header_of : List ℕ → List ℕ → Pair
header_of name value = record { name = name; value = value }

abbrev pub id_value : ℕ → List ℕ
id_value id = id_digits id

-- the requests that put a bucket, or an object whose body is the index in decimal, by their kinds
unfoldable pub request_that_puts : ℕ → ℕ → ℕ → ℕ → TrialRequest
request_that_puts kind index bucket key =
    if nat_le kind 1 then ask (codes "PUT") (bucket_path bucket) [] []
    else ask (codes "PUT") (key_path bucket key) [] (decimal index)

-- the others that mean no upload, by their kinds
unfoldable pub request_without_body : ℕ → ℕ → ℕ → TrialRequest
request_without_body kind bucket key =
    if nat_le kind 4 then ask (codes "GET") (key_path bucket key) [] []
    else (if nat_le kind 5 then ask (codes "DELETE") (key_path bucket key) [] []
    else (if nat_le kind 6 then ask (codes "GET") (bucket_path bucket) (header_of (codes "list-type") (codes "2") ∷ header_of (codes "max-keys") (codes "2") ∷ []) []
    else (if nat_le kind 7 then ask (codes "DELETE") (bucket_path bucket) [] []
    else ask (codes "POST") (key_path bucket key) (header_of (codes "uploads") [] ∷ []) [])))

-- the body that completes an upload by its part 1, whose bytes are `hello`
abbrev pub completion : List ℕ
completion = codes "<CompleteMultipartUpload><Part><PartNumber>1</PartNumber><ETag>\"5d41402abc4b2a76b9719d911017c592\"</ETag></Part></CompleteMultipartUpload>"

-- the requests that mean an upload, by their kinds
unfoldable pub request_of_upload : ℕ → BegunUpload → TrialRequest
request_of_upload kind upload =
    if nat_le kind 9 then ask (codes "PUT") (key_path upload.bucket upload.key) (header_of (codes "partNumber") (codes "1") ∷ header_of (codes "uploadId") (id_value upload.id) ∷ []) (codes "hello")
    else (if nat_le kind 10 then ask (codes "POST") (key_path upload.bucket upload.key) (header_of (codes "uploadId") (id_value upload.id) ∷ []) completion
    else ask (codes "DELETE") (key_path upload.bucket upload.key) (header_of (codes "uploadId") (id_value upload.id) ∷ []) [])

-- the upload that is meant: the latest that a request began, or the id 0 of the request's own bucket and key
abbrev pub meant_upload : Option BegunUpload → ℕ → ℕ → BegunUpload
meant_upload None bucket key = record { bucket = bucket; key = key; id = 0 }
meant_upload (Some upload) bucket key = upload

abbrev pub request_of : ℕ → ℕ → ℕ → ℕ → Option BegunUpload → TrialRequest
request_of kind index bucket key latest =
    if nat_le kind 3 then request_that_puts kind index bucket key
    else (if nat_le kind 8 then request_without_body kind bucket key else request_of_upload kind (meant_upload latest bucket key))

-- the latest upload after a request: one of kind 8 begins one, whose id is its second draw
abbrev pub begun_after : ℕ → ℕ → ℕ → ℕ → Option BegunUpload → Option BegunUpload
begun_after kind index bucket key latest =
    if kind == 8 then Some (record { bucket = bucket; key = key; id = 2 * index + 2 }) else latest

-- ---- its bytes

abbrev pub two : ℕ → List ℕ
two number = (48 + number / 10) ∷ (48 + number % 10) ∷ []

-- the time of a request: 24 May 2013 at 00:00:00, and a second for each request before it
abbrev pub trial_time : ℕ → List ℕ
trial_time index =
    codes "201305" ++ two (24 + index / 86400) ++ codes "T" ++ two (index % 86400 / 3600) ++ two (index / 60 % 60) ++ two (index % 60) ++ codes "Z"

abbrev pub hash_text : List ℕ → List ℕ
hash_text body = encode_lower (sha256 body)

abbrev pub signed_names : List (List ℕ)
signed_names = codes "host" ∷ codes "x-amz-content-sha256" ∷ codes "x-amz-date" ∷ []

abbrev pub signed_headers : List ℕ → List ℕ → List Pair
signed_headers hash time = header_of (codes "host") (codes "trial") ∷ header_of (codes "x-amz-content-sha256") hash ∷ header_of (codes "x-amz-date") time ∷ []

abbrev pub canonical_of_trial : TrialRequest → List ℕ → List ℕ → List ℕ
canonical_of_trial request hash time = canonical_of request.method request.path request.query (signed_headers hash time) signed_names hash

abbrev pub signature_text : TrialRequest → List ℕ → List ℕ → List ℕ
signature_text request hash time = encode_lower (signed_of (codes "trial") time (codes "us-east-1") (canonical_of_trial request hash time)).signature

-- the value of Authorization with a signature
abbrev pub credential : List ℕ → List ℕ → List ℕ
credential time signature =
    codes "AWS4-HMAC-SHA256 Credential=TRIAL/" ++ date_of time
    ++ codes "/us-east-1/s3/aws4_request,SignedHeaders=host;x-amz-content-sha256;x-amz-date,Signature=" ++ signature

-- the same of a request with this hash of its body, at a time
unfoldable pub credential_of : TrialRequest → List ℕ → List ℕ → List ℕ
credential_of request hash time = credential time (signature_text request hash time)

unfoldable pub field : List ℕ → List ℕ → List ℕ
field name value = name ++ codes ": " ++ value ++ codes "\r\n"

-- a parameter without a value is its name alone
abbrev pub parameter_text : Pair → List ℕ
parameter_text pair = if length pair.value == 0 then pair.name else pair.name ++ codes "=" ++ pair.value

unfoldable pub query_text : List Pair → List ℕ
query_text query = if length query == 0 then [] else codes "?" ++ join_with_byte 38 (map parameter_text query)

unfoldable pub method_and_path : TrialRequest → List ℕ
method_and_path request = request.method ++ codes " " ++ request.path

abbrev pub first_line : TrialRequest → List ℕ
first_line request = method_and_path request ++ query_text request.query ++ codes " HTTP/1.1\r\n"

abbrev pub signed_fields : List ℕ → List ℕ → List ℕ
signed_fields hash time = field (codes "host") (codes "trial") ++ field (codes "x-amz-content-sha256") hash ++ field (codes "x-amz-date") time

abbrev pub last_fields : ℕ → List ℕ → List ℕ
last_fields size credential = field (codes "Content-Length") (decimal size) ++ field (codes "Authorization") credential ++ codes "\r\n"

-- the first line, the headers and the empty line
unfoldable pub head_of : TrialRequest → List ℕ → List ℕ → List ℕ → List ℕ
head_of request hash time credential = first_line request ++ signed_fields hash time ++ last_fields (length request.body) credential

unfoldable pub request_text : ℕ → TrialRequest → List ℕ
request_text index request =
    let time = trial_time index in
    let hash = hash_text request.body in
    head_of request hash time (credential_of request hash time) ++ request.body

-- ---- one behind the other

-- where a trial stands between two requests: the generator, the latest upload that was begun, and the bytes so far
pub record TrialPoint : Type 0 where
  pub source : Lcg
  pub latest : Option BegunUpload
  pub text : List ℕ

abbrev pub point_of : Lcg → Option BegunUpload → List ℕ → TrialPoint
point_of source latest text = record { source = source; latest = latest; text = text }

-- behind the request of an index, which takes three words of the generator: its kind, its bucket and its key
unfoldable pub next_point : ℕ → TrialPoint → TrialPoint
next_point index point =
    let first = pcg32 point.source in
    let second = pcg32 first.1 in
    let third = pcg32 second.1 in
    let kind = first.0 % 12 in
    let bucket = second.0 % 3 in
    let key = third.0 % 8 in
    point_of third.1 (begun_after kind index bucket key point.latest) (point.text ++ request_text index (request_of kind index bucket key point.latest))

-- behind the first requests
unfoldable pub trial_point : ℕ → ℕ → TrialPoint
trial_point number zero = point_of (pcg32_of_seed (pcg32_seed 16 number)) None []
trial_point number (suc index) = next_point index (trial_point number index)

abbrev pub trial_text : ℕ → ℕ → List ℕ
trial_text number requests = (trial_point number requests).text
