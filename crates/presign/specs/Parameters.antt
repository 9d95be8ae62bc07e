-- The parameters of a query that has a signature. Source: Amazon S3 API Reference, "Authenticating requests: using query
-- parameters"; that either of two names makes a request presigned is this profile.
use Rattle.std.specs.Prelude.{ℕ, Bool, ◌&&◌, ◌||◌, List, codes}
use Rattle.gate_base.specs.declared.page.Pair.{Pair}
use Rattle.s3_names.specs.Query.{without}
use Rattle.http_wire.specs.Headers.{has_header, has_single_header, first_value}

-- some parameter has the name. Names are looked up byte by byte, as those of headers are
abbrev pub has_presigned_parameter : List ℕ → List Pair → Bool
has_presigned_parameter name query = has_header name query

-- exactly one parameter has the name
abbrev pub has_one_presigned_parameter : List ℕ → List Pair → Bool
has_one_presigned_parameter name query = has_single_header name query

-- the value of the first parameter of the name, no byte where there is none
abbrev pub parameter : List ℕ → List Pair → List ℕ
parameter name query = first_value name query

-- either of these names says that the request is presigned
abbrev pub is_presigned : List Pair → Bool
is_presigned query = has_presigned_parameter (codes "X-Amz-Algorithm") query || has_presigned_parameter (codes "X-Amz-Signature") query

-- each of the six names of a signature stands exactly once
abbrev pub has_each_once : List Pair → Bool
has_each_once query =
    has_one_presigned_parameter (codes "X-Amz-Algorithm") query && has_one_presigned_parameter (codes "X-Amz-Credential") query
    && has_one_presigned_parameter (codes "X-Amz-Date") query && has_one_presigned_parameter (codes "X-Amz-Expires") query
    && has_one_presigned_parameter (codes "X-Amz-SignedHeaders") query && has_one_presigned_parameter (codes "X-Amz-Signature") query

abbrev pub without_names : List ℕ → List ℕ → List ℕ → List Pair → List Pair
without_names first second third query = without third (without second (without first query))

-- the query without those six names
abbrev pub without_signature : List Pair → List Pair
without_signature query =
    without_names (codes "X-Amz-Expires") (codes "X-Amz-SignedHeaders") (codes "X-Amz-Signature")
    (without_names (codes "X-Amz-Algorithm") (codes "X-Amz-Credential") (codes "X-Amz-Date") query)
