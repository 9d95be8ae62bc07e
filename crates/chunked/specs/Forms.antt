-- The forms in which a body comes in chunks. Source: Amazon S3 API Reference, "Signature calculations for the Authorization
-- header: transferring a payload in multiple chunks (chunked upload)" and the same ".. including trailing headers".
use Rattle.std.specs.Prelude.{ℕ, Bool, true, false, if◌then◌else◌, List, codes, bytes_eq, Option, Some, None}
use Rattle.chunked.specs.declared.form.ChunkedForm.{ChunkedForm}
use Rattle.chunked.specs.declared.form.ChunkedForm.TheVariants.{UnsignedTrailer, Signed, SignedTrailer}

-- the form that a value of `x-amz-content-sha256` names, byte by byte
abbrev pub form_of : List ℕ → Option ChunkedForm
form_of value =
    if bytes_eq value (codes "STREAMING-UNSIGNED-PAYLOAD-TRAILER") then Some UnsignedTrailer
    else (if bytes_eq value (codes "STREAMING-AWS4-HMAC-SHA256-PAYLOAD") then Some Signed
    else (if bytes_eq value (codes "STREAMING-AWS4-HMAC-SHA256-PAYLOAD-TRAILER") then Some SignedTrailer
    else None))

-- whether each chunk has a signature
abbrev pub is_signed : ChunkedForm → Bool
is_signed UnsignedTrailer = false
is_signed Signed = true
is_signed SignedTrailer = true

-- how many lines may stand behind the last chunk: 8 trailers, and one more for their signature (this profile)
abbrev pub most_lines : ChunkedForm → ℕ
most_lines UnsignedTrailer = 8
most_lines Signed = 0
most_lines SignedTrailer = 9
