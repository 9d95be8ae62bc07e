-- What the head of a message says of a body in chunks. Source: Amazon S3 API Reference, "Signature calculations for the
-- Authorization header: transferring a payload in multiple chunks (chunked upload)"; the digits of a length, the largest body and
-- the codes are this profile's.
use Rattle.std.specs.Prelude.{ℕ, not, nat_lt, if◌then◌else◌, List, [], ◌∷◌, flat_map, codes, Option, Some, None, Result, Ok, Err}
use Rattle.gate_base.specs.declared.page.Pair.{Pair}
use Rattle.text_forms.specs.Numbers.{number_of}
use Rattle.http_wire.specs.Headers.{has_name, has_header, has_single_header, first_value}
use Rattle.s3_machine.specs.declared.code.Code.{Code}
use Rattle.s3_machine.specs.declared.code.Code.TheVariants.{EntityTooLarge, InvalidRequest, MissingContentLength}
use Rattle.chunked.specs.declared.form.ChunkedForm.{ChunkedForm}
use Rattle.chunked.specs.Forms.{form_of}
use Rattle.chunked.specs.Encoding.{without_chunked}

-- the form in which the body comes in chunks, where the one `x-amz-content-sha256` names a form
abbrev pub chunked_form : List Pair → Option ChunkedForm
chunked_form headers =
    if has_single_header (codes "x-amz-content-sha256") headers then form_of (first_value (codes "x-amz-content-sha256") headers) else None

-- how many bytes of data a value announces: 1 to 19 digits, and no more bytes than the largest body has
abbrev pub announced_value : ℕ → Option ℕ → Result ℕ Code
announced_value largest None = Err InvalidRequest
announced_value largest (Some count) = if nat_lt largest count then Err EntityTooLarge else Ok count

-- the one `x-amz-decoded-content-length` announces them
abbrev pub announced_length : ℕ → List Pair → Result ℕ Code
announced_length largest headers =
    if not (has_header (codes "x-amz-decoded-content-length") headers) then Err MissingContentLength
    else (if not (has_single_header (codes "x-amz-decoded-content-length") headers) then Err InvalidRequest
    else announced_value largest (number_of 19 (first_value (codes "x-amz-decoded-content-length") headers)))

-- a header with this value; none where nothing is left of it
abbrev pub header_left : Pair → List ℕ → List Pair
header_left header [] = []
header_left header (byte ∷ text) = record header { value = byte ∷ text } ∷ []

-- a header as it is of the data: `aws-chunked` is no encoding of it
abbrev pub decoded_header : Pair → List Pair
decoded_header header =
    if has_name (codes "content-encoding") header then header_left header (without_chunked header.value) else header ∷ []

-- all of them
abbrev pub decoded_headers : List Pair → List Pair
decoded_headers headers = flat_map decoded_header headers
