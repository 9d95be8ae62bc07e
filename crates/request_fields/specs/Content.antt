-- What an object is put with. Sources: RFC 1864 (Content-MD5), RFC 4648, section 4 (base64), and Amazon S3 User Guide, "Working with
-- object metadata"; the limits are this profile's.
use Rattle.std.specs.Prelude.{ℕ, Bool, false, not, ◌&&◌, ◌||◌, ◌==◌, nat_eq, if◌then◌else◌, List, [], length, drop, fold, codes, bytes_eq}
use Rattle.std.specs.Prelude.{Result, Ok, Err}
use Rattle.std.specs.List.{list_any, starts_with}
use Rattle.base64.specs.Engines.{standard}
use Rattle.base64.specs.GeneralPurpose.{decode_of, encode_of}
use Rattle.base64.specs.declared.decode.DecodeError.{DecodeError}
use Rattle.md5.specs.Md5.{md5}
use Rattle.gate_base.specs.declared.page.Pair.{Pair}
use Rattle.s3_names.specs.Meta.{has_name, with_pair}
use Rattle.s3_machine.specs.Limits.{is_kept_header, is_proper_pair}
use Rattle.http_wire.specs.Headers.{has_header, text_of}

abbrev pub has_sixteen_bytes : Result (List ℕ) DecodeError → Bool
has_sixteen_bytes (Ok bytes) = length bytes == 16
has_sixteen_bytes (Err fault) = false

-- the strict base64 of 16 bytes
unfoldable pub is_digest : List ℕ → Bool
is_digest text = has_sixteen_bytes (decode_of standard text)

-- a Content-MD5 that is none
abbrev pub has_bad_digest : List Pair → Bool
has_bad_digest headers = has_header (codes "content-md5") headers && not (is_digest (text_of (codes "content-md5") headers))

-- a Content-MD5 other than the body's
abbrev pub is_other_body : List Pair → List ℕ → Bool
is_other_body headers body =
    has_header (codes "content-md5") headers && not (bytes_eq (text_of (codes "content-md5") headers) (encode_of standard (md5 body)))

-- an absent or empty Content-Type is `binary/octet-stream`
abbrev pub given_type : List Pair → List ℕ
given_type headers =
    if length (text_of (codes "content-type") headers) == 0 then codes "binary/octet-stream" else text_of (codes "content-type") headers

-- a header of the user's own
abbrev pub is_amz_meta_header : List ℕ → Bool
is_amz_meta_header name = starts_with nat_eq name (codes "x-amz-meta-")

-- a header that makes an entry
abbrev pub is_given_meta_entry : List ℕ → Bool
is_given_meta_entry name = is_amz_meta_header name || is_kept_header name

-- the name of the entry: `-` and what follows `x-amz-meta-`, or the header's own
abbrev pub meta_entry_name : List ℕ → List ℕ
meta_entry_name name = if is_amz_meta_header name then drop 10 name else name

-- the entry of a header, with the text of all headers of its name, is put in its place where its name isn't there
abbrev pub entered : List Pair → List Pair → Pair → List Pair
entered headers meta header =
    if is_given_meta_entry header.name && not (has_name (meta_entry_name header.name) meta)
    then with_pair (meta_entry_name header.name) (text_of header.name headers) meta
    else meta

-- the entries of all headers
unfoldable pub given_meta : List Pair → List Pair
given_meta headers = fold (entered headers) [] headers

abbrev pub is_bad_entry : Pair → Bool
is_bad_entry entry = not (is_proper_pair entry)

-- a value past its form; no name that a request can have is past its own
abbrev pub has_bad_entry : List Pair → Bool
has_bad_entry meta = list_any is_bad_entry meta
