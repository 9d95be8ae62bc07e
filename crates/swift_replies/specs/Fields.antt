-- The values of headers, each as it is read. A header that is repeated says nothing. Source: Object Storage API v1; RFC 9110, section 5.
use Rattle.std.specs.Prelude.{
  ℕ,
  Bool,
  true,
  false,
  not,
  ◌&&◌,
  ◌==◌,
  nat_lt,
  if◌then◌else◌,
  ◌+◌,
  suc,
  zero,
  List,
  [],
  ◌∷◌,
  ◌++◌,
  codes,
  decimal,
  bytes_eq,
  Option,
  Some,
  None,
  option_map,
  option_and_then,
}
use Rattle.std.specs.List.{list_all, after_first}
use Rattle.gate_base.specs.Ascii.{is_slash}
use Rattle.gate_base.specs.Told.{moment_limit}
use Rattle.gate_base.specs.declared.page.Pair.{Pair}
use Rattle.http_wire.specs.Headers.{has_header}
use Rattle.swift_calls.specs.declared.account.ReadList.{ReadList}
use Rattle.swift_calls.specs.declared.account.ReadList.TheVariants.{Nobody, Everybody}
use Rattle.swift_calls.specs.declared.heads.StoredHead.{StoredHead}
use Rattle.text_forms.specs.Quotes.{without_quotes}
use Rattle.http_answers.specs.Fields.{field, only, plain_number}

-- ---- containers

abbrev pub everybody : List ℕ
everybody = codes ".r:*,.rlistings"

-- the read list that a value writes
abbrev pub container_readers_by_value : List ℕ → Option ReadList
container_readers_by_value value = if bytes_eq value [] then Some Nobody else (if bytes_eq value everybody then Some Everybody else None)

-- the same where the header may be absent
abbrev pub readers_from : Option (Option (List ℕ)) → Option ReadList
readers_from None = None
readers_from (Some None) = Some Nobody
readers_from (Some (Some value)) = container_readers_by_value value

abbrev pub before_limit : ℕ → Option ℕ
before_limit moment = if nat_lt moment moment_limit then Some moment else None

-- a moment up to the end of the year 9999, in seconds
abbrev pub moment_in : List ℕ → Option ℕ
moment_in value = option_and_then before_limit (plain_number value)

-- the creation time where the header may be absent
abbrev pub created_from : Option (Option (List ℕ)) → Option (Option ℕ)
created_from None = None
created_from (Some None) = Some None
created_from (Some (Some value)) = option_map (λ moment. Some moment) (moment_in value)

abbrev pub reply_readers_in : List Pair → Option ReadList
reply_readers_in headers = readers_from (field (codes "x-container-read") headers)

abbrev pub container_created_in : List Pair → Option (Option ℕ)
container_created_in headers = created_from (field (codes "x-container-meta-s3-created") headers)

-- ---- objects

-- the bytes that an entity tag has between its quotes (RFC 9110, section 8.8.3)
abbrev pub is_reply_etag_byte : ℕ → Bool
is_reply_etag_byte b = nat_lt 32 b && (not (b == 34) && not (b == 127))

abbrev pub tag_only : List ℕ → Option (List ℕ)
tag_only text = if list_all is_reply_etag_byte text then Some text else None

-- an ETag in quotes or without them
abbrev pub tag_in : List ℕ → Option (List ℕ)
tag_in value = tag_only (without_quotes value)

abbrev pub etag_in : List Pair → Option (List ℕ)
etag_in headers = option_and_then tag_in (only (codes "etag") headers)

-- whether an object is a static large object: `True`, or no header
abbrev pub manifest_from : Option (Option (List ℕ)) → Option Bool
manifest_from None = None
manifest_from (Some None) = Some false
manifest_from (Some (Some value)) = if bytes_eq value (codes "True") then Some true else None

abbrev pub reply_manifest_flag_in : List Pair → Option Bool
reply_manifest_flag_in headers = manifest_from (field (codes "x-static-large-object") headers)

-- whether an answer lists segments: `True`, and nothing else says so
abbrev pub lists_from : Option (Option (List ℕ)) → Option Bool
lists_from None = None
lists_from (Some None) = Some false
lists_from (Some (Some value)) = Some (bytes_eq value (codes "True"))

abbrev pub reply_segments_flag_in : List Pair → Option Bool
reply_segments_flag_in headers = lists_from (field (codes "x-static-large-object") headers)

-- the name of a piece of metadata, in lower case
abbrev pub meta_name : ℕ → List ℕ
meta_name i = codes "x-object-meta-s3-" ++ decimal i

-- a piece and those behind it; none where it is absent
abbrev pub meta_by : Option (Option (List ℕ)) → Option (List (List ℕ)) → Option (List (List ℕ))
meta_by None rest = None
meta_by (Some None) rest = Some []
meta_by (Some (Some piece)) rest = option_map (λ pieces. piece ∷ pieces) rest

-- the pieces from a number on, at most so many: those behind a gap count for nothing
unfoldable pub meta_from : ℕ → ℕ → List Pair → Option (List (List ℕ))
meta_from zero i headers = if has_header (meta_name i) headers then None else Some []
meta_from (suc most) i headers = meta_by (field (meta_name i) headers) (meta_from most (i + 1) headers)

-- the pieces of metadata, at most 11
abbrev pub meta_in : List Pair → Option (List (List ℕ))
meta_in headers = meta_from 11 0 headers

-- the size of the whole object: the number after `/` in Content-Range (RFC 9110, section 14.4)
abbrev pub size_behind : List ℕ → Option ℕ
size_behind value = plain_number (after_first is_slash value)

abbrev pub whole_size_in : List Pair → Option ℕ
whole_size_in headers = option_and_then size_behind (only (codes "content-range") headers)

abbrev pub head_from : Option (List ℕ) → Option ℕ → Option (List ℕ) → Option Bool → Option (List (List ℕ)) → Option StoredHead
head_from None size etag manifest meta = None
head_from (Some content_type) None etag manifest meta = None
head_from (Some content_type) (Some size) None manifest meta = None
head_from (Some content_type) (Some size) (Some etag) None meta = None
head_from (Some content_type) (Some size) (Some etag) (Some manifest) None = None
head_from (Some content_type) (Some size) (Some etag) (Some manifest) (Some meta) =
    Some (record { content_type = content_type; size = size; etag = etag; manifest = manifest; meta = meta })

-- the head of an object of a size
abbrev pub head_in : Option ℕ → List Pair → Option StoredHead
head_in size headers = head_from (only (codes "content-type") headers) size (etag_in headers) (reply_manifest_flag_in headers) (meta_in headers)
