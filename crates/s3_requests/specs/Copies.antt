-- Which rows copy, and what a request to copy asks for beside its bucket and its key. Sources: Amazon S3 API Reference, "CopyObject" and
-- "UploadPartCopy".
use Rattle.std.specs.Prelude.{ℕ, Bool, true, false, not, ◌&&◌, ◌||◌, ◌==◌, if◌then◌else◌, List, [], length, codes}
use Rattle.std.specs.Prelude.{Option, Some, None, is_none, option_map}
use Rattle.std.specs.Option.{unwrap_or}
use Rattle.gate_base.specs.declared.page.Pair.{Pair}
use Rattle.s3_machine.specs.declared.operation.Op.{Op}
use Rattle.s3_machine.specs.Ops as op
use Rattle.s3_machine.specs.Conditions.{no_conditions}
use Rattle.http_wire.specs.Headers.{has_header}
use Rattle.request_fields.specs.declared.copies.Source.{Source}
use Rattle.request_fields.specs.Copies.{names_source, copy_source_text, asks_further, place_named, has_bad_directive, copied_range, source_at}
use Rattle.request_fields.specs.Uploads.{given_upload, given_part_number}
use Rattle.s3_requests.specs.declared.rows.Row.{Row}
use Rattle.s3_requests.specs.declared.rows.Row.TheVariants.{PutObject, UploadPart, CopyObject, UploadPartCopy}

-- where a source is named, an object and a part are copied instead of put
abbrev pub copying : Bool → Row → Row
copying true PutObject = CopyObject
copying true UploadPart = UploadPartCopy
copying _ row = row

abbrev pub is_copy : Row → Bool
is_copy CopyObject = true
is_copy UploadPartCopy = true
is_copy _ = false

-- a source of a row that copies nothing; of a copy, more of its source than is taken
abbrev pub has_unsupported_source : Bool → Row → List Pair → Bool
has_unsupported_source extended row headers = if is_copy row then asks_further extended headers else names_source headers

-- only a part has a range
abbrev pub takes_range : Row → Bool
takes_range UploadPartCopy = true
takes_range _ = false

-- a range of a row that takes none, or one of another form than `bytes=first-last`
abbrev pub has_bad_range : Row → List Pair → Bool
has_bad_range row headers = has_header (codes "x-amz-copy-source-range") headers && (not (takes_range row) || is_none (copied_range headers))

abbrev pub source_of : Row → List Pair → Option Source
source_of row headers =
    if has_bad_directive headers || has_bad_range row headers then None else option_map (source_at headers) (place_named (copy_source_text headers))

abbrev pub no_source : Source
no_source = record { bucket = []; key = []; range = None; replaces = false; conditions = no_conditions }

-- the source of a row that copies, if it can be read. No other row has one
abbrev pub taken_source : Row → List Pair → Option Source
taken_source row headers = if is_copy row then source_of row headers else Some no_source

-- that; one that can't be read is refused before it counts
abbrev pub given_source : Row → List Pair → Source
given_source row headers = unwrap_or (taken_source row headers) no_source

-- a source, or what is said of it, that can't be read
abbrev pub has_bad_source : Row → List Pair → Bool
has_bad_source row headers = is_none (taken_source row headers)

-- a copy with bytes of its own
abbrev pub has_body_of_copy : Row → List ℕ → Bool
has_body_of_copy row body = is_copy row && not (length body == 0)

-- UploadPartCopy, of a bucket, a key and a query
abbrev pub part_copy_asked : List ℕ → List ℕ → List Pair → Source → Op
part_copy_asked bucket key query source =
    op.CopyPart bucket key (given_upload query) (given_part_number query) source.bucket source.key source.range source.conditions
