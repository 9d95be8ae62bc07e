-- What the operations on uploads in parts ask for beside a bucket and a key, and the parts that a completion lists. Sources: Amazon S3 API
-- Reference, "ListMultipartUploads", "ListParts" and "CompleteMultipartUpload".
use Rattle.std.specs.Prelude.{ℕ, Bool, List, [], codes, Option, Some, is_none}
use Rattle.std.specs.Option.{unwrap_or}
use Rattle.gate_base.specs.declared.page.Pair.{Pair}
use Rattle.s3_machine.specs.declared.operation.Listed.{Listed}
use Rattle.s3_machine.specs.declared.operation.Op.{Op}
use Rattle.s3_machine.specs.Ops.{ListUploads, ListParts}
use Rattle.s3_bodies.specs.Listed.{listed_in}
use Rattle.request_fields.specs.Listings.{most_by}
use Rattle.request_fields.specs.Query.{is_asked, text_at}
use Rattle.request_fields.specs.Uploads.{given_upload, given_part_marker}
use Rattle.s3_requests.specs.declared.rows.Row.{Row}
use Rattle.s3_requests.specs.declared.rows.Row.TheVariants.{CompleteMultipartUpload}

-- what the body lists of a row that completes an upload, if it can be read. No other row lists a part
abbrev pub taken_listed_parts : Row → List ℕ → Option (List Listed)
taken_listed_parts CompleteMultipartUpload body = listed_in body
taken_listed_parts _ body = Some []

-- its list; one that can't be read is refused before it counts
abbrev pub given_list : Row → List ℕ → List Listed
given_list row body = unwrap_or (taken_listed_parts row body) []

-- a body that should list parts and is no completion, or lists more parts than an upload has
abbrev pub has_bad_list : Row → List ℕ → Bool
has_bad_list row body = is_none (taken_listed_parts row body)

-- ListMultipartUploads, of a bucket
abbrev pub uploads_asked : List ℕ → List Pair → Op
uploads_asked bucket query =
    ListUploads bucket (text_at (codes "prefix") query) (text_at (codes "key-marker") query) (text_at (codes "upload-id-marker") query)
    (most_by (codes "max-uploads") query) (is_asked query (codes "encoding-type"))

-- ListParts, of a bucket and a key
abbrev pub parts_asked : List ℕ → List ℕ → List Pair → Op
parts_asked bucket key query = ListParts bucket key (given_upload query) (given_part_marker query) (most_by (codes "max-parts") query)
