-- The page of each reply. Source: Amazon S3 API Reference, and RFC 9110 for the headers that are not S3's own.
use Rattle.s3_machine.specs.declared.operation.Reply.TheVariants.{OfObjects, OfUploads}
use Rattle.s3_machine.specs.declared.operation.Reply.TheVariants as reply_as
use Rattle.s3_machine.specs.declared.operation.ObjectsReply.TheVariants as objects_reply
use Rattle.s3_machine.specs.declared.operation.UploadsReply.TheVariants as uploads_reply
use Rattle.std.specs.Prelude.{ℕ, ◌+◌, ◌-◌, Bool, true, false, if◌then◌else◌, List, [], ◌∷◌, ◌++◌, map, take, drop, position, slice_index_or, slice_set, codes, bytes_eq, decimal, Option, None, Some}
use Rattle.std.specs.Char.{to_ascii_lowercase}
use Rattle.gate_base.specs.declared.page.Page.{Page}
use Rattle.gate_base.specs.declared.page.Pair.{Pair}
use Rattle.s3_machine.specs.declared.code.Code.{Code}
use Rattle.s3_machine.specs.declared.code.Code.TheVariants.{InvalidRange, ServiceUnavailable}
use Rattle.s3_machine.specs.declared.operation.Label.{Label}
use Rattle.s3_machine.specs.declared.operation.ObjectHead.{ObjectHead}
use Rattle.s3_machine.specs.declared.operation.Reply.{Reply}
use Rattle.s3_machine.specs.declared.operation.ObjectBytes.{ObjectBytes}
use Rattle.s3_machine.specs.declared.operation.Reply.TheVariants.{Refused, Memory, Done, Gone, NotModified, Stored}
use Rattle.s3_machine.specs.Replies.{Location}
use Rattle.s3_machine.specs.Limits.{is_own_name}
use Rattle.s3_pages.specs.declared.context.ExtendedPage.{ExtendedPage}
use Rattle.s3_pages.specs.declared.context.PageContext.{PageContext}
use Rattle.s3_pages.specs.Codes.{status_of}
use Rattle.s3_pages.specs.Date.{http_date}
use Rattle.s3_pages.specs.Bodies.{acl_body, buckets_body, completed_body, copied_body, deleted_body, location_body, objects_body, parts_body, setting_body, started_body, uploads_body}
use Rattle.s3_pages.specs.Texts.{id_text, quoted}
use Rattle.s3_pages.specs.Xml.{error_body}

abbrev pub header : List ℕ → List ℕ → Pair
header name value = record { name = name; value = value }

-- the headers that every page begins with
abbrev pub common_headers : Label → List Pair
common_headers label = header (codes "Date") (http_date label.moment) ∷ header (codes "x-amz-request-id") (id_text label.request_id) ∷ []

-- the last header of a page whose body is XML
abbrev pub xml_type : Pair
xml_type = header (codes "Content-Type") (codes "application/xml")

-- a page whose body is XML
abbrev pub xml_page : ℕ → List ℕ → Label → Page
xml_page status body label = record { status = status; headers = common_headers label ++ xml_type ∷ []; body = body }

abbrev pub refused_page : Code → Label → PageContext → Page
refused_page code label context = xml_page (status_of code) (error_body context.extended code context.resource label.request_id) label

abbrev pub done_page : Label → Page
done_page label = record { status = 200; headers = common_headers label; body = [] }

abbrev pub gone_page : Label → Page
gone_page label = record { status = 204; headers = common_headers label; body = [] }

abbrev pub made_page : List ℕ → Label → Page
made_page bucket label = record { status = 200; headers = common_headers label ++ header (codes "Location") (codes "/" ++ bucket) ∷ []; body = [] }

abbrev pub etag_header : List ℕ → Pair
etag_header etag = header (codes "ETag") (quoted etag)

-- the header of a checksum that was compared
abbrev pub checksum_headers : Option Pair → List Pair
checksum_headers None = []
checksum_headers (Some pair) = pair ∷ []

abbrev pub stored_page : List ℕ → Option Pair → Label → Page
stored_page etag checksum label = record { status = 200; headers = common_headers label ++ etag_header etag ∷ checksum_headers checksum; body = [] }

-- an object that a condition left where it is
abbrev pub not_modified_page : ObjectHead → Label → Page
not_modified_page head label = record {
  status = 304;
  headers = common_headers label ++ etag_header head.etag ∷ header (codes "Last-Modified") (http_date head.modified) ∷ [];
  body = [];
}

-- ---- an object

-- what is said of the object itself
abbrev pub head_headers : ObjectHead → List Pair
head_headers head =
    header (codes "Last-Modified") (http_date head.modified)
    ∷ etag_header head.etag
    ∷ header (codes "Accept-Ranges") (codes "bytes")
    ∷ header (codes "Content-Type") head.content_type
    ∷ []

-- a name of the user's own stands behind `x-amz-meta` (Amazon S3 User Guide, "Working with object metadata")
abbrev pub meta_name : List ℕ → List ℕ
meta_name name = if is_own_name name then codes "x-amz-meta-" ++ drop 1 name else name

abbrev pub meta_header : Pair → Pair
meta_header pair = header (meta_name pair.name) pair.value

-- the first byte, the last one and the size of the whole (RFC 9110, section 14.4)
abbrev pub range_text : ℕ → ℕ → ℕ → List ℕ
range_text from length size = codes "bytes " ++ decimal from ++ codes "-" ++ decimal (from + length - 1) ++ codes "/" ++ decimal size

abbrev pub range_headers : Bool → ℕ → ℕ → ℕ → List Pair
range_headers true from length size = header (codes "Content-Range") (range_text from length size) ∷ []
range_headers false from length size = []

abbrev pub read_status : Bool → ℕ
read_status true = 206
read_status false = 200

-- two headers have the same name, in any case
abbrev pub has_same_name : Pair → Pair → Bool
has_same_name shown h = bytes_eq (map to_ascii_lowercase h.name) (map to_ascii_lowercase shown.name)

-- the headers with one that is shown, by the place of the first of its name: its value in place of that one's, and without one the header
-- at the end
abbrev pub shown_at : Option ℕ → Pair → List Pair → List Pair
shown_at None shown headers = headers ++ shown ∷ []
shown_at (Some place) shown headers = slice_set headers place (header (slice_index_or headers place shown).name shown.value)

abbrev pub with_shown : Pair → List Pair → List Pair
with_shown shown headers = shown_at (position (has_same_name shown) headers) shown headers

-- the headers with all that are shown, one after another
unfoldable pub overlaid : List Pair → List Pair → List Pair
overlaid [] headers = headers
overlaid (shown ∷ rest) headers = overlaid rest (with_shown shown headers)

-- how many parts an object has
abbrev pub parts_headers : Option ℕ → List Pair
parts_headers None = []
parts_headers (Some count) = header (codes "x-amz-mp-parts-count") (decimal count) ∷ []

-- the length is said also where the body is empty, as in the answer to a HEAD
abbrev pub object_headers : ObjectBytes → Label → List Pair
object_headers object label =
    common_headers label ++ overlaid object.shown (head_headers object.head ++ map meta_header object.head.meta)
    ++ range_headers object.partial object.from object.length object.head.size ++ parts_headers object.parts
    ++ header (codes "Content-Length") (decimal object.length) ∷ []

abbrev pub object_page : ObjectBytes → Label → Page
object_page object label = record { status = read_status object.partial; headers = object_headers object label; body = object.body }

-- ---- what a page of the extended profile tells beside its reply

-- the code of a refusal
abbrev pub refused_code : Reply → Option Code
refused_code (Refused code) = Some code
refused_code reply = None

-- the size of an object that has no byte of the range that was asked for (RFC 9110, section 14.4)
abbrev pub size_headers : Option Code → List Pair
size_headers (Some (InvalidRange (Some size))) = header (codes "Content-Range") (codes "bytes */" ++ decimal size) ∷ []
size_headers code = []

-- the region, in the page of a HEAD of a bucket
abbrev pub region_headers : ExtendedPage → List Pair
region_headers extended = if extended.heads_bucket then header (codes "x-amz-bucket-region") extended.region ∷ [] else []

-- when to try again (RFC 9110, section 10.2.3)
abbrev pub retry_headers : Option Code → List Pair
retry_headers (Some ServiceUnavailable) = header (codes "Retry-After") (codes "1") ∷ []
retry_headers code = []

abbrev pub beside_headers : ExtendedPage → Option Code → List Pair
beside_headers extended code = size_headers code ++ region_headers extended ++ retry_headers code

-- they stand behind the two headers that every page begins with
abbrev pub with_beside : Option ExtendedPage → Option Code → Page → Page
with_beside None code page = page
with_beside (Some extended) code page = record page { headers = take 2 page.headers ++ beside_headers extended code ++ drop 2 page.headers }

-- ---- the pages

-- a page of the strict profile tells of the path alone
abbrev pub strict_context : List ℕ → PageContext
strict_context resource = record { resource = resource; extended = None }

-- the reply bears the bytes of an object
abbrev pub bears_bytes : Reply → Bool
bears_bytes (reply_as.Object object) = true
bears_bytes reply = false

-- the page of a reply, but for what is told beside it; that of `Memory` is never asked for
abbrev pub reply_page : Reply → Label → PageContext → Page
reply_page (Refused code) label context = refused_page code label context
reply_page Memory label context = record { status = 500; headers = []; body = [] }
reply_page Done label context = done_page label
reply_page Gone label context = gone_page label
reply_page (NotModified head) label context = not_modified_page head label
reply_page (OfObjects (objects_reply.Buckets page)) label context = xml_page 200 (buckets_body page) label
reply_page (OfObjects (objects_reply.Made bucket)) label context = made_page bucket label
reply_page (OfObjects (objects_reply.Location region)) label context = xml_page 200 (location_body region) label
reply_page (OfObjects (objects_reply.AclOf acl)) label context = xml_page 200 (acl_body acl) label
reply_page (OfObjects (objects_reply.Objects page)) label context = xml_page 200 (objects_body page.bucket page.asked page.items page.truncated) label
reply_page (OfUploads (uploads_reply.Uploads page)) label context =
    xml_page 200 (uploads_body page.bucket page.asked.prefix page.asked.key_marker page.asked.id_marker page.asked.max page.asked.url page.items page.truncated) label
reply_page (Stored stored) label context = stored_page stored.etag stored.checksum label
reply_page (reply_as.Object object) label context = object_page object label
reply_page (OfUploads (uploads_reply.Started started)) label context = xml_page 200 (started_body started.bucket started.key started.id) label
reply_page (OfUploads (uploads_reply.Parts page)) label context = xml_page 200 (parts_body page.bucket page.key page.id page.asked.marker page.asked.max page.items page.truncated) label
reply_page (OfUploads (uploads_reply.Completed completed)) label context = xml_page 200 (completed_body completed.bucket completed.key completed.etag) label
reply_page (OfObjects (objects_reply.Deleted deleted)) label context = xml_page 200 (deleted_body deleted.keys deleted.quiet) label
reply_page (OfObjects (objects_reply.Setting page)) label context = xml_page 200 (setting_body page) label
reply_page (reply_as.Copied copied) label context = xml_page 200 (copied_body copied.part copied.etag copied.modified) label

-- the page of a reply
abbrev pub page_of : Reply → Label → PageContext → Page
page_of reply label context = with_beside context.extended (refused_code reply) (reply_page reply label context)
