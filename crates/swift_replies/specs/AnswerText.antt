-- The bytes of the answers that are written, one spelling for each reply. Source: Object Storage API v1; RFC 9112, section 4; the order
-- of the headers and the fixed values of a listing are this profile.
use Rattle.std.specs.Prelude.{
  ℕ,
  ◌^◌,
  Bool,
  true,
  false,
  ◌&&◌,
  ◌==◌,
  nat_le,
  nat_lt,
  if◌then◌else◌,
  ◌+◌,
  ◌-◌,
  List,
  [],
  ◌∷◌,
  ◌++◌,
  length,
  map,
  codes,
  decimal,
  Option,
  Some,
  None,
  is_some,
}
use Rattle.std.specs.Char.{to_ascii_lowercase}
use Rattle.std.specs.List.{list_all}
use Rattle.std.specs.Str.{is_utf8}
use Rattle.gate_base.specs.Told.{moment_limit}
use Rattle.gate_base.specs.declared.page.Pair.{Pair}
use Rattle.http1.specs.Head.{is_trimmed_value, section_text, status_digits}
use Rattle.serde_json.specs.Data.{Data, array, object, number, unsigned, string, no_members, member}
use Rattle.serde_json.specs.View.{items_of}
use Rattle.serde_json.specs.Written.{compact_text}
use Rattle.slo_manifest.specs.Segments.{is_manifest}
use Rattle.slo_manifest.specs.Text.{manifest_text}
use Rattle.slo_manifest.specs.declared.Segment.{Segment}
use Rattle.slo_manifest.specs.declared.manifest.Form.TheVariants.{Got}
use Rattle.swift_calls.specs.declared.account.ReadList.{ReadList}
use Rattle.swift_calls.specs.declared.account.ReadList.TheVariants.{Nobody, Everybody}
use Rattle.swift_calls.specs.declared.heads.StoredHead.{StoredHead}
use Rattle.swift_calls.specs.declared.heads.NameItem.{NameItem}
use Rattle.swift_calls.specs.declared.calls.SwiftRequest.{SwiftRequest}
use Rattle.swift_calls.specs.declared.calls.SwiftRequest.TheVariants.{
  ListContainers,
  HeadContainer,
  PutContainer,
  PostContainer,
  DeleteContainer,
  ListNames,
  PutObject,
  PutManifest,
  HeadObject,
  GetObject,
  GetManifest,
  DeleteObject,
}
use Rattle.swift_calls.specs.declared.calls.SwiftReply.{SwiftReply}
use Rattle.swift_calls.specs.declared.calls.SwiftReply.TheVariants.{
  Made,
  There,
  Gone,
  Stored,
  NotFound,
  Exists,
  NotEmpty,
  BadManifest,
  Unsatisfiable,
  Containers,
  Readers,
  Names,
  Head,
  Bytes,
  Manifest,
}
use Rattle.http_answers.specs.declared.head.TheConstants.{HEAD_LIMIT}
use Rattle.swift_replies.specs.Fields.{everybody, is_reply_etag_byte}
use Rattle.swift_replies.specs.Answers.{is_part}

-- a header to be sent, by its name and its value
abbrev pub Field : Type 0
Field = List ℕ × List ℕ

-- a header as a message has it, its name in lower case
abbrev pub header_pair : Field → Pair
header_pair h = record { name = map to_ascii_lowercase h.0; value = h.1 }

-- an answer to be sent
pub record Sent : Type 0 where
  pub status : ℕ
  pub headers : List Field
  pub body : List ℕ

-- the phrase of each status that is sent (RFC 9110, section 15)
abbrev pub error_phrase : ℕ → List ℕ
error_phrase status =
    if status == 400 then codes "Bad Request" else (if status == 401 then codes "Unauthorized"
    else (if status == 404 then codes "Not Found" else (if status == 409 then codes "Conflict"
    else (if status == 412 then codes "Precondition Failed" else (if status == 416 then codes "Range Not Satisfiable"
    else (if status == 503 then codes "Service Unavailable" else codes "Internal Server Error"))))))

abbrev pub phrase_of : ℕ → List ℕ
phrase_of status =
    if status == 200 then codes "OK" else (if status == 201 then codes "Created" else (if status == 202 then codes "Accepted"
    else (if status == 204 then codes "No Content" else (if status == 206 then codes "Partial Content" else error_phrase status))))

-- HTTP/1.1 SP status SP phrase CR LF (RFC 9112, section 4)
abbrev pub line_of : List ℕ → List ℕ → List ℕ
line_of digits phrase = codes "HTTP/1.1 " ++ digits ++ 32 ∷ phrase ++ 13 ∷ 10 ∷ []

abbrev pub status_line : ℕ → List ℕ
status_line status = line_of (status_digits status) (phrase_of status)

abbrev pub head_text : Sent → List ℕ
head_text s = section_text (status_line s.status) s.headers

-- an answer whose head has at most 65,536 bytes
abbrev pub within_limit : Sent → Option Sent
within_limit s = if nat_le (length (head_text s)) HEAD_LIMIT then Some s else None

-- the bytes of an answer
abbrev pub sent_text : Sent → List ℕ
sent_text s = head_text s ++ s.body

abbrev pub length_field : ℕ → Field
length_field count = (codes "Content-Length", decimal count)

-- an answer that says its status alone
abbrev pub bare : ℕ → Sent
bare status = record { status = status; headers = length_field 0 ∷ []; body = [] }

-- what is answered in place of a reply
abbrev pub refusal : ℕ → List ℕ
refusal status = sent_text (bare status)

-- ---- containers

-- the value that writes a read list
abbrev pub readers_text : ReadList → List ℕ
readers_text Nobody = []
readers_text Everybody = everybody

-- the creation time of a container as its own header, where it has one
abbrev pub created_fields : Option ℕ → List Field
created_fields None = []
created_fields (Some moment) = (codes "X-Container-Meta-S3-Created", decimal moment) ∷ []

abbrev pub readers_fields : ReadList → Option ℕ → List Field
readers_fields readers created = length_field 0 ∷ (codes "X-Container-Read", readers_text readers) ∷ created_fields created

-- a creation time that is read
abbrev pub is_spelled_created : Option ℕ → Bool
is_spelled_created None = true
is_spelled_created (Some moment) = nat_lt moment moment_limit

abbrev pub readers_sent : ReadList → Option ℕ → Option Sent
readers_sent readers created =
    if is_spelled_created created then Some (record { status = 204; headers = readers_fields readers created; body = [] }) else None

-- ---- objects

-- an ETag that is read
abbrev pub is_tag : List ℕ → Bool
is_tag etag = list_all is_reply_etag_byte etag

abbrev pub etag_field : List ℕ → Field
etag_field etag = (codes "Etag", etag)

abbrev pub stored_by : List ℕ → Sent
stored_by etag = record { status = 201; headers = length_field 0 ∷ etag_field etag ∷ []; body = [] }

abbrev pub stored_sent : List ℕ → Option Sent
stored_sent etag = if is_tag etag then within_limit (stored_by etag) else None

-- each piece of metadata under its number
abbrev pub meta_fields : ℕ → List (List ℕ) → List Field
meta_fields i [] = []
meta_fields i (piece ∷ pieces) = (codes "X-Object-Meta-S3-" ++ decimal i, piece) ∷ meta_fields (i + 1) pieces

abbrev pub manifest_fields : Bool → List Field
manifest_fields false = []
manifest_fields true = (codes "X-Static-Large-Object", codes "True") ∷ []

abbrev pub object_fields : StoredHead → List Field
object_fields head = (codes "Content-Type", head.content_type) ∷ etag_field head.etag ∷ manifest_fields head.manifest ++ meta_fields 0 head.meta

-- a size of at most 19 digits
abbrev pub is_spelled_size : ℕ → Bool
is_spelled_size size = nat_lt size (10 ^ 19)

-- at most 11 pieces of metadata, without control bytes and without white space at either end
abbrev pub is_meta : List (List ℕ) → Bool
is_meta pieces = nat_le (length pieces) 11 && list_all is_trimmed_value pieces

-- a head that is read: its values have no control bytes and no white space at either end
abbrev pub is_head : StoredHead → Bool
is_head head =
    is_trimmed_value head.content_type
    && (is_tag head.etag && (is_spelled_size head.size && is_meta head.meta))

abbrev pub head_by : StoredHead → Sent
head_by head = record { status = 200; headers = length_field head.size ∷ object_fields head; body = [] }

abbrev pub head_sent : StoredHead → Option Sent
head_sent head = if is_head head then within_limit (head_by head) else None

-- `bytes FIRST-LAST/SIZE` (RFC 9110, section 14.4)
abbrev pub range_text : ℕ → ℕ → ℕ → List ℕ
range_text first count size = codes "bytes " ++ decimal first ++ codes "-" ++ decimal (first + count - 1) ++ codes "/" ++ decimal size

abbrev pub range_field : ℕ × ℕ → StoredHead → List ℕ → Field
range_field range head body = (codes "Content-Range", range_text range.0 (length body) head.size)

abbrev pub bytes_by : Option (ℕ × ℕ) → StoredHead → List ℕ → Sent
bytes_by None head body = record { status = 200; headers = length_field (length body) ∷ object_fields head; body = body }
bytes_by (Some range) head body =
    record { status = 206; headers = length_field (length body) ∷ object_fields head ++ range_field range head body ∷ []; body = body }

abbrev pub bytes_sent : Option (ℕ × ℕ) → StoredHead → List ℕ → Option Sent
bytes_sent range head body = if is_part range head.size (length body) && is_head head then within_limit (bytes_by range head body) else None

-- ---- listings

-- `{"bytes":0,"count":0,"name":NAME}`
abbrev pub container_value : List ℕ → Data
container_value name =
    object (member (codes "bytes") (number (unsigned 0)) (member (codes "count") (number (unsigned 0)) (member (codes "name") (string name) no_members)))

-- `{"bytes":SIZE,"content_type":TYPE,"hash":ETAG,"last_modified":TIME,"name":NAME}`: the time is fixed
abbrev pub item_by : List ℕ → List ℕ → ℕ → List ℕ → Data
item_by name hash size content_type =
    object (member (codes "bytes") (number (unsigned size)) (member (codes "content_type") (string content_type)
    (member (codes "hash") (string hash) (member (codes "last_modified") (string (codes "1970-01-01T00:00:00.000000"))
    (member (codes "name") (string name) no_members)))))

abbrev pub item_value : NameItem → Data
item_value i = item_by i.name i.hash i.size i.content_type

-- the texts of an entry are UTF-8, as JSON has them, and its size is read as a whole number, of at most 19 digits
abbrev pub is_spelled_name_item : NameItem → Bool
is_spelled_name_item i = is_utf8 i.name && (is_utf8 i.hash && (is_utf8 i.content_type && nat_lt i.size (10 ^ 19)))

abbrev pub list_text : List Data → List ℕ
list_text entries = compact_text (array (items_of entries))

abbrev pub list_sent : List ℕ → Sent
list_sent text = record { status = 200; headers = length_field (length text) ∷ []; body = text }

abbrev pub containers_sent : List (List ℕ) → Option Sent
containers_sent names = if list_all is_utf8 names then Some (list_sent (list_text (map container_value names))) else None

abbrev pub names_sent : List NameItem → Option Sent
names_sent items = if list_all is_spelled_name_item items then Some (list_sent (list_text (map item_value items))) else None

-- ---- segments

-- an answer with the text of segments, which says so
abbrev pub segments_by : List ℕ → Sent
segments_by text = record { status = 200; headers = length_field (length text) ∷ manifest_fields true; body = text }

abbrev pub segments_sent : List Segment → Option Sent
segments_sent segments = if is_manifest segments then Some (segments_by (manifest_text Got segments)) else None

-- ---- each reply, if it is one to the call

abbrev pub put_sent : SwiftReply → Option Sent
put_sent Made = Some (bare 201)
put_sent There = Some (bare 202)
put_sent reply = None

abbrev pub post_sent : SwiftReply → Option Sent
post_sent Gone = Some (bare 204)
post_sent NotFound = Some (bare 404)
post_sent reply = None

abbrev pub delete_sent : SwiftReply → Option Sent
delete_sent NotEmpty = Some (bare 409)
delete_sent reply = post_sent reply

abbrev pub list_containers_sent : SwiftReply → Option Sent
list_containers_sent (Containers names) = containers_sent names
list_containers_sent reply = None

abbrev pub head_container_sent : SwiftReply → Option Sent
head_container_sent (Readers readers created) = readers_sent readers created
head_container_sent NotFound = Some (bare 404)
head_container_sent reply = None

abbrev pub list_names_sent : SwiftReply → Option Sent
list_names_sent (Names items) = names_sent items
list_names_sent NotFound = Some (bare 404)
list_names_sent reply = None

-- 412, which only a fresh object is answered with
abbrev pub exists_sent : Bool → Option Sent
exists_sent false = None
exists_sent true = Some (bare 412)

abbrev pub put_object_sent : Bool → SwiftReply → Option Sent
put_object_sent fresh (Stored etag) = stored_sent etag
put_object_sent fresh NotFound = Some (bare 404)
put_object_sent fresh Exists = exists_sent fresh
put_object_sent fresh reply = None

abbrev pub put_manifest_sent : SwiftReply → Option Sent
put_manifest_sent BadManifest = Some (bare 400)
put_manifest_sent reply = put_object_sent false reply

abbrev pub head_object_sent : SwiftReply → Option Sent
head_object_sent (Head head) = head_sent head
head_object_sent NotFound = Some (bare 404)
head_object_sent reply = None

abbrev pub beyond_sent : Option (ℕ × ℕ) → Option Sent
beyond_sent None = None
beyond_sent (Some range) = Some (bare 416)

abbrev pub get_sent : Option (ℕ × ℕ) → SwiftReply → Option Sent
get_sent range (Bytes head body) = bytes_sent range head body
get_sent range NotFound = Some (bare 404)
get_sent range Unsatisfiable = beyond_sent range
get_sent range reply = None

abbrev pub get_manifest_sent : SwiftReply → Option Sent
get_manifest_sent (Manifest segments) = segments_sent segments
get_manifest_sent NotFound = Some (bare 404)
get_manifest_sent reply = None

abbrev pub sent_of : SwiftRequest → SwiftReply → Option Sent
sent_of (ListContainers marker limit) reply = list_containers_sent reply
sent_of (HeadContainer container) reply = head_container_sent reply
sent_of (PutContainer container readers created) reply = put_sent reply
sent_of (PostContainer container readers) reply = post_sent reply
sent_of (DeleteContainer container) reply = delete_sent reply
sent_of (ListNames container prefix marker limit) reply = list_names_sent reply
sent_of (PutObject put) reply = put_object_sent put.fresh reply
sent_of (PutManifest container name content_type meta segments) reply = put_manifest_sent reply
sent_of (HeadObject container name) reply = head_object_sent reply
sent_of (GetObject container name range) reply = get_sent range reply
sent_of (GetManifest container name) reply = get_manifest_sent reply
sent_of (DeleteObject container name) reply = post_sent reply

-- the reply has a spelling to the call
abbrev pub is_spelled : SwiftRequest → SwiftReply → Bool
is_spelled call reply = is_some (sent_of call reply)

abbrev pub text_by : Option Sent → List ℕ
text_by None = refusal 500
text_by (Some s) = sent_text s

-- the bytes of the answer that gives a reply to a call; where it has no spelling, a 500 that spells nothing
abbrev pub answer_text : SwiftRequest → SwiftReply → List ℕ
answer_text call reply = text_by (sent_of call reply)
