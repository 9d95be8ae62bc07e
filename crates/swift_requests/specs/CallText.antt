-- The request that is written for a call. Source: Object Storage API v1; RFC 9112, section 3, for its form.
use Rattle.std.specs.Prelude.{ℕ, Bool, false, true, List, [], ◌∷◌, ◌++◌, length, map, codes, decimal}
use Rattle.http_wire.specs.declared.message.Message.{Message}
use Rattle.std.specs.Prelude.{Option, None, Some}
use Rattle.s3_names.specs.Escapes.{escaped_all, escaped_path}
use Rattle.httparse.specs.Ascii.{crlf_bytes}
use Rattle.http1.specs.Head.{request_text}
use Rattle.http1.specs.Fields.{Header}
use Rattle.slo_manifest.specs.Text.{manifest_text}
use Rattle.slo_manifest.specs.declared.manifest.Form.TheVariants.{Put}
use Rattle.swift_calls.specs.declared.account.ReadList.{ReadList}
use Rattle.swift_calls.specs.declared.calls.SwiftRequest.{SwiftRequest}
use Rattle.swift_calls.specs.declared.calls.SwiftRequest.TheVariants.{
  ListContainers,
  HeadContainer,
  PutContainer,
  PostContainer,
  DeleteContainer,
  ListNames,
  PutObject,
  PutManifest,
  HeadObject,
  GetObject,
  GetManifest,
  DeleteObject,
}
use Rattle.swift_replies.specs.AnswerText.{readers_text, created_fields, meta_fields, header_pair}
use Rattle.swift_requests.specs.declared.place.Place.{Place}

abbrev pub method_text : SwiftRequest → List ℕ
method_text (ListContainers marker limit) = codes "GET"
method_text (HeadContainer container) = codes "HEAD"
method_text (PutContainer container readers created) = codes "PUT"
method_text (PostContainer container readers) = codes "POST"
method_text (DeleteContainer container) = codes "DELETE"
method_text (ListNames container prefix marker limit) = codes "GET"
method_text (PutObject put) = codes "PUT"
method_text (PutManifest container name content_type meta segments) = codes "PUT"
method_text (HeadObject container name) = codes "HEAD"
method_text (GetObject container name range) = codes "GET"
method_text (GetManifest container name) = codes "GET"
method_text (DeleteObject container name) = codes "DELETE"

-- ---- the target

-- `/v1/ACCOUNT`, every byte of it escaped but the unreserved
abbrev pub account_text : Place → List ℕ
account_text place = codes "/v1/" ++ escaped_all place.account

-- `/CONTAINER` behind it
abbrev pub container_text : Place → List ℕ → List ℕ
container_text place container = account_text place ++ codes "/" ++ escaped_all container

-- `/NAME` behind that, in which `/` stays
abbrev pub object_text : Place → List ℕ → List ℕ → List ℕ
object_text place container name = container_text place container ++ codes "/" ++ escaped_path name

-- `?format=json&limit=N&marker=M`
abbrev pub listing_text : ℕ → List ℕ → List ℕ
listing_text limit marker = codes "?format=json&limit=" ++ decimal limit ++ codes "&marker=" ++ escaped_all marker

-- an object's list of segments, to be put or to be got
abbrev pub manifest_put : List ℕ
manifest_put = codes "?multipart-manifest=put"

abbrev pub manifest_get : List ℕ
manifest_get = codes "?multipart-manifest=get"

abbrev pub target_text : Place → SwiftRequest → List ℕ
target_text place (ListContainers marker limit) = account_text place ++ listing_text limit marker
target_text place (HeadContainer container) = container_text place container
target_text place (PutContainer container readers created) = container_text place container
target_text place (PostContainer container readers) = container_text place container
target_text place (DeleteContainer container) = container_text place container
target_text place (ListNames container prefix marker limit) =
    container_text place container ++ listing_text limit marker ++ codes "&prefix=" ++ escaped_all prefix
target_text place (PutObject put) = object_text place put.container put.name
target_text place (PutManifest container name content_type meta segments) = object_text place container name ++ manifest_put
target_text place (HeadObject container name) = object_text place container name
target_text place (GetObject container name range) = object_text place container name
target_text place (GetManifest container name) = object_text place container name ++ manifest_get
target_text place (DeleteObject container name) = object_text place container name

-- ---- the header fields

abbrev pub readers_field : ReadList → Header
readers_field readers = (codes "X-Container-Read", readers_text readers)

abbrev pub range_field : ℕ → ℕ → Header
range_field first last = (codes "Range", codes "bytes=" ++ decimal first ++ codes "-" ++ decimal last)

abbrev pub range_fields : Option (ℕ × ℕ) → List Header
range_fields None = []
range_fields (Some range) = range_field range.0 range.1 ∷ []

-- those of an object that is put
abbrev pub content_fields : List ℕ → List (List ℕ) → List Header
content_fields content_type meta = (codes "Content-Type", content_type) ∷ meta_fields 0 meta

-- that it is put only where none is there
abbrev pub fresh_fields : Bool → List Header
fresh_fields false = []
fresh_fields true = (codes "If-None-Match", codes "*") ∷ []

-- those of the call's own
abbrev pub own_fields : SwiftRequest → List Header
own_fields (ListContainers marker limit) = []
own_fields (HeadContainer container) = []
own_fields (PutContainer container readers created) = readers_field readers ∷ created_fields created
own_fields (PostContainer container readers) = readers_field readers ∷ []
own_fields (DeleteContainer container) = []
own_fields (ListNames container prefix marker limit) = []
own_fields (PutObject put) = content_fields put.content_type put.meta ++ fresh_fields put.fresh
own_fields (PutManifest container name content_type meta segments) = content_fields content_type meta
own_fields (HeadObject container name) = []
own_fields (GetObject container name range) = range_fields range
own_fields (GetManifest container name) = []
own_fields (DeleteObject container name) = []

abbrev pub body_of : SwiftRequest → List ℕ
body_of (ListContainers marker limit) = []
body_of (HeadContainer container) = []
body_of (PutContainer container readers created) = []
body_of (PostContainer container readers) = []
body_of (DeleteContainer container) = []
body_of (ListNames container prefix marker limit) = []
body_of (PutObject put) = put.body
body_of (PutManifest container name content_type meta segments) = manifest_text Put segments
body_of (HeadObject container name) = []
body_of (GetObject container name range) = []
body_of (GetManifest container name) = []
body_of (DeleteObject container name) = []

-- what is sent behind the head of a call for which that body was made: an object's bytes are the call's own
abbrev pub body_with : SwiftRequest → List ℕ → List ℕ
body_with (ListContainers marker limit) made = made
body_with (HeadContainer container) made = made
body_with (PutContainer container readers created) made = made
body_with (PostContainer container readers) made = made
body_with (DeleteContainer container) made = made
body_with (ListNames container prefix marker limit) made = made
body_with (PutObject put) made = put.body
body_with (PutManifest container name content_type meta segments) made = made
body_with (HeadObject container name) made = made
body_with (GetObject container name range) made = made
body_with (GetManifest container name) made = made
body_with (DeleteObject container name) made = made

-- that all replicas are asked, and the newest answers (`X-Newest`)
abbrev pub newest_fields : Bool → List Header
newest_fields false = []
newest_fields true = (codes "X-Newest", codes "true") ∷ []

-- all in their order
abbrev pub call_fields : Bool → Place → SwiftRequest → List Header
call_fields newest place call =
    (codes "Host", place.host) ∷ (codes "X-Auth-Token", place.token) ∷ newest_fields newest ++ own_fields call ++ (codes "Content-Length", decimal (length (body_of call))) ∷ []

-- `METHOD TARGET HTTP/1.1` and CR LF
abbrev pub line_text : Place → SwiftRequest → List ℕ
line_text place call = method_text call ++ codes " " ++ target_text place call ++ codes " HTTP/1.1" ++ crlf_bytes

-- the head of the request: the request line, the header fields, an empty line
abbrev pub call_head : Bool → Place → SwiftRequest → List ℕ
call_head newest place call = request_text (method_text call) (target_text place call) 1 (call_fields newest place call)

-- the bytes of the request
abbrev pub call_text : Bool → Place → SwiftRequest → List ℕ
call_text newest place call = call_head newest place call ++ body_of call

-- the message of the request
abbrev pub call_message : Bool → Place → SwiftRequest → Message
call_message newest place call = record {
  method = method_text call;
  target = target_text place call;
  old = false;
  headers = map header_pair (call_fields newest place call);
  body = body_of call;
}
