-- Which message spells which call of an account. Source: Object Storage API v1, the call of each path by its method.
-- Further headers are ignored, and neither `Host` nor the version is looked at.
use Rattle.std.specs.Prelude.{◌≡◌, ⊤, ℕ, Bool, false, true, ◌&&◌, ◌==◌, nat_eq, nat_le, List, [], ◌∷◌, drop, codes, bytes_eq, if◌then◌else◌, Result, Ok, Err}
use Rattle.std.specs.List.{starts_with, before_first, after_first}
use Rattle.std.specs.Prelude.{Option, None, Some, option_map, option_and_then}
use Rattle.gate_base.specs.declared.page.Pair.{Pair}
use Rattle.http_wire.specs.declared.message.Message.{Message}
use Rattle.http_wire.specs.declared.judge.TheConstants.{MOST_BODY_LIMIT}
use Rattle.http_wire.specs.FirstMessage.{Spells}
use Rattle.s3_names.specs.Target.{query_text}
use Rattle.slo_manifest.specs.declared.Segment.{Segment}
use Rattle.slo_manifest.specs.declared.manifest.Form.TheVariants.{Put}
use Rattle.swift_calls.specs.Step.{Fit}
use Rattle.swift_calls.specs.declared.account.ReadList.{ReadList}
use Rattle.swift_calls.specs.declared.calls.SwiftRequest.{SwiftRequest}
use Rattle.swift_calls.specs.declared.calls.SwiftRequest.TheVariants.{
  ListContainers,
  HeadContainer,
  PutContainer,
  PostContainer,
  DeleteContainer,
  ListNames,
  PutObject,
  PutManifest,
  HeadObject,
  GetObject,
  GetManifest,
  DeleteObject,
}
use Rattle.swift_replies.specs.Answers.{both, segments_in}
use Rattle.http_answers.specs.Fields.{field, only, plain_number}
use Rattle.swift_replies.specs.Fields.{container_readers_by_value, container_created_in, meta_in}
use Rattle.swift_requests.specs.Paths.{path_of, first_value, last_call_query_value, values_named}
use Rattle.swift_requests.specs.Place.{HasToken}
use Rattle.swift_replies.specs.declared.fault.WireFault.{WireFault}
use Rattle.swift_replies.specs.declared.fault.WireFault.TheVariants.{NotACall, NotAnAnswer, Memory}
use Rattle.swift_requests.specs.declared.paths.Path.{Path}
use Rattle.swift_requests.specs.declared.paths.Path.TheVariants.{Account, Container, Object}
use Rattle.swift_requests.specs.declared.place.Place.{Place}

-- ---- listings

-- the query of a listing of an account: `format=json&limit=N&marker=M`
abbrev pub account_names : List (List ℕ)
account_names = codes "format" ∷ codes "limit" ∷ codes "marker" ∷ []

-- of a container: `format=json&limit=N&marker=M&prefix=P`
abbrev pub container_names : List (List ℕ)
container_names = codes "format" ∷ codes "limit" ∷ codes "marker" ∷ codes "prefix" ∷ []

abbrev pub is_json : List ℕ → Bool
is_json text = bytes_eq text (codes "json")

abbrev pub up_to : ℕ → ℕ → Option ℕ
up_to most number = if nat_le number most then Some number else None

-- how many names are asked for: 1001 at most
abbrev pub limit_of : List ℕ → Option ℕ
limit_of text = option_and_then (up_to 1001) (plain_number text)

-- what follows `format=json&`
abbrev pub behind_json : List ℕ → Option (List ℕ)
behind_json query = option_and_then (λ format. if is_json format.0 then Some format.1 else None) (first_value (codes "format") query)

-- how many names a query asks for that begins with `format=json&limit=N&`, and what follows
unfoldable pub listing_limit : List ℕ → Option (ℕ × List ℕ)
listing_limit query =
    option_and_then (λ rest. option_and_then (λ limit. option_map (λ most. (most, limit.1)) (limit_of limit.0)) (first_value (codes "limit") rest)) (behind_json query)

-- the values of `marker=M&prefix=P`
abbrev pub marker_and_prefix : List ℕ → Option (List ℕ × List ℕ)
marker_and_prefix text =
    option_and_then (λ marker. option_map (λ prefix. (marker.0, prefix)) (last_call_query_value (codes "prefix") marker.1)) (first_value (codes "marker") text)

abbrev pub containers_listing_call : List (List ℕ) → Option SwiftRequest
containers_listing_call [] = None
containers_listing_call (format ∷ []) = None
containers_listing_call (format ∷ limit ∷ []) = None
containers_listing_call (format ∷ limit ∷ marker ∷ []) = if is_json format then option_map (λ most. ListContainers marker most) (limit_of limit) else None
containers_listing_call (format ∷ limit ∷ marker ∷ other ∷ values) = None

abbrev pub names_listing_call : List ℕ → List (List ℕ) → Option SwiftRequest
names_listing_call container [] = None
names_listing_call container (format ∷ []) = None
names_listing_call container (format ∷ limit ∷ []) = None
names_listing_call container (format ∷ limit ∷ marker ∷ []) = None
names_listing_call container (format ∷ limit ∷ marker ∷ prefix ∷ []) =
    if is_json format then option_map (λ most. ListNames container prefix marker most) (limit_of limit) else None
names_listing_call container (format ∷ limit ∷ marker ∷ prefix ∷ other ∷ values) = None

-- ---- ranges

abbrev pub is_dash : ℕ → Bool
is_dash byte = byte == 45

-- the place of a byte, below 2^63
abbrev pub call_range_bound : List ℕ → Option ℕ
call_range_bound text = option_and_then (up_to 9223372036854775807) (plain_number text)

-- `FROM-TO`
abbrev pub places_of : List ℕ → Option (ℕ × ℕ)
places_of text = both (λ first last. (first, last)) (call_range_bound (before_first is_dash text)) (call_range_bound (after_first is_dash text))

-- `bytes=FROM-TO`
abbrev pub range_of : List ℕ → Option (ℕ × ℕ)
range_of text = if starts_with nat_eq text (codes "bytes=") then places_of (drop 6 text) else None

abbrev pub range_from : Option (Option (List ℕ)) → Option (Option (ℕ × ℕ))
range_from None = None
range_from (Some None) = Some None
range_from (Some (Some value)) = option_map (λ range. Some range) (range_of value)

-- the range where the header may be absent
abbrev pub call_range_in : List Pair → Option (Option (ℕ × ℕ))
call_range_in headers = range_from (field (codes "range") headers)

-- ---- the calls of each kind of path, by the method

abbrev pub has_call_method : List ℕ → Message → Bool
has_call_method name message = bytes_eq message.method name

-- a call that has no query
abbrev pub unasked : Message → Option SwiftRequest → Option SwiftRequest
unasked message call = if bytes_eq (query_text message.target) [] then call else None

-- a call that has no body
abbrev pub bodiless : Message → Option SwiftRequest → Option SwiftRequest
bodiless message call = if bytes_eq message.body [] then call else None

-- GET of an account
abbrev pub account_call : Message → Option SwiftRequest
account_call message =
    if has_call_method (codes "GET") message then option_and_then containers_listing_call (values_named account_names (query_text message.target)) else None

-- the read list, which PUT and POST of a container have to give
abbrev pub readers_given : List Pair → Option ReadList
readers_given headers = option_and_then container_readers_by_value (only (codes "x-container-read") headers)

-- PUT of a container
abbrev pub put_container : List ℕ → Message → Option SwiftRequest
put_container container message = both (λ readers created. PutContainer container readers created) (readers_given message.headers) (container_created_in message.headers)

-- POST of a container
abbrev pub post_container : List ℕ → Message → Option SwiftRequest
post_container container message = option_map (λ readers. PostContainer container readers) (readers_given message.headers)

-- HEAD, PUT, POST and DELETE of a container
abbrev pub container_call_by_method : List ℕ → Message → Option SwiftRequest
container_call_by_method container message =
    if has_call_method (codes "HEAD") message then Some (HeadContainer container)
    else (if has_call_method (codes "PUT") message then put_container container message
    else (if has_call_method (codes "POST") message then post_container container message
    else (if has_call_method (codes "DELETE") message then Some (DeleteContainer container) else None)))

-- those, and GET of a container
abbrev pub container_call : List ℕ → Message → Option SwiftRequest
container_call container message =
    if has_call_method (codes "GET") message then option_and_then (names_listing_call container) (values_named container_names (query_text message.target))
    else unasked message (container_call_by_method container message)

-- the type and the metadata that a PUT of an object gives
unfoldable pub put_content : List Pair → Option (List ℕ × List (List ℕ))
put_content headers = both (λ content_type meta. (content_type, meta)) (only (codes "content-type") headers) (meta_in headers)

-- the same where there is no query
unfoldable pub plain_content : Message → Option (List ℕ × List (List ℕ))
plain_content message = if bytes_eq (query_text message.target) [] then put_content message.headers else None

-- the same with the segments that the body lists
unfoldable pub manifest_content : Message → Option ((List ℕ × List (List ℕ)) × List Segment)
manifest_content message = option_and_then (λ content. option_map (λ segments. (content, segments)) (segments_in Put message.body)) (put_content message.headers)

-- `*`, of which alone a store knows what it asks
abbrev pub fresh_from : Option (Option (List ℕ)) → Option Bool
fresh_from None = None
fresh_from (Some None) = Some false
fresh_from (Some (Some value)) = if bytes_eq value (codes "*") then Some true else None

-- whether an object is put only where none is there, where the header may be absent
abbrev pub fresh_in : List Pair → Option Bool
fresh_in headers = fresh_from (field (codes "if-none-match") headers)

-- PUT of an object
abbrev pub put_by : List ℕ → List ℕ → List ℕ → Option (List ℕ) → Option (List (List ℕ)) → Option Bool → Option SwiftRequest
put_by container name body None meta fresh = None
put_by container name body (Some content_type) None fresh = None
put_by container name body (Some content_type) (Some meta) None = None
put_by container name body (Some content_type) (Some meta) (Some fresh) =
    Some (PutObject (record { container = container; name = name; content_type = content_type; meta = meta; body = body; fresh = fresh }))

abbrev pub put_object : List ℕ → List ℕ → Message → Option SwiftRequest
put_object container name message =
    put_by container name message.body (only (codes "content-type") message.headers) (meta_in message.headers) (fresh_in message.headers)

-- the query is `multipart-manifest=WORD`
abbrev pub is_word : List ℕ → Option (List ℕ) → Bool
is_word word None = false
is_word word (Some value) = bytes_eq value word

abbrev pub asks_manifest : List ℕ → Message → Bool
asks_manifest word message = is_word word (last_call_query_value (codes "multipart-manifest") (query_text message.target))

-- PUT of an object that lists segments
abbrev pub put_listed : List ℕ → List ℕ → List ℕ → List (List ℕ) → Option (List Segment) → Option SwiftRequest
put_listed container name content_type meta segments = option_map (λ listed. PutManifest container name content_type meta listed) segments

abbrev pub listed_by : List ℕ → List ℕ → Option (List Segment) → Option (List ℕ) → Option (List (List ℕ)) → Option SwiftRequest
listed_by container name segments None meta = None
listed_by container name segments (Some content_type) None = None
listed_by container name segments (Some content_type) (Some meta) = put_listed container name content_type meta segments

abbrev pub put_manifest : List ℕ → List ℕ → Message → Option SwiftRequest
put_manifest container name message =
    listed_by container name (segments_in Put message.body) (only (codes "content-type") message.headers) (meta_in message.headers)

-- PUT of an object, by its query
abbrev pub put_call : List ℕ → List ℕ → Message → Option SwiftRequest
put_call container name message =
    if asks_manifest (codes "put") message then put_manifest container name message else unasked message (put_object container name message)

-- HEAD, GET and DELETE of an object
abbrev pub bare_object_call : List ℕ → List ℕ → Message → Option SwiftRequest
bare_object_call container name message =
    if has_call_method (codes "HEAD") message then Some (HeadObject container name)
    else (if has_call_method (codes "GET") message then option_map (λ range. GetObject container name range) (call_range_in message.headers)
    else (if has_call_method (codes "DELETE") message then Some (DeleteObject container name) else None))

-- GET of the segments that an object lists
abbrev pub asks_segments : Message → Bool
asks_segments message = has_call_method (codes "GET") message && asks_manifest (codes "get") message

-- those without a body
abbrev pub small_object_call : List ℕ → List ℕ → Message → Option SwiftRequest
small_object_call container name message =
    if asks_segments message then Some (GetManifest container name) else unasked message (bare_object_call container name message)

-- all; PUT of an object alone may have a body
abbrev pub object_call : List ℕ → List ℕ → Message → Option SwiftRequest
object_call container name message =
    if has_call_method (codes "PUT") message then put_call container name message else bodiless message (small_object_call container name message)

-- ---- the call of a message

abbrev pub account_in : Path → List ℕ
account_in (Account account) = account
account_in (Container account container) = account
account_in (Object account container name) = account

-- by the kind of its path
abbrev pub call_at : Path → Message → Option SwiftRequest
call_at (Account account) message = bodiless message (account_call message)
call_at (Container account container) message = bodiless message (container_call container message)
call_at (Object account container name) message = object_call container name message

abbrev pub call_within : Place → Message → Option Path → Option SwiftRequest
call_within place message None = None
call_within place message (Some path) = if bytes_eq (account_in path) place.account then call_at path message else None

abbrev pub path_within : Place → Option Path → Option Path
path_within place None = None
path_within place (Some path) = if bytes_eq (account_in path) place.account then Some path else None

-- what the path of a target names, where that is of the place's account
unfoldable pub path_at : Place → List ℕ → Option Path
path_at place target = path_within place (path_of target)

-- the call that a message makes of the place's account, within its limits or not
abbrev pub call_of : Place → Message → Option SwiftRequest
call_of place message = call_within place message (path_of message.target)

-- the message spells the call, which is within its limits
abbrev pub SpellsCall : Place → SwiftRequest → Message → Type 0
SpellsCall place call message = (call_of place message ≡ Some call) × Fit call

-- the bytes are one whole request that spells the call, and it has the place's token
abbrev pub SpellsRequest : Place → SwiftRequest → List ℕ → Type 0
SpellsRequest place call bytes = (message : Message) × Spells MOST_BODY_LIMIT bytes message × HasToken place message × SpellsCall place call message

-- what reading a message answers: the call that it spells, or that it spells none
abbrev pub ReadsCall : Place → Message → Result SwiftRequest WireFault → Type 0
ReadsCall place message (Ok call) = SpellsCall place call message
ReadsCall place message (Err NotACall) = (call : SwiftRequest) → ¬ (SpellsCall place call message)
ReadsCall place message (Err NotAnAnswer) = ⊥
ReadsCall place message (Err Memory) = ⊤
