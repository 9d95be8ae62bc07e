-- Which bytes spell which answer to a call. Source: Object Storage API v1; the statuses of the table are this profile.
use Rattle.std.specs.Prelude.{
  ◌≡◌,
  ⊤,
  ℕ,
  Bool,
  true,
  false,
  ◌&&◌,
  ◌==◌,
  nat_lt,
  nat_le,
  if◌then◌else◌,
  ◌+◌,
  ◌-◌,
  min,
  List,
  [],
  ◌∷◌,
  length,
  drop,
  codes,
  Option,
  Some,
  None,
  option_map,
  option_and_then,
  Result,
  Ok,
  Err,
}
use Rattle.std.specs.Str.{is_utf8}
use Rattle.gate_base.specs.declared.page.Pair.{Pair}
use Rattle.httparse.specs.Grammar.{ResponseHead, status_code}
use Rattle.json.specs.Find.{get, as_array, as_number, as_str}
use Rattle.json.specs.Json.{Json, Items, no_items, item, document}
use Rattle.text_forms.specs.Numbers.{number_of}
use Rattle.slo_manifest.specs.Entry.{Entry, whole, bad, empty}
use Rattle.slo_manifest.specs.Manifest.{entries_of}
use Rattle.slo_manifest.specs.declared.Segment.{Segment}
use Rattle.slo_manifest.specs.declared.manifest.TheConstants.{MOST_SEGMENTS}
use Rattle.slo_manifest.specs.declared.manifest.Form.{Form}
use Rattle.slo_manifest.specs.declared.manifest.Form.TheVariants.{Got}
use Rattle.swift_calls.specs.declared.heads.StoredHead.{StoredHead}
use Rattle.swift_calls.specs.declared.heads.NameItem.{NameItem}
use Rattle.swift_calls.specs.declared.calls.SwiftRequest.{SwiftRequest}
use Rattle.swift_calls.specs.declared.calls.SwiftRequest.TheVariants.{
  ListContainers,
  HeadContainer,
  PutContainer,
  PostContainer,
  DeleteContainer,
  ListNames,
  PutObject,
  PutManifest,
  HeadObject,
  GetObject,
  GetManifest,
  DeleteObject,
}
use Rattle.swift_calls.specs.declared.calls.SwiftReply.{SwiftReply}
use Rattle.swift_statuses.specs.Statuses.{missing, gone, put_reply, delete_reply}
use Rattle.swift_calls.specs.declared.calls.SwiftReply.TheVariants.{Stored, NotFound, Exists, BadManifest, Unsatisfiable, Containers, Readers, Names, Head, Bytes, Manifest}
use Rattle.http_answers.specs.Framing.{IsAnswer, headers_in}
use Rattle.swift_replies.specs.Fields.{reply_readers_in, container_created_in, etag_in, whole_size_in, head_in, reply_segments_flag_in}
use Rattle.http_answers.specs.Fields.{answer_content_length}
use Rattle.swift_replies.specs.declared.fault.WireFault.{WireFault}
use Rattle.swift_replies.specs.declared.fault.WireFault.TheVariants.{NotACall, NotAnAnswer, Memory}

-- what an answer says: its status, its headers by names in lower case, its body
pub record Said : Type 0 where
  pub status : ℕ
  pub headers : List Pair
  pub body : List ℕ

-- ---- lists in JSON; further fields of an entry count for nothing

abbrev pub both : {A B C : Type 0} → (A → B → C) → Option A → Option B → Option C
both f None b = None
both f (Some a) None = None
both f (Some a) (Some b) = Some (f a b)

-- what f reads of each item, where it reads something of each
unfoldable pub each : {A : Type 0} → (Json → Option A) → Items → Option (List A)
each f no_items = Some []
each f (item entry rest) = both (λ first others. first ∷ others) (f entry) (each f rest)

-- the JSON of a text in UTF-8 (RFC 8259), as far as 128 levels of lists and objects
abbrev pub listing_json : List ℕ → Option Json
listing_json text = if is_utf8 text then document text else None

-- the entries of a text, where it is a list
abbrev pub items_in : List ℕ → Option Items
items_in body = option_and_then as_array (listing_json body)

-- the text under a name of an object; of one that comes twice the last
abbrev pub text_in : List ℕ → Json → Option (List ℕ)
text_in field entry = option_and_then as_str (get field entry)

-- the whole number of at most 19 digits under a name of an object
abbrev pub number_in : List ℕ → Json → Option ℕ
number_in field entry = option_and_then (number_of 19) (option_and_then as_number (get field entry))

-- an entry of a listing of containers
abbrev pub container_name : Json → Option (List ℕ)
container_name entry = text_in (codes "name") entry

abbrev pub item_from : Option (List ℕ) → Option (List ℕ) → Option ℕ → Option (List ℕ) → Option NameItem
item_from None hash size content_type = None
item_from (Some name) None size content_type = None
item_from (Some name) (Some hash) None content_type = None
item_from (Some name) (Some hash) (Some size) None = None
item_from (Some name) (Some hash) (Some size) (Some content_type) =
    Some (record { name = name; hash = hash; size = size; content_type = content_type })

-- an entry of a listing of objects
abbrev pub name_item : Json → Option NameItem
name_item entry =
    item_from (text_in (codes "name") entry) (text_in (codes "hash") entry) (number_in (codes "bytes") entry) (text_in (codes "content_type") entry)

abbrev pub container_names : List ℕ → Option (List (List ℕ))
container_names body = option_and_then (each container_name) (items_in body)

abbrev pub name_items : List ℕ → Option (List NameItem)
name_items body = option_and_then (each name_item) (items_in body)

-- ---- lists of segments

-- the segments, where each entry is one
unfoldable pub segments_of : List Entry → Option (List Segment)
segments_of [] = Some []
segments_of (whole s ∷ es) = option_map (λ segments. s ∷ segments) (segments_of es)
segments_of (bad ∷ es) = None
segments_of (empty ∷ es) = None

-- where there are no more than one manifest lists
abbrev pub segments_within : List Entry → Option (List Segment)
segments_within es = if nat_le (length es) MOST_SEGMENTS then segments_of es else None

-- the segments that a text lists, in a form
unfoldable pub segments_in : Form → List ℕ → Option (List Segment)
segments_in form text = option_and_then segments_within (entries_of form text)

-- ---- the reply of each status

abbrev pub containers_reply : ℕ → List ℕ → Option SwiftReply
containers_reply status body =
    if status == 200 then option_map (λ names. Containers names) (container_names body) else (if status == 204 then Some (Containers []) else None)

abbrev pub names_reply : ℕ → List ℕ → Option SwiftReply
names_reply status body =
    if status == 200 then option_map (λ items. Names items) (name_items body) else (if status == 204 then Some (Names []) else missing status)

abbrev pub readers_reply : List Pair → Option SwiftReply
readers_reply headers = both (λ readers created. Readers readers created) (reply_readers_in headers) (container_created_in headers)

abbrev pub head_container_reply : ℕ → List Pair → Option SwiftReply
head_container_reply status headers = if status == 204 then readers_reply headers else missing status

abbrev pub stored_reply : List Pair → Option SwiftReply
stored_reply headers = option_map (λ etag. Stored etag) (etag_in headers)

-- 412, which only a fresh object is answered with
abbrev pub exists_reply : Bool → Option SwiftReply
exists_reply false = None
exists_reply true = Some Exists

abbrev pub put_object_reply : Bool → ℕ → List Pair → Option SwiftReply
put_object_reply fresh status headers =
    if status == 201 then stored_reply headers else (if status == 412 then exists_reply fresh else missing status)

-- 400, which only a list of segments is answered with
abbrev pub put_manifest_reply : ℕ → List Pair → Option SwiftReply
put_manifest_reply status headers = if status == 400 then Some BadManifest else put_object_reply false status headers

-- the segments of an answer that has some, which it says; else it is the object's own bytes
abbrev pub manifest_by : Option Bool → List ℕ → Option SwiftReply
manifest_by None body = None
manifest_by (Some false) body = Some NotFound
manifest_by (Some true) body = option_map (λ segments. Manifest segments) (segments_in Got body)

abbrev pub get_manifest_reply : ℕ → List Pair → List ℕ → Option SwiftReply
get_manifest_reply status headers body = if status == 200 then manifest_by (reply_segments_flag_in headers) body else missing status

abbrev pub head_reply : List Pair → Option SwiftReply
head_reply headers = option_map (λ head. Head head) (head_in (answer_content_length headers) headers)

abbrev pub head_object_reply : ℕ → List Pair → Option SwiftReply
head_object_reply status headers = if status == 200 then head_reply headers else missing status

-- so many bytes are those of the range of an object of this size
abbrev pub is_part : Option (ℕ × ℕ) → ℕ → ℕ → Bool
is_part None size count = count == size
is_part (Some range) size count = nat_lt range.0 size && count == min (range.1 + 1) size - range.0

abbrev pub sized_bytes_reply : Option (ℕ × ℕ) → Option StoredHead → List ℕ → Option SwiftReply
sized_bytes_reply range None body = None
sized_bytes_reply range (Some head) body = if is_part range head.size (length body) then Some (Bytes head body) else None

-- 206, which only a range is answered with
abbrev pub part_reply : Option (ℕ × ℕ) → List Pair → List ℕ → Option SwiftReply
part_reply None headers body = None
part_reply (Some range) headers body = sized_bytes_reply (Some range) (head_in (whole_size_in headers) headers) body

-- 416, which only a range is answered with
abbrev pub beyond : Option (ℕ × ℕ) → Option SwiftReply
beyond None = None
beyond (Some range) = Some Unsatisfiable

abbrev pub bytes_reply : Option (ℕ × ℕ) → ℕ → List Pair → List ℕ → Option SwiftReply
bytes_reply range status headers body =
    if status == 200 then sized_bytes_reply range (head_in (answer_content_length headers) headers) body
    else (if status == 206 then part_reply range headers body else (if status == 416 then beyond range else missing status))

-- the reply that an answer gives to a call, if it gives one
abbrev pub reply_of : SwiftRequest → Said → Option SwiftReply
reply_of (ListContainers marker limit) s = containers_reply s.status s.body
reply_of (HeadContainer container) s = head_container_reply s.status s.headers
reply_of (PutContainer container readers created) s = put_reply s.status
reply_of (PostContainer container readers) s = gone s.status
reply_of (DeleteContainer container) s = delete_reply s.status
reply_of (ListNames container prefix marker limit) s = names_reply s.status s.body
reply_of (PutObject put) s = put_object_reply put.fresh s.status s.headers
reply_of (PutManifest container name content_type meta segments) s = put_manifest_reply s.status s.headers
reply_of (HeadObject container name) s = head_object_reply s.status s.headers
reply_of (GetObject container name range) s = bytes_reply range s.status s.headers s.body
reply_of (GetManifest container name) s = get_manifest_reply s.status s.headers s.body
reply_of (DeleteObject container name) s = gone s.status

-- ---- spellings

-- the calls that are sent with HEAD, so that their answers have no body (RFC 9110, section 9.3.2)
abbrev pub asks_head : SwiftRequest → Bool
asks_head (ListContainers marker limit) = false
asks_head (HeadContainer container) = true
asks_head (PutContainer container readers created) = false
asks_head (PostContainer container readers) = false
asks_head (DeleteContainer container) = false
asks_head (ListNames container prefix marker limit) = false
asks_head (PutObject put) = false
asks_head (PutManifest container name content_type meta segments) = false
asks_head (HeadObject container name) = true
asks_head (GetObject container name range) = false
asks_head (GetManifest container name) = false
asks_head (DeleteObject container name) = false

-- the body, where the bytes are a head of this length and exactly the body that has to follow
abbrev pub reply_body_by_size : List ℕ → ℕ → Option ℕ → Option (List ℕ)
reply_body_by_size bytes len None = None
reply_body_by_size bytes len (Some size) = if length (drop len bytes) == size then Some (drop len bytes) else None

-- what an answer of a head and a body says
abbrev pub said : ResponseHead → List ℕ → Said
said h body = record { status = status_code h; headers = headers_in h; body = body }

-- the bytes are one whole answer, which gives this reply to the call
abbrev pub SpellsAnswer : SwiftRequest → SwiftReply → List ℕ → Type 0
SpellsAnswer call reply bytes =
    (h : ResponseHead) × (n m : ℕ) × IsAnswer (asks_head call) bytes h n m × (reply_of call (said h (drop n bytes)) ≡ Some reply)

-- the bytes give no reply to the call
abbrev pub SpellsNone : SwiftRequest → List ℕ → Type 0
SpellsNone call bytes = (reply : SwiftReply) → ¬ (SpellsAnswer call reply bytes)

-- what is read of an answer to a call: the reply that its bytes spell, or that they spell none
abbrev pub ReadsAnswer : SwiftRequest → List ℕ → Result SwiftReply WireFault → Type 0
ReadsAnswer call bytes (Ok reply) = SpellsAnswer call reply bytes
ReadsAnswer call bytes (Err NotAnAnswer) = SpellsNone call bytes
ReadsAnswer call bytes (Err NotACall) = ⊥
ReadsAnswer call bytes (Err Memory) = ⊤
