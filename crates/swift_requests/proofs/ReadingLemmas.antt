-- The calls that a message makes, by what was read of it.
use Rattle.std.proofs.Common.{◌≡◌, ℕ, Bool, true, false, cond, List, [], Option, Some, None, refl, sym, ap, ◌∙◌}
use Rattle.std.specs.Prelude.{codes, bytes_eq, option_map, option_and_then}
use Rattle.http_wire.specs.declared.message.Message.{Message}
use Rattle.s3_names.specs.Target.{query_text}
use Rattle.slo_manifest.specs.declared.Segment.{Segment}
use Rattle.slo_manifest.specs.declared.manifest.Form.TheVariants.{Put}
use Rattle.http_answers.specs.Fields.{only}
use Rattle.swift_calls.specs.declared.calls.SwiftRequest.{SwiftRequest}
use Rattle.swift_calls.specs.declared.calls.SwiftRequest.TheVariants.{PutObject, PutManifest}
use Rattle.swift_replies.specs.Answers.{both, segments_in}
use Rattle.swift_replies.specs.Fields.{meta_in}
use Rattle.swift_requests.specs.Paths.{path_of}
use Rattle.swift_requests.specs.Calls.{account_in, call_at, call_of, call_within, fresh_in, listed_by, manifest_content, path_at, path_within, plain_content, put_by, put_content, put_manifest, put_object, unasked}
use Rattle.swift_requests.specs.declared.paths.Path.{Path}
use Rattle.swift_requests.specs.declared.place.Place.{Place}

abbrev no_call : Option SwiftRequest
no_call = None

-- ---- the path

if_own : (own : Bool) (path : Path) (message : Message) → option_and_then (λ p. call_at p message) (cond own (Some path) None) ≡ cond own (call_at path message) None
if_own true path message = refl
if_own false path message = refl

within : (place : Place) (message : Message) (path : Option Path) → option_and_then (λ p. call_at p message) (path_within place path) ≡ call_within place message path
within place message None = refl
within place message (Some path) = if_own (bytes_eq (account_in path) place.account) path message

by_path : (place : Place) (message : Message) → option_and_then (λ p. call_at p message) (path_at place message.target) ≡ call_of place message
unfolding path_at
by_path place message = within place message (path_of message.target)

abbrev no_path : Option Path
no_path = None

pub none_at : (place : Place) (message : Message) → no_path ≡ path_at place message.target → no_call ≡ call_of place message
none_at place message none = ap (option_and_then (λ p. call_at p message)) none ∙ by_path place message

pub call_at_path : (place : Place) (message : Message) (path : Path) → Some path ≡ path_at place message.target → call_at path message ≡ call_of place message
call_at_path place message path some = ap (option_and_then (λ p. call_at p message)) some ∙ by_path place message

-- ---- PUT of an object

abbrev Content : Type 0
Content = List ℕ × List (List ℕ)

abbrev no_content : Option Content
no_content = None

abbrev no_fresh : Option Bool
no_fresh = None

-- an object with that content, for which that is asked
abbrev made_object : List ℕ → List ℕ → List ℕ → Bool → Content → SwiftRequest
made_object container name body fresh c =
    PutObject (record { container = container; name = name; content_type = c.0; meta = c.1; body = body; fresh = fresh })

object_of : (container name body : List ℕ) (content_type : Option (List ℕ)) (meta : Option (List (List ℕ))) (fresh : Bool)
    → option_map (made_object container name body fresh) (both (λ t m. (t, m)) content_type meta) ≡ put_by container name body content_type meta (Some fresh)
object_of container name body None meta fresh = refl
object_of container name body (Some t) None fresh = refl
object_of container name body (Some t) (Some m) fresh = refl

if_unasked : (container name : List ℕ) (message : Message) (fresh plain : Bool) → Some fresh ≡ fresh_in message.headers
    → option_map (made_object container name message.body fresh) (cond plain (put_content message.headers) None) ≡ cond plain (put_object container name message) None
unfolding put_content
if_unasked container name message fresh true asked =
    object_of container name message.body (only (codes "content-type") message.headers) (meta_in message.headers) fresh
    ∙ ap (put_by container name message.body (only (codes "content-type") message.headers) (meta_in message.headers)) asked
if_unasked container name message fresh false asked = refl

by_content : (container name : List ℕ) (message : Message) (fresh : Bool) → Some fresh ≡ fresh_in message.headers
    → option_map (made_object container name message.body fresh) (plain_content message) ≡ unasked message (put_object container name message)
unfolding plain_content
by_content container name message fresh asked = if_unasked container name message fresh (bytes_eq (query_text message.target) []) asked

pub object_given : (container name content_type : List ℕ) (meta : List (List ℕ)) (fresh : Bool) (message : Message) → Some fresh ≡ fresh_in message.headers
    → Some (content_type, meta) ≡ plain_content message
    → Some (PutObject (record { container = container; name = name; content_type = content_type; meta = meta; body = message.body; fresh = fresh }))
    ≡ unasked message (put_object container name message)
object_given container name content_type meta fresh message asked some =
    ap (option_map (made_object container name message.body fresh)) some ∙ by_content container name message fresh asked

pub object_none : (container name : List ℕ) (fresh : Bool) (message : Message) → Some fresh ≡ fresh_in message.headers → no_content ≡ plain_content message
    → no_call ≡ unasked message (put_object container name message)
object_none container name fresh message asked none =
    ap (option_map (made_object container name message.body fresh)) none ∙ by_content container name message fresh asked

-- what it asks isn't known
none_by : (container name body : List ℕ) (content_type : Option (List ℕ)) (meta : Option (List (List ℕ))) → no_call ≡ put_by container name body content_type meta None
none_by container name body None meta = refl
none_by container name body (Some t) None = refl
none_by container name body (Some t) (Some m) = refl

same_none : (plain : Bool) → no_call ≡ cond plain no_call None
same_none true = refl
same_none false = refl

pub object_unread : (container name : List ℕ) (message : Message) → no_fresh ≡ fresh_in message.headers → no_call ≡ unasked message (put_object container name message)
object_unread container name message none =
    same_none (bytes_eq (query_text message.target) [])
    ∙ ap (unasked message) (none_by container name message.body (only (codes "content-type") message.headers) (meta_in message.headers)
    ∙ ap (put_by container name message.body (only (codes "content-type") message.headers) (meta_in message.headers)) none)

-- ---- PUT of an object that lists segments

abbrev Listed : Type 0
Listed = Content × List Segment

abbrev no_list : Option Listed
no_list = None

abbrev listing : List ℕ → List ℕ → Listed → SwiftRequest
listing container name l = PutManifest container name l.0.0 l.0.1 l.1

manifest_of : (container name : List ℕ) (segments : Option (List Segment)) (content_type : Option (List ℕ)) (meta : Option (List (List ℕ)))
    → option_map (listing container name) (option_and_then (λ (c : Content). option_map (λ s. (c, s)) segments) (both (λ t m. (t, m)) content_type meta))
    ≡ listed_by container name segments content_type meta
manifest_of container name segments None meta = refl
manifest_of container name segments (Some t) None = refl
manifest_of container name None (Some t) (Some m) = refl
manifest_of container name (Some s) (Some t) (Some m) = refl

by_list : (container name : List ℕ) (message : Message) → option_map (listing container name) (manifest_content message) ≡ put_manifest container name message
unfolding manifest_content put_content
by_list container name message = manifest_of container name (segments_in Put message.body) (only (codes "content-type") message.headers) (meta_in message.headers)

-- a list of too many entries
pub manifest_long : (content : Content) (message : Message) → Some content ≡ put_content message.headers → segments_in Put message.body ≡ None
    → no_list ≡ manifest_content message
unfolding manifest_content
manifest_long content message given none =
    ap (option_map (λ segments. (content, segments))) (sym none)
    ∙ ap (option_and_then (λ (c : Content). option_map (λ segments. (c, segments)) (segments_in Put message.body))) given

pub manifest_given : (container name content_type : List ℕ) (meta : List (List ℕ)) (segments : List Segment) (message : Message)
    → Some ((content_type, meta), segments) ≡ manifest_content message → Some (PutManifest container name content_type meta segments) ≡ put_manifest container name message
manifest_given container name content_type meta segments message some = ap (option_map (listing container name)) some ∙ by_list container name message

pub manifest_none : (container name : List ℕ) (message : Message) → no_list ≡ manifest_content message → no_call ≡ put_manifest container name message
manifest_none container name message none = ap (option_map (listing container name)) none ∙ by_list container name message
