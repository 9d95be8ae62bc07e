-- What a store answers to a message, and what it does. Source: Object Storage API v1; that a wrong token comes before a
-- wrong call is this profile's.
use Rattle.std.specs.Prelude.{◌≡◌, ◌⊎◌, ℕ, ◌+◌, ◌-◌, min, nat_lt, if◌then◌else◌, Bool, true, false, IsTrue, List, ◌++◌, Option, None, Some, Result, Ok, Err}
use Rattle.std.specs.Option.{option_map}
use Rattle.http_wire.specs.declared.message.Message.{Message}
use Rattle.swift_calls.specs.Account.{SwiftAccount}
use Rattle.slo_manifest.specs.declared.Segment.{Segment}
use Rattle.swift_calls.specs.Bodies.{Look, etag_text, joined, joined_etags, outer_bytes}
use Rattle.swift_calls.specs.Step.{swift_step}
use Rattle.swift_calls.specs.declared.calls.SwiftRequest.{SwiftRequest}
use Rattle.swift_calls.specs.declared.calls.SwiftRequest.TheVariants.{
  ListContainers,
  HeadContainer,
  PutContainer,
  PostContainer,
  DeleteContainer,
  ListNames,
  PutObject,
  PutManifest,
  HeadObject,
  GetObject,
  GetManifest,
  DeleteObject,
}
use Rattle.swift_calls.specs.declared.heads.StoredHead.{StoredHead}
use Rattle.swift_calls.specs.declared.calls.SwiftReply.{SwiftReply}
use Rattle.swift_calls.specs.declared.calls.SwiftReply.TheVariants as replies
use Rattle.swift_replies.specs.AnswerText.{answer_text, refusal}
use Rattle.swift_requests.specs.Calls.{SpellsCall}
use Rattle.swift_requests.specs.Place.{HasToken}
use Rattle.swift_requests.specs.declared.place.Place.{Place}
use Rattle.swift_store.specs.Listed.{window}
use Rattle.swift_store.specs.Made.{IsSized}
use Rattle.swift_store.specs.declared.faults.StoreFault.{StoreFault}
use Rattle.swift_store.specs.declared.faults.StoreFault.TheVariants.{Failed, Memory}

-- ---- replies

abbrev pub is_gone_reply : SwiftReply → Bool
is_gone_reply replies.Gone = true
is_gone_reply reply = false

-- the ETag of the object that was put
abbrev pub etag_in : SwiftReply → Option (List ℕ)
etag_in (replies.Stored etag) = Some etag
etag_in reply = None

-- an ETag that is answered is that of the body
abbrev pub TagsWith : List ℕ → SwiftReply → Type 0
TagsWith body (replies.Stored etag) = etag ≡ etag_text body
TagsWith body reply = Unit {0}

-- that of listed segments is of their ETags in a row, and together they are of a size that an object may have
abbrev pub TagsList : List Segment → SwiftReply → Type 0
TagsList segments (replies.Stored etag) = (etag ≡ etag_text (joined_etags segments)) × IsSized segments
TagsList segments reply = Unit {0}

abbrev pub TagsBody : SwiftRequest → SwiftReply → Type 0
TagsBody (ListContainers marker limit) reply = Unit {0}
TagsBody (HeadContainer container) reply = Unit {0}
TagsBody (PutContainer container readers created) reply = Unit {0}
TagsBody (PostContainer container readers) reply = Unit {0}
TagsBody (DeleteContainer container) reply = Unit {0}
TagsBody (ListNames container prefix marker limit) reply = Unit {0}
TagsBody (PutObject put) reply = TagsWith put.body reply
TagsBody (PutManifest container name content_type meta segments) reply = TagsList segments reply
TagsBody (HeadObject container name) reply = Unit {0}
TagsBody (GetObject container name range) reply = Unit {0}
TagsBody (GetManifest container name) reply = Unit {0}
TagsBody (DeleteObject container name) reply = Unit {0}

-- the reply to a PUT of segments into a container that is there
abbrev pub shelf_reply_to_manifest : Bool → List Segment → SwiftReply
shelf_reply_to_manifest true segments = replies.Stored (etag_text (joined_etags segments))
shelf_reply_to_manifest false segments = replies.BadManifest

-- the reply to a call of an account
abbrev pub IsReply : SwiftRequest → SwiftAccount → SwiftReply → Type 0
IsReply call account reply = reply ≡ (swift_step call account).reply

-- from where to where an object of a size is read; nothing where the range begins past its end
abbrev pub served_bounds : Option (ℕ × ℕ) → ℕ → Option (ℕ × ℕ)
served_bounds None size = Some (0, size)
served_bounds (Some range) size = if nat_lt range.0 size then Some (range.0, min (range.1 + 1) size) else None

-- the bytes of a range of bytes of a size
abbrev pub parted : Option (ℕ × ℕ) → ℕ → List ℕ → Option (List ℕ)
parted range size bytes = option_map (λ ends. window ends.0 (ends.1 - ends.0) bytes) (served_bounds range size)

-- of segments in a row, if each is there
abbrev pub listed_part : Look → Option (ℕ × ℕ) → ℕ → Option (List Segment) → Option (Option (List ℕ))
listed_part look range size None = None
listed_part look range size (Some segments) = option_map (parted range size) (joined (outer_bytes look) segments)

-- the reply by what was read of an object that lists segments: nothing where one isn't there, and none of its bytes where the range
-- isn't
abbrev pub reply_of : StoredHead → Option (Option (List ℕ)) → SwiftReply
reply_of head None = replies.NotFound
reply_of head (Some None) = replies.Unsatisfiable
reply_of head (Some (Some body)) = replies.Bytes head body

-- ---- one call

-- what serving a call appended, and where the shelf is observable what it answered and what it left. Over any shelf what was
-- appended answers the call with some reply
abbrev pub Answers : Bool → SwiftRequest → SwiftAccount → SwiftAccount → List ℕ → List ℕ → Result (Unit {0}) StoreFault → Type 0
Answers told call old new before after (Ok done) =
    (reply : SwiftReply) × (after ≡ before ++ answer_text call reply)
    × (IsTrue told → (reply ≡ (swift_step call old).reply) × (new ≡ (swift_step call old).tree))
Answers told call old new before after (Err Failed) = (after ≡ before) × (IsTrue told → (new ≡ old) ⊎ (new ≡ (swift_step call old).tree))
Answers told call old new before after (Err Memory) = (after ≡ before) × (IsTrue told → new ≡ old)

-- ---- one message

-- a message without the token, and one that is no call
abbrev pub IsStranger : Place → Message → Type 0
IsStranger place message = ¬ (HasToken place message)

abbrev pub IsNoCall : Place → Message → Type 0
IsNoCall place message = HasToken place message × ((call : SwiftRequest) → ¬ (SpellsCall place call message))

abbrev pub IsCall : Place → SwiftRequest → Message → Type 0
IsCall place call message = HasToken place message × SpellsCall place call message

-- a refusal was appended, and nothing changed
abbrev pub Refuses : Bool → ℕ → SwiftAccount → SwiftAccount → List ℕ → List ℕ → Type 0
Refuses told status old new before after = (after ≡ before ++ refusal status) × (IsTrue told → new ≡ old)

-- what serving a message appended, and where the shelf is observable what it answered and what it left
abbrev pub Served : Bool → Place → Message → SwiftAccount → SwiftAccount → List ℕ → List ℕ → Result (Unit {0}) StoreFault → Type 0
Served told place message old new before after (Ok done) =
    (IsStranger place message × Refuses told 401 old new before after)
    ⊎ ((IsNoCall place message × Refuses told 400 old new before after)
    ⊎ ((call : SwiftRequest) × IsCall place call message × Answers told call old new before after (Ok done)))
Served told place message old new before after (Err Failed) =
    (call : SwiftRequest) × IsCall place call message × Answers told call old new before after (Err Failed)
Served told place message old new before after (Err Memory) = (after ≡ before) × (IsTrue told → new ≡ old)
