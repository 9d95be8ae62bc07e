-- The accounts that calls within their limits make. Source: Object Storage API v1, with the bounds of `Fit`.
use Rattle.std.specs.Prelude.{◌≡◌, ◌<◌, ◌≤◌, ◌^◌, ℕ, IsTrue, List, length, sum_by, Some, IfSome}
use Rattle.std.specs.FinMap.{get}
use Rattle.std.specs.List.{All}
use Rattle.slo_manifest.specs.declared.Segment.{Segment}
use Rattle.swift_calls.specs.Account.{SwiftAccount, SwiftContainer, SwiftObject}
use Rattle.swift_calls.specs.Limits.{IsObjectName, is_content_type, is_meta, most_body, most_segments}
use Rattle.swift_calls.specs.Step.{IsContainerName, IsMoment, IsSegmentPlace}
use Rattle.swift_calls.specs.declared.account.Content.{Content}
use Rattle.swift_calls.specs.declared.account.Content.TheVariants.{Plain, Segments}

-- segments that are listed together: at least one, and of less than 2^63 bytes
pub record IsSized (segments : List Segment) : Type 0 where
  pub filled : 0 < length segments
  pub size : sum_by (λ s. s.size) segments < 2 ^ 63

-- segments that a call lists: such ones, at most 1000, each of them within its limits
pub record IsMadeList (segments : List Segment) : Type 0 where
  pub sized : IsSized segments
  pub within : length segments ≤ most_segments
  pub places : All IsSegmentPlace segments

-- bytes of its own, at most 1 GiB, or such segments
pub record IsMadeContent (content : Content) : Type 0 where
  pub own : (bytes : List ℕ) → content ≡ Plain bytes → length bytes ≤ most_body
  pub list : (segments : List Segment) → content ≡ Segments segments → IsMadeList segments

-- an object that a call puts under a name
pub record IsMadeObject (name : List ℕ) (object : SwiftObject) : Type 0 where
  pub named : IsObjectName name
  pub content_type : IsTrue (is_content_type object.content_type)
  pub meta : IsTrue (is_meta object.meta)
  pub content : IsMadeContent object.content

-- a container that calls make under a name, with such objects
pub record IsMadeContainer (name : List ℕ) (container : SwiftContainer) : Type 0 where
  pub named : IsContainerName name
  pub created : IfSome container.created IsMoment
  pub objects : (n : List ℕ) (object : SwiftObject) → get container.files n ≡ Some object → IsMadeObject n object

-- each container is such a one
abbrev pub IsMade : SwiftAccount → Type 0
IsMade account = (name : List ℕ) (container : SwiftContainer) → get account name ≡ Some container → IsMadeContainer name container
