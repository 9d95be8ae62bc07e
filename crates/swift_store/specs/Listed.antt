-- What a store asks of objects that list segments. Source: Object Storage API v1, "Static large objects".
use Rattle.std.specs.Prelude.{ℕ, ◌^◌, Bool, false, not, ◌&&◌, nat_eq, nat_le, nat_lt, sum_by, List, length, take, drop, Option, None, Some, is_some}
use Rattle.std.specs.List.{list_all}
use Rattle.std.specs.Option.{option_map}
use Rattle.std.specs.Str.{bytes_eq}
use Rattle.slo_manifest.specs.declared.Segment.{Segment}
use Rattle.swift_calls.specs.Limits.{most_segments}
use Rattle.swift_calls.specs.Account.{SwiftObject}
use Rattle.swift_calls.specs.Bodies.{Look, found, inner_bytes, is_list, outer_bytes, listed_in, lists_at}
use Rattle.swift_calls.specs.declared.heads.StoredHead.{StoredHead}

-- the segments that an object lists, if it is there and lists any
abbrev pub segments_at : Option SwiftObject → Option (List Segment)
segments_at None = None
segments_at (Some object) = listed_in object.content

-- a head that is as a segment says
abbrev pub is_shelved_as_listed : Segment → StoredHead → Bool
is_shelved_as_listed s head = bytes_eq head.etag s.etag && nat_eq head.size s.size

-- whether the object of a segment lists segments, if it is there as the segment says
abbrev pub found_lists : Look → Segment → Option Bool
found_lists look s = option_map is_list (found look s)

-- an object that a segment names is there as it says, and its bytes are its own
abbrev pub is_inner : Look → Segment → Bool
is_inner look s = is_some (inner_bytes look s)

-- the same of one that may list such segments
abbrev pub is_outer : Look → Segment → Bool
is_outer look s = is_some (outer_bytes look s)

-- at the place of a segment nothing lists segments
abbrev pub is_no_list_on_shelf : Look → Segment → Bool
is_no_list_on_shelf look s = not (lists_at (look s.container s.name))

-- segments are listed, and each passes
abbrev pub passes_in : (Segment → Bool) → Option (List Segment) → Bool
passes_in test None = false
passes_in test (Some segments) = list_all test segments

-- how many segments an object may list, and of what size together
abbrev pub is_counted : List Segment → Bool
is_counted segments = nat_lt 0 (length segments) && nat_le (length segments) most_segments && nat_lt (sum_by (λ s. s.size) segments) (2 ^ 63)

-- so many bytes behind the first ones
abbrev pub window : ℕ → ℕ → List ℕ → List ℕ
window skip count bytes = take count (drop skip bytes)
