-- Texts within their limits.
use Rattle.std.specs.Prelude.{◌≡◌, true, ℕ, ◌<◌, ◌≤◌, List, length, Contains}
use Rattle.std.specs.Str.{is_utf8}
use Rattle.std.proofs.lemmas.Str.{is_utf8-from_IsUtf8, IsUtf8-from_is_utf8}
use Rattle.slo_manifest.specs.Segments.{is_segment}
use Rattle.slo_manifest.specs.declared.Segment.{Segment}
use Rattle.swift_calls.specs.Limits.{IsText, IsObjectName}
use Rattle.swift_calls.specs.Step.{IsContainerName, IsSegmentPlace}

pub text_is : (most : ℕ) (text : List ℕ) → length text ≤ most → is_utf8 text ≡ true → ¬ (Contains text 0) → IsText most text
text_is most text within utf8 no_zero = record { within = within; utf8 = IsUtf8-from_is_utf8 text utf8; no_zero = no_zero }

pub text_is_utf8 : (most : ℕ) (text : List ℕ) → IsText most text → is_utf8 text ≡ true
text_is_utf8 most text is = is_utf8-from_IsUtf8 text is.utf8

pub container_name_is : (name : List ℕ) → 0 < length name → IsText 256 name → IsContainerName name
container_name_is name filled text = record { filled = filled; within = text.within; text = text.utf8; no_zero = text.no_zero }

pub segment_place_is : (s : Segment) → IsContainerName s.container → IsObjectName s.name → is_segment s ≡ true → IsSegmentPlace s
segment_place_is s container name listable = record { container = container; name = name; listable = listable }
