-- Which segments a manifest may list. Source: Object Storage API v1, "Static large objects": at most 1000 segments,
-- each with the MD5 of its object and a size above 0. That a size is below 2^63 is this profile.
use Rattle.std.specs.Prelude.{ℕ, ◌^◌, Bool, not, ◌&&◌, ◌==◌, nat_le, nat_lt, List, length}
use Rattle.std.specs.List.{list_all, list_any}
use Rattle.std.specs.Str.{is_utf8}
use Rattle.gate_base.specs.Ascii.{is_lower_hex, is_slash}
use Rattle.slo_manifest.specs.declared.Segment.{Segment}

-- 32 lower-case hexadecimal digits
unfoldable pub is_etag : List ℕ → Bool
is_etag text = (length text == 32) && list_all is_lower_hex text

abbrev pub is_filled : List ℕ → Bool
is_filled text = nat_lt 0 (length text)

-- what the fields of an entry must be, whatever its size is otherwise
unfoldable pub is_proper_entry : List ℕ → List ℕ → List ℕ → ℕ → Bool
is_proper_entry container name etag size = is_filled container && is_filled name && is_etag etag && nat_lt size (2 ^ 63)

-- what else a segment must be to be listed
unfoldable pub is_listable : List ℕ → List ℕ → ℕ → Bool
is_listable container name size = nat_lt 0 size && not (list_any is_slash container) && is_utf8 container && is_utf8 name

-- a segment that may be listed
unfoldable pub is_segment : Segment → Bool
is_segment s = is_proper_entry s.container s.name s.etag s.size && is_listable s.container s.name s.size

-- segments that have a text
unfoldable pub is_manifest : List Segment → Bool
is_manifest segments = nat_le (length segments) 1000 && list_all is_segment segments
