-- The ETag of a static large object. Source: Object Storage API v1, "Static large objects": the MD5 (RFC 1321) of the
-- concatenated ETags of the segments.
use Rattle.std.specs.Prelude.{ℕ, List, map}
use Rattle.std.specs.List.{concat}
use Rattle.hex.specs.Hex.{encode_lower}
use Rattle.md5.specs.Md5.{md5}
use Rattle.slo_manifest.specs.declared.Segment.{Segment}

abbrev pub joined_etags : List Segment → List ℕ
joined_etags segments = concat (map (λ s. s.etag) segments)

-- the ETag of a static large object: the MD5 of the ETags of its segments, joined
abbrev pub joined_etag : List Segment → List ℕ
joined_etag segments = encode_lower (md5 (joined_etags segments))
