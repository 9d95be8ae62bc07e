-- The sub-manifests of an object of many parts. Source: Object Storage API v1, "Static large objects".
use Rattle.std.specs.Prelude.{ℕ, List, sum_by}
use Rattle.slo_manifest.specs.declared.Segment.{Segment}

-- how many bytes segments have
abbrev pub sum_of : List Segment → ℕ
sum_of segments = sum_by (λ s. s.size) segments
