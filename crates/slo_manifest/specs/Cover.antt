-- Where a byte of joined segments lies (Object Storage API v1, "Static large objects": the object's bytes are those of
-- its segments, one behind the other).
use Rattle.std.specs.Prelude.{◌≡◌, ℕ, ◌+◌, ◌<◌, List, length, slice_index, sum, take}

-- byte `at` of them all is byte `within` of the segment `index`
abbrev pub Lies : List ℕ → ℕ → ℕ → ℕ → Type 0
Lies sizes at index within = (index < length sizes) × (sum (take index sizes) + within ≡ at) × (within < slice_index sizes index)
