use Rattle.std.proofs.Common.{◌≡◌, true, map, take}
use Rattle.std.specs.List.{list_all}
use Rattle.serde_json.specs.View.{view}
use Rattle.slo_manifest.specs.Segments.{is_segment}
use Rattle.slo_manifest.specs.Entry.{whole, entry_of}
use Rattle.slo_manifest.proofs.reading.read_manifest_entries.Given as goal

-- the entries so far are the segments, and these may be listed
abbrev pub invariant-loop-index : goal.invariant-loop-index
invariant-loop-index l =
    (map (λ value. entry_of l.form (view value)) (take l.index l.entries) ≡ map whole l.segments) × (list_all is_segment l.segments ≡ true)
