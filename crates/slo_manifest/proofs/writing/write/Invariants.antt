use Rattle.std.proofs.Common.{◌≡◌, map, take}
use Rattle.serde_json.specs.View.{view}
use Rattle.slo_manifest.specs.Text.{entry_value}
use Rattle.slo_manifest.proofs.writing.write.Given as goal

-- the entries of the segments so far
abbrev pub invariant-loop-segment : goal.invariant-loop-segment
invariant-loop-segment l = map view l.entries.items ≡ map (entry_value l.form) (take l.segment-index l.segments)
