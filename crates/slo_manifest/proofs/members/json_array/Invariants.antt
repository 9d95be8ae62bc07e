use Rattle.std.proofs.Common.{◌≡◌, map, take}
use Rattle.serde_json.specs.View.{view}
use Rattle.slo_manifest.specs.Members.{field_json}
use Rattle.slo_manifest.proofs.members.json_array.Given as goal

abbrev pub invariant-loop-field : goal.invariant-loop-field
invariant-loop-field l = map view l.values.items ≡ map field_json (take l.field-index l.fields)
