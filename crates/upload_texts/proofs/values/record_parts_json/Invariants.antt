use Rattle.std.proofs.Common.{◌≡◌, map, take}
use Rattle.serde_json.specs.View.{view}
use Rattle.upload_texts.specs.Places.{record_part_json}
use Rattle.upload_texts.proofs.values.record_parts_json.Given as goal

-- the values of those so far
abbrev pub invariant-loop-listed : goal.invariant-loop-listed
invariant-loop-listed l = map view l.values.items ≡ map record_part_json (take l.listed-index l.list)
