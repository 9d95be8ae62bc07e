use Rattle.std.proofs.Common.{◌≡◌, map, take}
use Rattle.serde_json.specs.View.{view}
use Rattle.upload_texts.specs.Sealed.{sealed_part_json}
use Rattle.upload_texts.proofs.values.sealed_parts_json.Given as goal

-- the values of those so far
abbrev pub invariant-loop-part : goal.invariant-loop-part
invariant-loop-part l = map view l.values.items ≡ map sealed_part_json (take l.part-index l.parts)
