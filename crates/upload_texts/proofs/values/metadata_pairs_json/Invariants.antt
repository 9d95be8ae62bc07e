use Rattle.std.proofs.Common.{◌≡◌, map, take}
use Rattle.serde_json.specs.View.{view}
use Rattle.upload_texts.specs.Places.{metadata_pair_json}
use Rattle.upload_texts.proofs.values.metadata_pairs_json.Given as goal

-- the values of those so far
abbrev pub invariant-loop-pair : goal.invariant-loop-pair
invariant-loop-pair l = map view l.values.items ≡ map metadata_pair_json (take l.pair-index l.pairs)
