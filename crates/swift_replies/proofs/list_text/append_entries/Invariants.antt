use Rattle.std.proofs.Common.{◌≡◌, map, take}
use Rattle.serde_json.specs.View.{view}
use Rattle.swift_replies.proofs.list_text.append_entries.Given as goal

-- the entries so far
abbrev pub invariant-loop-item : goal.invariant-loop-item
invariant-loop-item g l = map view l.entries.items ≡ map g.T.Listed.written (take l.item-index l.items)
