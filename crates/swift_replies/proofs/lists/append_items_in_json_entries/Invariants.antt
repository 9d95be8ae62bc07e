use Rattle.std.proofs.Common.{◌≡◌, Some, take}
use Rattle.json.specs.Value.{items_view}
use Rattle.swift_replies.specs.Answers.{each}
use Rattle.swift_replies.proofs.lists.append_items_in_json_entries.Given as goal

abbrev pub invariant-loop-entry : goal.invariant-loop-entry
invariant-loop-entry g l = each g.T.Listed.gives (items_view (take l.entry-index l.entries)) ≡ Some l.items
