use Rattle.std.proofs.Common.{◌≡◌, take}
use Rattle.std.specs.Prelude.{flat_map}
use Rattle.swift_marks.specs.Pack.{entry_text}
use Rattle.swift_marks.proofs.packs.pack_entries_text.Given as goal

abbrev pub invariant-loop-entry : goal.invariant-loop-entry
invariant-loop-entry l = l.text ≡ flat_map entry_text (take l.entry-index l.entries)
