use Rattle.std.proofs.Common.{◌≡◌, ◌++◌, map}
use Rattle.s3_machine.specs.Items.{behind}
use Rattle.s3_machine.specs.Step.{item_of}
use Rattle.name_table.specs.Table.{entry_of}
use Rattle.s3_native.proofs.listing.native_items_behind.Given as goal

abbrev pub invariant-loop-text : goal.invariant-loop-text
invariant-loop-text l = l.items ++ map item_of (behind l.marker (map entry_of l.text-iterator)) ≡ map item_of (behind l.marker (map entry_of l.initial.text-iterator))
