use Rattle.std.proofs.Common.{◌≡◌, ◌++◌, map}
use Rattle.s3_machine.specs.Step.{bucket_item}
use Rattle.name_table.specs.Table.{entry_of}
use Rattle.s3_native.proofs.native.native_bucket_items.Given as goal

abbrev pub invariant-loop-name : goal.invariant-loop-name
invariant-loop-name l = l.items ++ map (λ e. bucket_item (entry_of e)) l.name-iterator ≡ map (λ e. bucket_item (entry_of e)) l.initial.name-iterator
