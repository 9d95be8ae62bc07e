use Rattle.std.proofs.Common.{◌≡◌, ◌++◌, map, nat_lt}
use Rattle.std.specs.List.{filter}
use Rattle.s3_machine.specs.Uploads.{part_item}
use Rattle.s3_native.specs.Numbered.{numbered_of}
use Rattle.s3_native.proofs.upload.Numbered+NativePart.items_above.Given as goal

abbrev pub invariant-loop-number : goal.invariant-loop-number
invariant-loop-number l =
    l.items ++ map part_item (filter (λ e. nat_lt l.marker e.0) (map numbered_of l.number-iterator))
    ≡ map part_item (filter (λ e. nat_lt l.marker e.0) (map numbered_of l.initial.number-iterator))
