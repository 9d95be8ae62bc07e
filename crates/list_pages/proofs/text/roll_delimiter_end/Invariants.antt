use Rattle.std.proofs.Common.{◌≡◌, ◌++◌, take, drop}
use Rattle.std.specs.Option.{option_map}
use Rattle.s3_machine.specs.Items.{rolled}
use Rattle.list_pages.proofs.text.roll_delimiter_end.Given as goal

abbrev pub invariant-loop-i : goal.invariant-loop-i
invariant-loop-i l = option_map (λ t. take l.i l.text ++ t) (rolled l.delimiter (drop l.i l.text)) ≡ rolled l.delimiter l.text
