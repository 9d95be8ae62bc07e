use Rattle.std.proofs.Common.{◌≡◌, ◌++◌, take}
use Rattle.std.specs.List.{All, filter_map}
use Rattle.s3_machine.specs.Shown.{IsShownPart}
use Rattle.upload_calls.specs.Listing.{part_due}
use Rattle.upload_calls.proofs.listed_parts.add_parts.Given as goal

abbrev pub invariant-loop-item : goal.invariant-loop-item
invariant-loop-item l = record {
  due : l.parts ≡ l.initial.parts ++ filter_map (part_due l.prefix) (take l.item-index l.page);
  dated : All IsShownPart l.initial.parts → All IsShownPart l.parts;
}
