use Rattle.std.proofs.Common.{◌≡◌, ◌++◌, take}
use Rattle.std.specs.List.{flat_map}
use Rattle.s3_pages.specs.Bodies.{bucket_element}
use Rattle.s3_pages.proofs.xml.Xml.buckets.Given as goal

abbrev pub invariant-loop-item : goal.invariant-loop-item
invariant-loop-item l = l.self.text ≡ l.initial.self.text ++ flat_map bucket_element (take l.item-index l.items)
