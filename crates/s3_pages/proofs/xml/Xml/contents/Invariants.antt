use Rattle.std.proofs.Common.{◌≡◌, ◌++◌, take}
use Rattle.std.specs.List.{flat_map}
use Rattle.s3_pages.specs.Bodies.{contents_of}
use Rattle.s3_pages.proofs.xml.Xml.contents.Given as goal

abbrev pub invariant-loop-item : goal.invariant-loop-item
invariant-loop-item l = l.self.text ≡ l.initial.self.text ++ flat_map (contents_of l.fn.asked) (take l.item-index l.items)
