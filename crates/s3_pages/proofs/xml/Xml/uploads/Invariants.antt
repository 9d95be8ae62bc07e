use Rattle.std.proofs.Common.{◌≡◌, ◌++◌, take}
use Rattle.std.specs.List.{flat_map}
use Rattle.s3_pages.specs.Bodies.{upload_element}
use Rattle.s3_pages.proofs.xml.Xml.uploads.Given as goal

abbrev pub invariant-loop-item : goal.invariant-loop-item
invariant-loop-item l = l.self.text ≡ l.initial.self.text ++ flat_map (upload_element l.fn.url) (take l.item-index l.items)
