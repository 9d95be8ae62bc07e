use Rattle.std.proofs.Common.{◌≡◌, ◌++◌, take}
use Rattle.std.specs.List.{flat_map}
use Rattle.s3_pages.specs.Bodies.{deleted_element}
use Rattle.s3_pages.proofs.xml.Xml.deleted.Given as goal

abbrev pub invariant-loop-key : goal.invariant-loop-key
invariant-loop-key l = l.self.text ≡ l.initial.self.text ++ flat_map deleted_element (take l.key-index l.keys)
