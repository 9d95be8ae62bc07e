use Rattle.std.proofs.Common.{◌≡◌, ◌++◌, take}
use Rattle.s3_pages.specs.Xml.{escaped}
use Rattle.s3_pages.proofs.xml.Xml.escape_each.Given as goal

abbrev pub invariant-loop-byte : goal.invariant-loop-byte
invariant-loop-byte l = l.self.text ≡ l.initial.self.text ++ escaped (take l.byte-index l.text)
