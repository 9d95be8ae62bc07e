use Rattle.std.proofs.Common.{take}
use Rattle.s3_bodies.specs.DeleteReaders.{texts_of}
use Rattle.s3_bodies.specs.KeyText.{NameKeys}
use Rattle.s3_bodies.proofs.key.keys.Given as goal

abbrev pub invariant-texts : goal.invariant-texts
invariant-texts l = NameKeys (texts_of (take l.text-index l.texts)) l.keys
