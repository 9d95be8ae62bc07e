use Rattle.std.specs.Prelude.{take}
use Rattle.s3_names.specs.Id.{id_digits}
use Rattle.leftovers.proofs.SealedNames.{NamedSo}
use Rattle.leftovers.proofs.used.add_part_names.Given as goal

abbrev pub invariant-loop-part : goal.invariant-loop-part
invariant-loop-part l = NamedSo (id_digits l.id) l.initial.table l.table (take l.part-index l.parts)
