use Rattle.swift_marks.proofs.lemmas.FieldLaws.{pack_is_small}
use Rattle.swift_marks.proofs.laws.law_pack_is_small.Goals as goal

pub returns : goal.returns
returns c = λ entries h. pack_is_small entries h
