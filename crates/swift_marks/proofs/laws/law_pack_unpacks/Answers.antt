use Rattle.swift_marks.proofs.lemmas.PackLaws.{pack_unpacks}
use Rattle.swift_marks.proofs.laws.law_pack_unpacks.Goals as goal

pub returns : goal.returns
returns c = λ entries h. pack_unpacks entries h
